-- The tables of one side are tables that passes can go over.
use Rattle.tables.specs.Inside.Raise.{Sweepable}
use Rattle.timing.specs.declared.web.Web.{Web}
use Rattle.timing.specs.Inside.Web.{net_in}

pub sweepable : (w : Web) → Sweepable (net_in w) w.nodes
sweepable w = record { arcs = w.arcs; shaped = w.shaped; leads = w.leads }
