-- The tables of one side keep their shape with launches beside them.
use mathlib.Core.List.{List}
use Prim.Native.Nat.{ℕ}
use Rattle.tables.specs.Inside.Net.{Shaped}
use Rattle.timing.specs.declared.web.Web.{Web}
use Rattle.timing.specs.Inside.Web.{launched_in}

pub launched_shape : (w : Web) (launch : List ℕ) → Shaped (launched_in w launch) w.nodes w.arcs
launched_shape w launch =
    let h = w.shaped in
    record { nodes = h.nodes; count = h.count; sources = h.sources; rises = h.rises; ends = h.ends; cycle = h.cycle }
