-- The tables of one side, as the engine is handed them.
use Rattle.std.specs.Prelude.{◌≡◌, Bool, List, ℕ}
use Rattle.flow.specs.Flow.{Side}
use Rattle.image.specs.declared.header.Image.{Image}
use Rattle.tables.specs.Inside.Net.{Arcs, Net, side_of, arcs_of, net_of, web_of}
use Rattle.timing.specs.declared.web.Web.{Web}

abbrev pub side_in : Web → Side
side_in w = side_of w.late

abbrev pub arcs_in : Web → Arcs
arcs_in w = arcs_of w.source.now w.lead.now w.cycle

-- its nodes, with no launches: raising asks for none
abbrev pub net_in : Web → Net
net_in w = web_of (arcs_in w) w.first.now w.latch.now

-- and with launches
abbrev pub launched_in : Web → List ℕ → Net
launched_in w launch = net_of (arcs_in w) w.first.now launch w.latch.now

-- it is made of these tables, for that side of an image
pub record MadeOf (is_late : Bool) (image : Image) (sources leads firsts : List ℕ) (latches : List Bool) (w : Web) : Type 0 where
  pub late : w.late ≡ is_late
  pub source : w.source.now ≡ sources
  pub lead : w.lead.now ≡ leads
  pub cycle : w.cycle ≡ image.cycle
  pub first : w.first.now ≡ firsts
  pub latch : w.latch.now ≡ latches
  pub nodes : w.nodes ≡ image.synchronizers
  pub arcs : w.arcs ≡ image.arcs
