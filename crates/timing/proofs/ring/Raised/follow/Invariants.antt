-- `follow` walks back: d arcs are noted, and the node after them.
use mathlib.Core.Path.{◌≡◌}
use Prim.Native.Nat.{ℕ, ◌<◌}
use lib.ListN.{length, get_or}
use Rattle.tables.specs.Inside.Net.{times_of}
use Rattle.timing.specs.Inside.Ring.{Climbs, notes_in}
use Rattle.tables.specs.Inside.Sizes.{ARCS, FIRSTS, NODES}
use Rattle.timing.proofs.ring.Raised.follow.Given as goal

abbrev pub invariant-loop-d : goal.invariant-loop-d
invariant-loop-d l = record {
  nodes_long : length l.nodes ≡ FIRSTS;
  trail_long : length l.trail ≡ NODES;
  climbs : Climbs (notes_in l.self.web l.self.parents.now l.self.base.now l.self.departs.now) l.self.web.nodes l.u l.d (times_of l.nodes) (times_of l.trail) l.node;
  arcs : (x : ℕ) → x < l.d → get_or l.trail x 0 < ARCS;
}
