-- `settle`: passes go on from one another, and each takes its share of the room.
use mathlib.Core.Path.{◌≡◌}
use Prim.Native.Nat.{◌-◌, ◌*◌, ◌≤◌}
use lib.ListN.{length}
use Rattle.tables.specs.Inside.Net.{times_of}
use Rattle.tables.specs.Inside.Raise.{Room}
use Rattle.tables.specs.Inside.Passing.{to_or_fro, Onward, Rested}
use Rattle.tables.specs.Inside.Sizes.{NODES, RAISES}
use Rattle.timing.specs.Inside.Web.{side_in, net_in}
use Rattle.timing.proofs.web.Web.settle.Given as goal

abbrev pub invariant-loop-n : goal.invariant-loop-n
invariant-loop-n l = record {
  long : length l.departs ≡ NODES;
  onward : Onward (side_in l.self) (net_in l.self) l.self.nodes (times_of l.initial.departs) (times_of l.departs);
  room : Room l.self.nodes (RAISES - l._n * NODES) (times_of l.departs);
  few : l.start ≤ l.self.nodes;
  rested : Rested (side_in l.self) (net_in l.self) (times_of l.departs) (to_or_fro l.forth l.self.nodes) l.start;
}
