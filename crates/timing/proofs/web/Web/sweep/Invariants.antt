-- `sweep` raises the synchronizers one after the other.
use Prim.Native.Nat.{◌≤◌}
use Rattle.tables.specs.Inside.Net.{times_of}
use Rattle.tables.specs.Inside.Passing.{to_or_fro, Sweep}
use Rattle.timing.specs.Inside.Web.{side_in, net_in}
use Rattle.timing.proofs.web.Web.sweep.Given as goal

abbrev pub invariant-loop-x : goal.invariant-loop-x
invariant-loop-x l = record {
  swept : Sweep (side_in l.self) (net_in l.self) l.self.nodes (times_of l.initial.departs) (to_or_fro l.forth l.self.nodes) l.x l.departs l.last;
  few : l.last ≤ l.self.nodes;
}
