-- `pass` tries the synchronizers one after the other, in the order given.
use Prim.Native.Nat.{◌≤◌}
use Rattle.tables.specs.Inside.Net.{times_of}
use Rattle.tables.specs.Inside.Passing.{along, Passing}
use Rattle.timing.specs.Inside.Web.{side_in, net_in}
use Rattle.timing.proofs.web.Web.pass.Given as goal

abbrev pub invariant-loop-x : goal.invariant-loop-x
invariant-loop-x l = record {
  passing : Passing (side_in l.self) (net_in l.self) l.self.nodes (times_of l.initial.departs) (times_of l.initial.parents) (along l.order l.forth l.self.nodes) l.x l.departs l.parents l.last;
  few : l.last ≤ l.self.nodes;
}
