-- `grow`: each pass starts where the one before ended, and after each a ring is looked for.
use mathlib.Core.Path.{◌≡◌}
use mathlib.Core.Logic.{◌⊎◌}
use Rattle.tables.specs.Inside.Net.{times_of}
use Rattle.tables.specs.Inside.Passing.{Climbing, Never}
use Rattle.timing.specs.Inside.Web.{side_in, net_in}
use Rattle.timing.proofs.web.Web.grow.Given as goal

abbrev pub invariant-loop-n : goal.invariant-loop-n
invariant-loop-n l = record {
  lent : l.arcs ≡ l.initial.arcs;
  climbing : Climbing (side_in l.self) (net_in l.self) l.self.nodes (times_of l.initial.departs) l.departs l.parents l.n;
  last : l.n ≡ l.self.nodes → (l.self.nodes ≡ 0) ⊎ Never (side_in l.self) (net_in l.self) l.self.nodes (times_of l.initial.departs);
}
