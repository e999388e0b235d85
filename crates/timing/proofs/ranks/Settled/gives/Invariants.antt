-- `gives` walks the arcs: none of those before arc a is asked for.
use Rattle.tables.specs.Inside.Net.{times_of}
use Rattle.tables.specs.Inside.Ranks.{GivenBy}
use Rattle.timing.specs.Inside.Web.{arcs_in}
use Rattle.timing.proofs.ranks.Settled.gives.Given as goal

abbrev pub invariant-loop-a : goal.invariant-loop-a
invariant-loop-a l = GivenBy (arcs_in l.self.web) (times_of l.self.departs.now) (times_of l.ranks) l.time l.rank l.from l.a → ⊥
