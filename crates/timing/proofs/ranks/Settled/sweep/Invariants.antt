-- `sweep` looks at the nodes one after the other.
use Rattle.tables.specs.Inside.Net.{times_of}
use Rattle.tables.specs.Inside.Ranks.{Sweeping}
use Rattle.timing.specs.Inside.Web.{launched_in}
use Rattle.timing.proofs.ranks.Settled.sweep.Given as goal

abbrev pub invariant-loop-i : goal.invariant-loop-i
invariant-loop-i l = Sweeping (launched_in l.self.web l.self.launch.now) (times_of l.self.departs.now) l.rank l.initial.ranks l.ranks l.i l.found
