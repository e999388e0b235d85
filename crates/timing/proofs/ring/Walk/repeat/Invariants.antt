-- `repeat` notes place after place. A node that is noted already is the repeat; the others differ, so it stops before their number is used up.
use Rattle.tables.specs.Inside.Net.{times_of}
use Rattle.timing.specs.Inside.Ring.{Placed}
use Rattle.timing.proofs.ring.Walk.repeat.Given as goal

abbrev pub invariant-loop-d : goal.invariant-loop-d
invariant-loop-d l = Placed (times_of l.self.nodes) l.d l.places
