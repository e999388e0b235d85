-- `write` stores an arc at a time: after x stores the buffer has the first x arcs.
use mathlib.Core.Path.{◌≡◌}
use Rattle.tables.specs.Inside.Net.{times_of}
use Rattle.timing.specs.Inside.Ring.{written}
use Rattle.timing.proofs.ring.Walk.write.Given as goal

abbrev pub invariant-loop-x : goal.invariant-loop-x
invariant-loop-x l = l.arcs ≡ written (times_of l.self.trail) l.high l.x l.at l.initial.arcs
