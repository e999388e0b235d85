-- `enter` spreads a number over places of the table, one after the other.
use Rattle.timing.specs.Inside.Loaded.{Spread}
use Rattle.timing.proofs.load.enter.Given as goal

abbrev pub invariant-loop-i : goal.invariant-loop-i
invariant-loop-i l = Spread l.initial.first l.from l.i l.a l.first
