-- `explore` takes step after step: what was listed stays listed.
use Rattle.timing.specs.Inside.Walk.{Further}
use Rattle.timing.proofs.order.Walk.explore.Given as goal

abbrev pub invariant-loop : goal.invariant-loop
invariant-loop l = Further l.fn.self l.self
