-- `shift` takes the branches of `shift_of`; no difference is below zero.
use borrow.Author.Tests.{lt-ltb, le-ltb}
use Rattle.timing.specs.Inside.Loaded.{shift_of}
use Rattle.timing.proofs.load.shift.Goals as goal

pub returns-then-x-y : goal.returns-then-x-y
unfolding shift_of
returns-then-x-y c = rw (lt-ltb c.args.x c.args.y c.if-x-y.true)

pub returns-else-x-y : goal.returns-else-x-y
unfolding shift_of
returns-else-x-y c = rw (le-ltb c.args.x c.args.y c.if-x-y.false)
