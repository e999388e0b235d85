-- `rise`: the first passes settled, or those that follow go on from them.
use Rattle.tables.specs.Inside.Passing.{settled}
use Rattle.tables.proofs.Raising.{room_ranged}
use Rattle.tables.proofs.Climbing.{ended_from}
use Rattle.timing.proofs.web.Web.rise.Goals as goal

pub returns-then-settle-clause-ended : goal.returns-then-settle-clause-ended
returns-then-settle-clause-ended c = settled c.settle.ensures.onward (room_ranged c.settle.ensures.room) (c.settle.ensures.still c.if-settle.true)

pub returns-clause-ended : goal.returns-clause-ended
returns-clause-ended c = ended_from c.settle.ensures.onward c.grow.ensures.ended
