-- `sweep` raises the synchronizers one after the other.
use borrow.Author.Rules.{rules}
use native.Mathlib.Omega.{arith}
use Rattle.tables.proofs.Orders.{order_all, order_turned}
use Rattle.tables.proofs.Raising.{room_ranged}
use Rattle.tables.proofs.Passes.{sweep_rises, sweep_rests, sweep_room}
use Rattle.timing.proofs.Sweepable.{sweepable}
use Rattle.timing.proofs.web.Web.sweep.Goals as goal
use Rattle.timing.proofs.web.Web.sweep.Goals.{then-raise, else-raise}

pub raise-requires-clause-ranged : goal.raise-requires-clause-ranged
raise-requires-clause-ranged c = room_ranged (sweep_room c.requires.room c.loop-x.invariant.swept.swept (search rules))

pub loop-x-preserved : goal.loop-x-preserved
loop-x-preserved c =
    let w = sweepable c.args.self.now in
    let here = (order_turned c.args.forth (order_all c.args.self.now.nodes)).nodes c.loop-x.x c.loop-x-test.true in
    let p = c.loop-x.invariant.swept in
    let ranged = room_ranged (sweep_room c.requires.room p.swept (search rules)) in
    let o = rw c.turn.ensures at c.raise.ensures in
    elim c.if-raise.branch [
      | then-raise k ↦ rw k.last-is (record { swept = sweep_rises w p here c.loop-x-test.true ranged (rw k.if-raise.true at o); few = omega arith })
      | else-raise k ↦ rw k.last-is (record { swept = sweep_rests w p here c.loop-x-test.true ranged (rw k.if-raise.false at o); few = c.loop-x.invariant.few })
    ]
