-- `pass` tries the synchronizers one after the other, in the order given.
use mathlib.Core.Path.{◌≡◌}
use borrow.Author.Rules.{rules}
use native.Mathlib.Omega.{arith}
use Rattle.tables.specs.Inside.Passing.{along}
use Rattle.tables.proofs.Orders.{order_turned}
use Rattle.tables.proofs.Raising.{room_ranged}
use Rattle.tables.proofs.Trying.{tried_rises, tried_stays}
use Rattle.tables.proofs.Passes.{sweep_room, passing_stays, passing_rises}
use Rattle.timing.proofs.Sweepable.{sweepable}
use Rattle.timing.proofs.web.Web.pass.Goals as goal
use Rattle.timing.proofs.web.Web.pass.Goals.{then-lift, else-lift}

pub lift-requires : goal.lift-requires
lift-requires c =
    record {
      here = rw (c.from-i.ensures, c.turn.ensures) ((order_turned c.args.forth c.requires.order).nodes c.loop-x.x c.loop-x-test.true);
      ranged = room_ranged (sweep_room c.requires.room c.loop-x.invariant.passing.swept (search rules));
    }

pub loop-x-preserved : goal.loop-x-preserved
loop-x-preserved c =
    let w = sweepable c.args.self.now in
    let here = (order_turned c.args.forth c.requires.order).nodes c.loop-x.x c.loop-x-test.true in
    let p = c.loop-x.invariant.passing in
    let ranged = room_ranged (sweep_room c.requires.room p.swept (search rules)) in
    let e : c.from-i.result ≡ along c.args.order.now c.args.forth c.args.self.now.nodes c.loop-x.x = rw c.turn.ensures at c.from-i.ensures in
    let o = rw e at c.lift.ensures in
    elim c.if-lift.branch [
      | then-lift k ↦ (
          let u = tried_rises o k.if-lift.true in
          rw (k.last-is, e, u.stored, u.noted) (record { passing = passing_rises w p here ranged {a = u.arc} u.up u.brings; few = omega (arith, here) }))
      | else-lift k ↦ (
          let u = tried_stays o k.if-lift.false in
          rw (k.last-is, u.1, u.2) (record { passing = passing_stays w p here ranged u.0; few = c.loop-x.invariant.few }))
    ]
