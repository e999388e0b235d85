-- `grow`: each pass starts where the one before ended, and after each a ring is looked for.
use mathlib.Core.Path.{refl, ◌∙◌}
use borrow.Author.Rules.{rules}
use mathlib.Core.Logic.{inl, inr}
use native.Mathlib.Omega.{arith}
use Rattle.tables.specs.Inside.Passing.{settled, beyond}
use Rattle.tables.proofs.Orders.{order_turned}
use Rattle.tables.proofs.Raising.{room_ranged}
use Rattle.tables.proofs.Rooting.{parents_in}
use Rattle.tables.proofs.Passes.{sweep_still}
use Rattle.tables.proofs.Climbing.{climb_none, climb_more}
use Rattle.timing.proofs.Looping.{closed_ringed, closed_open}
use Rattle.timing.proofs.Sweepable.{sweepable}
use Rattle.timing.proofs.web.Web.grow.Goals as goal

pub loop-n-init : goal.loop-n-init
loop-n-init c = record {
  lent = refl;
  climbing = climb_none (sweepable c.args.self.now) (search rules) refl c.requires.room;
  last = λ e. inl (omega arith);
}

pub returns-in_err-last-clause-ended : goal.returns-in_err-last-clause-ended
returns-in_err-last-clause-ended c =
    let w = sweepable c.args.self.now in
    let order = order_turned c.loop-n.forth c.arrange.ensures.order in
    let p = c.in_err-last.ensures.passing in
    let k = climb_more w c.loop-n.invariant.climbing c.loop-n-test.true order p in
    rw (c.from_residual.ensures, c.loop-n.invariant.lent) (settled k.onward (room_ranged k.room) (sweep_still w order p.swept (p.same (omega arith))))

pub invariant_of-raised : goal.invariant_of-raised
invariant_of-raised c =
    let w = c.args.self.now in
    let order = order_turned c.loop-n.forth c.arrange.ensures.order in
    let k = climb_more (sweepable w) c.loop-n.invariant.climbing c.loop-n-test.true order c.in_ok-last.ensures.passing in
    record { parents_in = parents_in w.shaped k.course.parented }

pub returns-in-Some-clause-ended : goal.returns-in-Some-clause-ended
returns-in-Some-clause-ended c =
    let o = c.in_ok-last.ensures in
    let order = order_turned c.loop-n.forth c.arrange.ensures.order in
    rw (← c.loop-n.invariant.lent)
    (closed_ringed (sweepable c.args.self.now) c.loop-n.invariant.climbing c.loop-n-test.true order o.passing o.below c.in-Some.ensures)

pub loop-n-preserved : goal.loop-n-preserved
loop-n-preserved c =
    let w = sweepable c.args.self.now in
    let p = c.in_ok-last.ensures in
    let k = c.loop-n.invariant.climbing in
    let order = order_turned c.loop-n.forth c.arrange.ensures.order in
    let o = closed_open w k c.loop-n-test.true order p.passing p.below c.in_default.ensures in
    record {
      lent = o.0 ∙ c.loop-n.invariant.lent;
      climbing = climb_more w k c.loop-n-test.true order p.passing;
      last = λ e. inr (o.1 e);
    }

pub returns-clause-ended : goal.returns-clause-ended
returns-clause-ended c =
    let p = c.loop-n.invariant in
    rw p.lent (elim (p.last (omega (arith, p.climbing.few, c.loop-n-test.false))) [
      | inl e ↦ settled p.climbing.onward (room_ranged p.climbing.room) (λ i k. let z : ⊥ = omega arith in absurd z)
      | inr never ↦ beyond never
    ])
