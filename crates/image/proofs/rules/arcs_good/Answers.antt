-- `arcs_good` holds each arc against what it kept of the one before: no arc before place i breaks rule 8 or rule 9.
use mathlib.Core.Path.{◌≡◌, refl, sym, ◌∙◌}
use mathlib.Core.Bool.{false}
use Prim.Native.Nat.{◌+◌, ◌-◌, ◌≤◌}
use native.Mathlib.Omega.{arith}
use borrow.Author.Count.{below_more}
use Rattle.image.specs.Rules.{bad_arc}
use Rattle.image.proofs.Keys.{key_of, in_order}
use Rattle.image.proofs.Tests.{or_iff, ltb_iff}
use Rattle.image.proofs.rules.arcs_good.Goals as goal
use Rattle.image.proofs.rules.arcs_good.Goals.{Else-bad_fields-key}

-- both tests of the step passed
sound : (c : goal.Else-bad_fields-key) → ((c.bad_fields.result ≡ false) × (c.loop-i.next ≤ key_of c.of-arc.result))
sound c =
    (or_iff _ _ (λ h. h, λ h. h) (ltb_iff (key_of c.of-arc.result) c.loop-i.next)).0 c.if-bad_fields-key.false

pub loop-i-preserved : goal.loop-i-preserved
unfolding bad_arc
loop-i-preserved c =
    let q : c.loop-i.i + 1 - 1 ≡ c.loop-i.i = omega arith in (
      below_more _ _ c.loop-i.invariant.0 (rw (← c.of-arc.ensures) (sym c.bad_fields.ensures ∙ (sound (goal.at.loop-i-preserved c).Else-bad_fields-key).0)),
      below_more _ _ c.loop-i.invariant.1 (in_order c.args.bytes.now c.args.image c.loop-i.i c.loop-i.next (rw (← c.of-arc.ensures) (omega arith)) c.loop-i.invariant.2 (rw (← c.of-arc.ensures) (sound (goal.at.loop-i-preserved c).Else-bad_fields-key).1)),
      λ _. rw (q, ← c.of-arc.ensures) refl,
    )
