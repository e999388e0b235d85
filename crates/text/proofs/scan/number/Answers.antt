-- `number` takes a digit a turn, until none follows or all that are allowed are taken.
use mathlib.Core.Path.{sym, ◌∙◌}
use native.Mathlib.Omega.{arith}
use Rattle.grammar.specs.Numbers.{most_digits}
use Rattle.text.proofs.Steps.{digits_on, digits_over, digits_end, digits_full}
use Rattle.text.proofs.scan.number.Goals as goal
use Rattle.text.proofs.scan.number.Goals.{else-loop-test, then-loop-test+in_default}

pub returns-in_err-value : goal.returns-in_err-value
returns-in_err-value c =
    let over = c.in_err-value.ensures in
    c.from_residual-in_err-value.ensures
    ∙ sym (c.loop.invariant.0 ∙ digits_over most_digits _ _ _ _ _ c.loop-test.true (sym c.in-Some.ensures) (omega (arith, over)))

pub loop-preserved : goal.loop-preserved
loop-preserved c =
    let more = c.in_ok-value.ensures in
    rw more.1 ((c.loop.invariant.0 ∙ digits_on most_digits _ _ _ _ _ c.loop-test.true (sym c.in-Some.ensures) more.0), more.0)

pub returns : goal.returns
returns c =
    elim c.loop-test.branch [
      | else-loop-test w ↦ sym (c.loop.invariant.0 ∙ digits_full most_digits _ _ _ _ w.loop-test.false)
      | then-loop-test+in_default w ↦ sym (c.loop.invariant.0 ∙ digits_end most_digits _ _ _ _ (sym w.in_default.ensures))
    ]
