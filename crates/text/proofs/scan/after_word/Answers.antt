-- `after_word` takes a byte of the word a turn, and then the space.
use mathlib.Core.Path.{sym, ◌∙◌}
use Rattle.text.proofs.Steps.{word_on, word_off, word_end}
use Rattle.text.proofs.scan.after_word.Goals as goal

pub returns-in_err-next : goal.returns-in_err-next
returns-in_err-next c =
    c.from_residual.ensures ∙ sym (c.loop-c.invariant ∙ word_off _ _ _ _ c.loop-c-test.true (sym (c.in_err-next.ensures)))

pub loop-c-preserved : goal.loop-c-preserved
loop-c-preserved c =
    c.loop-c.invariant ∙ word_on _ _ _ _ _ c.loop-c-test.true (sym c.after.ensures ∙ c.in_ok-next.was)

pub returns : goal.returns
returns c = c.after-2.ensures ∙ sym (c.loop-c.invariant ∙ word_end _ _ _ _ c.loop-c-test.false)
