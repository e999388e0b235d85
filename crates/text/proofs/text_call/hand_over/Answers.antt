-- `hand_over` goes by the answer of the check, and then by the length of the buffer.
use mathlib.Core.Path.{sym, ◌∙◌}
use Rattle.std.proofs.lemmas.Result.{err_from_is_err_and}
use Rattle.text.specs.Inside.Handed.{refused, short, made}
use Rattle.text.proofs.text_call.hand_over.Goals as goal

pub returns-in_err-check : goal.returns-in_err-check
returns-in_err-check c =
    let given = err_from_is_err_and c.from_residual.result c.from_residual.ensures.1 in
    rw (given.1, given.2) (refused (sym c.check.ensures ∙ c.in_err-check.was))

pub returns-then-image-bytes : goal.returns-then-image-bytes
returns-then-image-bytes c = rw c.into.ensures (short (sym c.check.ensures ∙ c.in_ok-check.was) c.if-image-bytes.true)

pub returns : goal.returns
returns c = rw c.copy_from_slice.ensures.after (made (sym c.check.ensures ∙ c.in_ok-check.was) c.if-image-bytes.false)
