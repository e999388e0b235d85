-- `window` is an expression and a line feed.
use mathlib.Core.Path.{ap, ◌∙◌}
use native.Mathlib.Omega.{arith}
use Rattle.grammar.specs.Windows.{expression}
use Rattle.grammar.specs.Text.{line_feed}
use Rattle.grammar.specs.Inside.Reader.{◌>>=◌, and_then, closed_at, enough, window_at}
use Rattle.text.proofs.windows.window.Goals as goal

pub returns-in_err-w : goal.returns-in_err-w
unfolding window_at and_then
returns-in_err-w c =
    let text = c.args.text.now in
    c.from_residual.ensures ∙ ap (λ o. o >>= λ w. closed_at text w line_feed) (c.in_err-w.ensures (enough expression text c.args.at) (omega arith))

pub returns : goal.returns
unfolding window_at and_then
returns c =
    let text = c.args.text.now in
    c.closed.ensures ∙ ap (λ o. o >>= λ w. closed_at text w line_feed) (c.in_ok-w.ensures (enough expression text c.args.at) (omega arith))
