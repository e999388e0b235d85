-- `digit_count`: one more than the logarithm; zero has none, and one digit.
use mathlib.Core.Path.{◌∙◌, ap}
use Prim.Native.Nat.{ℕ, ◌+◌}
use Rattle.report.proofs.Digits.{digits_counted}
use Rattle.report.proofs.page.digit_count.Goals as goal

pub returns : goal.returns
returns c =
    let log = c.checked_ilog10 in
    ap (λ (k : ℕ). k + 1) c.unwrap_or.ensures ∙ digits_counted c.args.n log.result log.ensures.none log.ensures.power_le log.ensures.next_power_gt
