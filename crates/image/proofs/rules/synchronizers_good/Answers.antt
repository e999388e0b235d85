-- `synchronizers_good` asks rule 7 of every synchronizer.
use Rattle.std.proofs.Common.{zero-add, ◌≡◌, ℕ, ◌<◌, true, false, length, arith, rules, tests, refl, Bool, MatchBool}
use Rattle.std.specs.List.{AllWithin, range_with_len}
use Rattle.std.proofs.lemmas.Iterator.{cases_from_all, YieldsList-from_range}
use Rattle.std.proofs.lemmas.List.FromFn.{length-range_with_len, get_or-range_with_len}
use Rattle.image.specs.Rules.{bad_synchronizer}
use Rattle.image.proofs.Tests.{false_true}
use Rattle.image.proofs.rules.synchronizers_good.Goals as goal

-- of all numbers below n, asked as a list
each : (B : Type 0) (bad : ℕ → Bool) (n : ℕ) (r : Bool) → MatchBool r (AllWithin (λ i. bad i ≡ false) (range_with_len 0 n) 0 (length (range_with_len 0 n))) B → r ≡ true → (i : ℕ) → i < n → bad i ≡ false
each B bad n true h passed i l = let here = h i 0 (omega arith) (omega (arith, length-range_with_len 0 n)) in rw (get_or-range_with_len 0 n i 0 l, zero-add i) at here
each B bad n false h passed i l = absurd (false_true passed)

pub returns : goal.returns
unfolding bad_synchronizer
returns c =
    let bad = bad_synchronizer c.args.bytes.now c.args.image in
    each _ bad c.args.image.synchronizers c.all.result (cases_from_all _ _ _ (λ i. bad i ≡ false) (λ i. bad i ≡ true) c.all.ensures.ran (YieldsList-from_range 0 c.args.image.synchronizers c.args.image.synchronizers refl (omega arith)) (λ x q k. search (rules, tests)) (λ x q k. search (rules, tests)))
