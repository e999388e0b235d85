-- What `lowest_of` gives: each number below it passes the test, and it fails the test itself unless it is n. Only one
-- number does that, so a search from the front that stops at the first failure finds it.
use mathlib.Core.Path.{◌≡◌, refl, sym, ◌∙◌}
use mathlib.Core.Bool.{Bool, true, false, cond}
use Prim.Native.Nat.{ℕ, zero, suc, ◌≤◌, ◌<◌}
use native.Mathlib.Omega.{arith}
use native.Mathlib.Decide.{dec_lt}
use borrow.Author.Tests.{lt-ltb, le-ltb}
use Rattle.std.specs.Prelude.{Option, Some, None, MatchOption}
use Rattle.image.specs.Rules.{lowest_of, lowest_found}
use Rattle.image.proofs.Tests.{false_true}

pub record FirstBad (bad : ℕ → Bool) (n i : ℕ) : Type 0 where
  pub within : i ≤ n
  pub passed : (j : ℕ) → j < i → bad j ≡ false
  pub fails : i < n → bad i ≡ true

pub lowest_is : (bad : ℕ → Bool) (n : ℕ) → FirstBad bad n (lowest_of bad n)
unfolding lowest_of
lowest_is bad zero = record {
  within = omega arith;
  passed = λ j l. let z : ⊥ = omega arith in absurd z;
  fails = λ l. let z : ⊥ = omega arith in absurd z;
}
lowest_is bad (suc n) = go (bad zero) refl (lowest_of (λ i. bad (suc i)) n) (lowest_is (λ i. bad (suc i)) n)
  where
    go : (b : Bool) → bad zero ≡ b → (k : ℕ) → FirstBad (λ i. bad (suc i)) n k → FirstBad bad (suc n) (cond b zero (suc k))
    go true e k rest = record {
      within = omega arith;
      passed = λ j l. let z : ⊥ = omega arith in absurd z;
      fails = λ l. e;
    }
    go false e k rest = record { within = omega (arith, rest.within); passed = passed; fails = λ l. rest.fails (omega arith) }
      where
        passed : (j : ℕ) → j < suc k → bad j ≡ false
        passed zero l = e
        passed (suc j) l = rest.passed j (omega arith)

module _ (bad : ℕ → Bool) (n : ℕ) where
  not_before : {i j : ℕ} → FirstBad bad n i → FirstBad bad n j → i < j → ⊥
  not_before {i} {j} h k l = false_true (sym (k.passed i l) ∙ h.fails (omega (arith, k.within)))

  pub lowest_only : {i j : ℕ} → FirstBad bad n i → FirstBad bad n j → i ≡ j
  lowest_only {i} {j} h k = elim (dec_lt i j) [
    | yes l ↦ absurd (not_before h k l)
    | no l ↦ elim (dec_lt j i) [ yes m ↦ absurd (not_before k h m) | no m ↦ omega arith ]
  ]

  pub lowest_eq : {i : ℕ} → FirstBad bad n i → i ≡ lowest_of bad n
  lowest_eq h = lowest_only h (lowest_is bad n)

  pub lowest_none : ((j : ℕ) → j < n → bad j ≡ false) → lowest_of bad n ≡ n
  lowest_none h = sym (lowest_eq {i = n} (record { within = omega arith; passed = h; fails = λ l. let z : ⊥ = omega arith in absurd z }))

  -- what a search from the front finds
  pub lowest_by : (r : Option ℕ) → MatchOption r ((k : ℕ) → 0 ≤ k → k < n → bad k ≡ false) (λ i. (0 ≤ i) × (i < n) × (bad i ≡ true) × ((k : ℕ) → 0 ≤ k → k < i → bad k ≡ false))
      → r ≡ lowest_found bad n
  lowest_by None h = let same = lowest_none (λ k. h k (omega arith)) in rw (le-ltb (lowest_of bad n) n (omega (arith, same)))
  lowest_by (Some i) h =
      let same = lowest_eq (record { within = omega (arith, h.1); passed = λ k. h.3 k (omega arith); fails = λ _. h.2 }) in
      rw (← same, lt-ltb i n h.1)
