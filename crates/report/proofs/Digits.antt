-- Decimal digits: any number of digits that is enough gives the same text, so a number's text is that of its tens, then its ones; and
-- a number below 10^k has at most k digits.
use mathlib.Core.Path.{◌≡◌, refl, sym, ◌∙◌}
use mathlib.Core.Bool.{Bool, true, false}
use mathlib.Core.List.{[], ◌∷◌, ◌++◌}
use mathlib.Core.Logic.{◌⊎◌, inl, inr}
use Prim.Native.Nat.{ℕ, zero, suc, ◌+◌, ◌*◌, ◌/◌, ◌%◌, ◌^◌, ◌≤◌, ◌<◌}
use native.Mathlib.Nat.{pow-succ'}
use native.Mathlib.Omega.{arith}
use lib.Dec.{ltb}
use lib.ListN.{length, length-append}
use borrow.Author.Tests.{ltb-true, ltb-false, lt-ltb, le-ltb}
use Rattle.std.specs.declared.option.Option.{Option}
use Rattle.std.specs.declared.option.Option.TheVariants.{None, Some}
use Rattle.std.specs.Prelude.{IfNone, IfSome, unwrap_or}
use Rattle.std.proofs.Math.Nat.{one-le-pow}
use Rattle.report.specs.Decimal.{digit, digits_up_to, digits}

pub size : (n : ℕ) → (n < 10) ⊎ (10 ≤ n)
size n = go (ltb n 10) refl
  where
    go : (b : Bool) → ltb n 10 ≡ b → (n < 10) ⊎ (10 ≤ n)
    go true e = inl (ltb-true n 10 e)
    go false e = inr (ltb-false n 10 e)

-- one digit more allowed
digits_up : (most n : ℕ) → 10 ≤ n → digits_up_to (suc most) n ≡ digits_up_to most (n / 10) ++ (digit (n % 10) ∷ [])
unfolding digits_up_to
digits_up most n h = rw (le-ltb n 10 h)

digits_stop : (most n : ℕ) → n < 10 → digits_up_to (suc most) n ≡ digit n ∷ []
unfolding digits_up_to
digits_stop most n h = rw (lt-ltb n 10 h)

enough : (k j n : ℕ) → n < k → n < j → digits_up_to k n ≡ digits_up_to j n
enough zero j n h l = let z : ⊥ = omega arith in absurd z
enough (suc k) zero n h l = let z : ⊥ = omega arith in absurd z
enough (suc k) (suc j) n h l = elim (size n) [
  | inl few ↦ rw (digits_stop k n few, digits_stop j n few)
  | inr many ↦ rw (digits_up k n many, digits_up j n many, enough k j (n / 10) (omega arith) (omega arith))
]

pub digits_one : (n : ℕ) → n < 10 → digits n ≡ digit n ∷ []
unfolding digits
digits_one n h = digits_stop n n h

pub digits_more : (n : ℕ) → 10 ≤ n → digits n ≡ digits (n / 10) ++ (digit (n % 10) ∷ [])
unfolding digits
digits_more n h = rw (digits_up n n h, enough n (suc (n / 10)) (n / 10) (omega arith) (omega arith))

more_long : (n : ℕ) → 10 ≤ n → length (digits n) ≡ length (digits (n / 10)) + 1
more_long n h = rw (digits_more n h) (length-append (digits (n / 10)) (digit (n % 10) ∷ []))

pub digits_some : (n : ℕ) → 0 < length (digits n)
digits_some n = elim (size n) [ inl few ↦ rw (digits_one n few) (omega arith) | inr many ↦ omega (arith, more_long n many) ]

-- a number below 10^k has at most k digits, where k is not zero: 0 has one digit
pub digits_few : (k n : ℕ) → n < 10 ^ suc k → length (digits n) ≤ suc k
digits_few zero n h = rw (digits_one n h) (omega arith)
digits_few (suc k) n h = elim (size n) [
  | inl few ↦ rw (digits_one n few) (omega arith)
  | inr many ↦ omega (arith, more_long n many, digits_few k (n / 10) (omega (arith, pow-succ' 10 (suc k))))
]

-- and one of 10^k or more has at least one digit more than k
digits_many : (k n : ℕ) → 10 ^ k ≤ n → suc k ≤ length (digits n)
digits_many zero n h = digits_some n
digits_many (suc k) n h = elim (size n) [
  | inl few ↦ let z : ⊥ = omega (arith, pow-succ' 10 k, one-le-pow k 10 (omega arith)) in absurd z
  | inr many ↦ omega (arith, more_long n many, digits_many k (n / 10) (omega (arith, pow-succ' 10 k)))
]

-- by its logarithm, if it has one
pub digits_counted : (n : ℕ) (log : Option ℕ) → IfNone log (n ≡ 0) → IfSome log (λ k. 10 ^ k ≤ n) → IfSome log (λ k. n < 10 * 10 ^ k) →
    unwrap_or log 0 + 1 ≡ length (digits n)
digits_counted n None none low high = rw (none, digits_one 0 (omega arith)) refl
digits_counted n (Some k) none low high = omega (arith, digits_many k n low, digits_few k n (omega (arith, high, pow-succ' 10 k)))

-- where k digits are known to be enough, they are all
pub digits_within : (k n : ℕ) → n < 10 ^ suc k → digits n ≡ digits_up_to (suc k) n
digits_within zero n h = digits_one n h ∙ sym (digits_stop 0 n h)
digits_within (suc k) n h = elim (size n) [
  | inl few ↦ digits_one n few ∙ sym (digits_stop (suc k) n few)
  | inr many ↦ rw (digits_more n many, digits_up (suc k) n many, digits_within k (n / 10) (omega (arith, pow-succ' 10 (suc k))))
]
