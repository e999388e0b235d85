-- A field determines its number: the digits can be read back, a dash is no digit, and only the mark is a dash alone.
use mathlib.Core.Path.{◌≡◌, refl, sym, ap, ◌∙◌}
use mathlib.Core.Bool.{Bool, true, false, cond}
use mathlib.Core.List.{List, [], ◌∷◌, ◌++◌}
use mathlib.Core.Logic.{◌⊎◌, inl, inr}
use Prim.Native.Nat.{ℕ, zero, suc, ◌+◌, ◌-◌, ◌*◌, ◌/◌, ◌%◌, ◌^◌, ◌≤◌, ◌<◌}
use native.Mathlib.Omega.{arith}
use lib.Dec.{eqb}
use lib.IntN.{ℤ, pos, negsuc}
use lib.ListN.{length, drop, get_or, get_or-append}
use borrow.Author.Tests.{eqb-true}
use Rattle.circuit.specs.Times.{mark}
use Rattle.report.specs.Decimal.{digit, dash, digits, signed, result_text}
use Rattle.report.proofs.Digits.{size, digits_one, digits_more, digits_some}

-- the number that digits stand for, after those of n
abbrev read : ℕ → List ℕ → ℕ
read n [] = n
read n (d ∷ ds) = read (10 * n + (d - 48)) ds

read_append : (n : ℕ) (xs ys : List ℕ) → read n (xs ++ ys) ≡ read (read n xs) ys
read_append n [] ys = refl
read_append n (x ∷ xs) ys = read_append (10 * n + (x - 48)) xs ys

reads_back : (k n : ℕ) → n < k → read 0 (digits n) ≡ n
reads_back zero n h = let z : ⊥ = omega arith in absurd z
reads_back (suc k) n h = elim (size n) [
  | inl few ↦ rw (digits_one n few) (omega arith)
  | inr many ↦ rw (digits_more n many, read_append 0 (digits (n / 10)) (digit (n % 10) ∷ []), reads_back k (n / 10) (omega arith)) (omega arith)
]

pub digits_determine : (m n : ℕ) → digits m ≡ digits n → m ≡ n
digits_determine m n e = sym (reads_back (suc m) m (omega arith)) ∙ ap (read 0) e ∙ reads_back (suc n) n (omega arith)

-- the first character of a number is a digit
first_of : (k n : ℕ) → n < k → 48 ≤ get_or (digits n) 0 0
first_of zero n h = let z : ⊥ = omega arith in absurd z
first_of (suc k) n h = elim (size n) [
  | inl few ↦ rw (digits_one n few) (omega arith)
  | inr many ↦ rw (digits_more n many, get_or-append (digits (n / 10)) (digit (n % 10) ∷ []) 0 0 (digits_some (n / 10)))
      (first_of k (n / 10) (omega arith))
]

no_dash : (n : ℕ) (xs : List ℕ) → digits n ≡ dash ∷ xs → ⊥
no_dash n xs e = let h = first_of (suc n) n (omega arith) in let k = ap (λ (l : List ℕ). get_or l 0 0) e in omega (arith, h, k)

pub signed_determines : (x y : ℤ) → signed x ≡ signed y → x ≡ y
unfolding signed
signed_determines (pos m) (pos n) e = ap pos (digits_determine m n e)
signed_determines (pos m) (negsuc n) e = absurd (no_dash m _ e)
signed_determines (negsuc m) (pos n) e = absurd (no_dash n _ (sym e))
signed_determines (negsuc m) (negsuc n) e =
    let k = digits_determine (suc m) (suc n) (ap (λ (l : List ℕ). drop 1 l) e) in
    let j : m ≡ n = omega (arith, k) in ap negsuc j

-- a signed number is no dash alone
no_mark : (z : ℤ) → signed z ≡ dash ∷ [] → ⊥
unfolding signed
no_mark (pos n) e = no_dash n [] e
no_mark (negsuc n) e = omega (arith, digits_some (suc n), ap (λ (l : List ℕ). length (drop 1 l)) e)

-- the mark, or a number
pub shown : (z : ℤ) → ((z ≡ mark) × (result_text z ≡ dash ∷ [])) ⊎ (result_text z ≡ signed z)
unfolding result_text
shown (pos n) = go (eqb n (2 ^ 63 - 1)) refl
  where
    go : (b : Bool) → eqb n (2 ^ 63 - 1) ≡ b →
        ((pos n ≡ mark) × (cond b (dash ∷ []) (signed (pos n)) ≡ dash ∷ [])) ⊎ (cond b (dash ∷ []) (signed (pos n)) ≡ signed (pos n))
    go true e = inl (ap pos (eqb-true n (2 ^ 63 - 1) e), refl)
    go false e = inr refl
shown (negsuc n) = inr refl

pub result_determines : (x y : ℤ) → result_text x ≡ result_text y → x ≡ y
result_determines x y e = elim (shown x) [
  | inl p ↦ elim (shown y) [ inl q ↦ p.0 ∙ sym q.0 | inr q ↦ absurd (no_mark y (sym q ∙ sym e ∙ p.1)) ]
  | inr p ↦ elim (shown y) [
    | inl q ↦ absurd (no_mark x (sym p ∙ e ∙ q.1))
    | inr q ↦ signed_determines x y (sym p ∙ e ∙ q)
  ]
]
