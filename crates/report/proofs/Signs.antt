-- A number of the machine has the digits that std prints; and what is printed of a signed number that went through a word of 64 bits, by the
-- tests that code makes of it: it is below zero, or is the mark.
use mathlib.Core.Path.{◌≡◌, refl, sym, ap, ◌∙◌}
use mathlib.Core.List.{[], ◌∷◌}
use Prim.Native.Nat.{ℕ, suc, ◌-◌, ◌^◌, ◌<◌}
use native.Mathlib.Omega.{arith}
use mathlib.Core.Bool.{true, false}
use lib.IntN.{ℤ, pos, negsuc, nat_abs}
use lib.Signed.{lt_z}
use mir.Syntax.{w64}
use mir.Val.{SFits, to_z, of_z}
use borrow.Author.Tests.{ne_eqb, ltb-true}
use borrow.Author.Rules.{rules}
use Rattle.std.specs.Fmt.{decimal}
use Rattle.std.proofs.lemmas.Fmt.{AppendsLastDigit, decimal_from_appends, length-decimal-le_succ}
use Rattle.circuit.specs.Times.{mark}
use Rattle.ticks.proofs.Words.{worded, word_is}
use Rattle.report.specs.Decimal.{dash, digits_up_to, digits, signed, result_text}

last_digit_after : AppendsLastDigit digits_up_to
unfolding digits_up_to
last_digit_after = search rules

pub digits_printed : (n : ℕ) → n < 2 ^ 64 → digits n ≡ decimal n
unfolding digits
digits_printed n h =
    let few = length-decimal-le_succ n h in
    decimal_from_appends digits_up_to last_digit_after (suc n) n h (omega (arith, few))

signed_below : (z : ℤ) → lt_z z (pos 0) ≡ true → signed z ≡ dash ∷ digits (nat_abs z)
unfolding signed
signed_below (pos n) h = let z : ⊥ = omega (arith, ltb-true n 0 h) in absurd z
signed_below (negsuc n) h = refl

signed_above : (z : ℤ) → lt_z z (pos 0) ≡ false → signed z ≡ digits (nat_abs z)
unfolding signed
signed_above (pos n) h = refl
signed_above (negsuc n) h = let k : ◌≡◌ {A = ℕ} 0 1 = cc in let z : ⊥ = omega arith in absurd z

number : (z : ℤ) → (of_z w64 z ≡ 9223372036854775807 → ⊥) → result_text z ≡ signed z
unfolding result_text signed
number (pos n) h = rw (ne_eqb n (2 ^ 63 - 1) (λ e. h (rw e refl)))
number (negsuc n) h = refl

-- by the test of a number that went through a word
module _ (z : ℤ) (f : SFits w64 z) where
  pub below : lt_z (worded z) (pos 0) ≡ true → signed z ≡ dash ∷ digits (nat_abs (worded z))
  below h = rw (word_is z f) (signed_below z (rw (word_is z f) at h))

  pub above : lt_z (worded z) (pos 0) ≡ false → signed z ≡ digits (nat_abs (worded z))
  above h = rw (word_is z f) (signed_above z (rw (word_is z f) at h))

  pub result_mark : of_z w64 z ≡ 9223372036854775807 → result_text z ≡ dash ∷ []
  unfolding result_text
  result_mark h = let e : z ≡ mark = sym (word_is z f) ∙ ap (to_z w64) h in rw e

  pub result_number : (of_z w64 z ≡ 9223372036854775807 → ⊥) → result_text z ≡ signed (worded z)
  result_number h = rw (word_is z f) (number z h)
