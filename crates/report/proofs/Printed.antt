-- Numbers and small reports, byte for byte: most by computing the text, a long number by first allowing it 20 digits.
use mathlib.Core.Path.{◌≡◌, refl}
use mathlib.Core.List.{[], ◌∷◌}
use Rattle.std.specs.Prelude.{Ok, Err}
use Prim.Native.Nat.{ℕ, ◌^◌, ◌<◌}
use native.Mathlib.Omega.{arith}
use lib.IntN.{pos, negsuc}
use Rattle.circuit.specs.Times.{mark}
use Rattle.timing.specs.declared.timing_call.Answer.TheVariants.{Growing, Timed}
use Rattle.image.specs.Refusal as image
use Rattle.image.specs.declared.refusal.Rule.TheVariants as by
use Rattle.report.specs.Ascii.{ascii}
use Rattle.report.specs.Decimal.{digits_up_to, digits, signed, result_text}
use Rattle.report.specs.Text.{each, text_of}
use Rattle.report.proofs.Digits.{digits_within}

zero_is : digits 0 ≡ ascii "0"
unfolding digits digits_up_to
zero_is = refl

tens_are : digits 1090 ≡ ascii "1090"
unfolding digits digits_up_to
tens_are = refl

below_is : signed (negsuc 9) ≡ ascii "-10"
unfolding digits digits_up_to signed
below_is = refl

mark_is : result_text mark ≡ ascii "-"
unfolding result_text
mark_is = refl

-- numbers of 64 bits: 20 digits are enough
long : (n : ℕ) → n < 10 ^ 20 → digits n ≡ digits_up_to 20 n
long n h = digits_within 19 n h

greatest_is : digits 18446744073709551615 ≡ ascii "18446744073709551615"
unfolding digits_up_to
greatest_is = long 18446744073709551615 (omega arith)

-- one less than the mark is a number
next_is : result_text (pos 9223372036854775806) ≡ ascii "9223372036854775806"
unfolding digits_up_to signed result_text
next_is = long 9223372036854775806 (omega arith)

least_is : result_text (negsuc 9223372036854775807) ≡ ascii "-9223372036854775808"
unfolding digits_up_to signed result_text
least_is = rw (long 9223372036854775808 (omega arith))

pub refusal : text_of 0 (Err (image.refusal by.Synchronizers 12)) [] [] ≡ ascii "refused 7 12\n"
unfolding digits digits_up_to text_of
refusal = refl

-- P1's report (circuits/p1.report)
pub first : text_of 2 (Ok (Timed 0 0)) (
    pos 60 ∷ pos 60 ∷ pos 25 ∷ pos 60 ∷ pos 20 ∷ pos 30 ∷ pos 60 ∷ pos 80 ∷ pos 35 ∷ pos 80 ∷ pos 30 ∷ pos 10 ∷ []
    ) [] ≡ ascii "timed 2 0 0\n0 60 60 25 60 20 30\n1 60 80 35 80 30 10\n"
unfolding digits digits_up_to signed result_text each text_of
first = refl

-- P2: the rest of the arc buffer is not told
pub second : text_of 2 (Ok (Growing 2 (pos 1))) [] (1 ∷ 0 ∷ 7 ∷ []) ≡ ascii "loop 2 1\n1\n0\n"
unfolding digits digits_up_to signed each text_of
second = refl

-- P8: four marks, a missed hold
pub eighth : text_of 2 (Ok (Timed 0 1)) (
    pos 100 ∷ pos 100 ∷ mark ∷ mark ∷ mark ∷ mark ∷ pos 100 ∷ pos 100 ∷ pos 9 ∷ pos 88 ∷ negsuc 0 ∷ pos 2 ∷ pos 0 ∷ []
    ) [] ≡ ascii "timed 2 0 1\n0 100 100 - - - -\n1 100 100 9 88 -1 2\n"
unfolding digits digits_up_to signed result_text each text_of
eighth = refl

-- P10
pub tenth : text_of 0 (Ok (Timed 0 0)) (pos 0 ∷ []) (0 ∷ []) ≡ ascii "timed 0 0 0\n"
unfolding digits digits_up_to each text_of
tenth = refl
