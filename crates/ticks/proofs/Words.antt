-- Signed numbers in words of 64 bits: what a number is that went through one, and how the distance of a number from zero is worked out with
-- no step out of its word, the least number of the word included.
use mathlib.Core.Path.{◌≡◌, refl}
use mathlib.Core.Bool.{false}
use Prim.Native.Nat.{ℕ, zero, suc, ◌+◌, ◌<◌}
use native.Mathlib.Omega.{arith}
use lib.Dec.{T}
use lib.IntN.{ℤ, pos, negsuc, nat_abs, ◌+ℤ◌, ◌-ℤ◌}
use lib.Signed.{◌<ℤ◌, lt_z, mag, non_neg}
use mir.Syntax.{w64}
use mir.Val.{SFits, Fits, to_z, of_z}
use mir.ValLaws.{to_z-of_z}
use Rattle.ticks.proofs.Ints.{ints, sum, diff}

-- a number that went through a word
abbrev pub worded : ℤ → ℤ
worded z = to_z w64 (of_z w64 z)

pub word_is : (z : ℤ) → SFits w64 z → worded z ≡ z
word_is z h = to_z-of_z w64 z h

-- the steps to a number's distance from zero: one more, turned round, one more
abbrev pub raised : ℤ → ℤ
raised z = worded z +ℤ pos 1

abbrev pub turned : ℤ → ℤ
turned z = pos 0 -ℤ worded (raised z)

pub record NegationSteps (z : ℤ) : Type 0 where
  pub raises : SFits w64 (raised z)
  pub turns : SFits w64 (turned z)
  pub above : T (non_neg (worded (turned z)))
  pub fits : Fits w64 (nat_abs (worded (turned z)))
  pub room : Fits w64 (nat_abs (worded (turned z)) + 1)
  pub size : nat_abs (worded (turned z)) + 1 ≡ nat_abs z

module _ (z r : ℤ) (k : ℕ) (e : raised z ≡ r) (f : SFits w64 r) (d : (pos 0 -ℤ r) ≡ pos k) (l : k < 9223372036854775808) where
  turned_is : turned z ≡ pos k
  turned_is = rw (e, word_is r f) d

  found : worded (turned z) ≡ pos k
  found = rw turned_is (word_is (pos k) (record { sfits = l }))

  from : k + 1 ≡ nat_abs z → NegationSteps z
  from h = record {
    raises = rw e f;
    turns = rw turned_is (record { sfits = l });
    above = rw found tt;
    fits = rw found (omega arith);
    room = rw found (omega arith);
    size = rw found h;
  }

-- by whether the number is -1, which is raised to zero, or lies below
pub steps : (z : ℤ) → z <ℤ pos 0 → SFits w64 z → NegationSteps z
steps (pos n) h f = let k : ⊥ = omega ints in absurd k
steps (negsuc zero) h f = from (negsuc 0) (pos 0) 0 refl (omega arith) refl (omega arith) refl
steps (negsuc (suc m)) h f =
    let x = negsuc (suc m) in
    let e : raised x ≡ negsuc m = rw (word_is x f) (omega (ints, sum x (pos 1))) in
    from x (negsuc m) (suc m) e (record { sfits = omega (arith, f.sfits) }) (omega (ints, diff (pos 0) (negsuc m))) (omega (arith, f.sfits)) (omega arith)

castable : (z : ℤ) → lt_z z (pos 0) ≡ false → mag z < 9223372036854775808 → T (non_neg z) × Fits w64 (nat_abs z)
castable (pos n) h l = (tt, omega arith)
castable (negsuc n) h l = let k : ◌≡◌ {A = ℕ} 0 1 = cc in let z : ⊥ = omega arith in absurd z

-- a number that a test found not below zero
pub cast_above : (z : ℤ) → SFits w64 z → lt_z (worded z) (pos 0) ≡ false → T (non_neg (worded z)) × Fits w64 (nat_abs (worded z))
cast_above z f h = rw (word_is z f) (castable z (rw (word_is z f) at h) f.sfits)
