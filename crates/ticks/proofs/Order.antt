-- The laws of ≤ℤ and <ℤ, each read off by `omega`. (`≤ℤ_refl`, `<ℤ_irrefl` and `<ℤ-≤ℤ_trans` are in lib.Signed.)
use mathlib.Core.Path.{◌≡◌, refl}
use mathlib.Core.Bool.{Bool, true, false}
use mathlib.Core.Logic.{◌⊎◌, inl, inr}
use lib.IntN.{ℤ, ◌+ℤ◌}
use lib.Signed.{◌<ℤ◌, ◌≤ℤ◌, lt_z, lt_z_yes, lt_z_no}
use Rattle.ticks.proofs.Ints.{ints, sum}

pub ≤ℤ_trans : {a b c : ℤ} → a ≤ℤ b → b ≤ℤ c → a ≤ℤ c
≤ℤ_trans h k = omega ints

pub ≤ℤ-<ℤ_trans : {a b c : ℤ} → a ≤ℤ b → b <ℤ c → a <ℤ c
≤ℤ-<ℤ_trans h k = omega ints

pub ≤ℤ_antisym : {a b : ℤ} → a ≤ℤ b → b ≤ℤ a → a ≡ b
≤ℤ_antisym h k = omega ints

pub ≤ℤ_eq : {a b : ℤ} → a ≡ b → a ≤ℤ b
≤ℤ_eq h = omega ints

pub <ℤ-≤ℤ : {a b : ℤ} → a <ℤ b → a ≤ℤ b
<ℤ-≤ℤ h = omega ints

pub plus_mono : {a b c d : ℤ} → a ≤ℤ b → c ≤ℤ d → (a +ℤ c) ≤ℤ (b +ℤ d)
plus_mono {a} {b} {c} {d} h k = omega (ints, sum a c, sum b d)

-- a test on two numbers, decided
pub lt_z_true : (a b : ℤ) → lt_z a b ≡ true → a <ℤ b
lt_z_true a b e = lt_z_yes (rw e tt)

pub lt_z_false : (a b : ℤ) → lt_z a b ≡ false → b ≤ℤ a
lt_z_false a b e = lt_z_no (rw e tt)

pub compare_ℤ : (a b : ℤ) → (a <ℤ b) ⊎ (b ≤ℤ a)
compare_ℤ a b = go (lt_z a b) refl
  where
    go : (t : Bool) → lt_z a b ≡ t → (a <ℤ b) ⊎ (b ≤ℤ a)
    go true e = inl (lt_z_true a b e)
    go false e = inr (lt_z_false a b e)
