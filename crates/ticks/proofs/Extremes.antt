-- The greater and the lesser of two numbers. `greater` and `lesser` hand both to `omega`, which reads max and min of naturals:
-- with these in its list it proves any linear fact about them, and so each law below.
use mathlib.Core.Path.{◌≡◌, refl}
use mathlib.Core.Bool.{Bool, true, false, cond}
use mathlib.Core.Logic.{◌⊎◌, inl, inr}
use Prim.Native.Nat.{◌+◌, max, min}
use lib.IntN.{ℤ}
use lib.Signed.{◌<ℤ◌, ◌≤ℤ◌, lt_z}
use Rattle.ticks.specs.Extremes.{max_ℤ, min_ℤ}
use Rattle.ticks.proofs.Ints.{ints, up, down}
use Rattle.ticks.proofs.Order.{lt_z_true, lt_z_false, compare_ℤ}

pub greater : (a b : ℤ) → up (max_ℤ a b) + (down a + down b) ≡ max (up a + down b) (up b + down a) + down (max_ℤ a b)
unfolding max_ℤ
greater a b = go (lt_z a b) refl
  where
    go : (t : Bool) → lt_z a b ≡ t → up (cond t b a) + (down a + down b) ≡ max (up a + down b) (up b + down a) + down (cond t b a)
    go true e = let h = lt_z_true a b e in omega ints
    go false e = let h = lt_z_false a b e in omega ints

pub lesser : (a b : ℤ) → up (min_ℤ a b) + (down a + down b) ≡ min (up a + down b) (up b + down a) + down (min_ℤ a b)
unfolding min_ℤ
lesser a b = go (lt_z b a) refl
  where
    go : (t : Bool) → lt_z b a ≡ t → up (cond t b a) + (down a + down b) ≡ min (up a + down b) (up b + down a) + down (cond t b a)
    go true e = let h = lt_z_true b a e in omega ints
    go false e = let h = lt_z_false b a e in omega ints

-- the first of two is picked where they are equal
pub max_case : (a b : ℤ) → ((max_ℤ a b ≡ a) × (b ≤ℤ a)) ⊎ ((max_ℤ a b ≡ b) × (a <ℤ b))
max_case a b = elim (compare_ℤ a b) [ inl h ↦ inr (omega (ints, greater a b)) | inr h ↦ inl (omega (ints, greater a b)) ]

pub min_case : (a b : ℤ) → ((min_ℤ a b ≡ a) × (a ≤ℤ b)) ⊎ ((min_ℤ a b ≡ b) × (b <ℤ a))
min_case a b = elim (compare_ℤ b a) [ inl h ↦ inr (omega (ints, lesser a b)) | inr h ↦ inl (omega (ints, lesser a b)) ]

-- each is a bound, and the nearest
pub max_left : (a b : ℤ) → a ≤ℤ max_ℤ a b
max_left a b = omega (ints, greater a b)

pub max_right : (a b : ℤ) → b ≤ℤ max_ℤ a b
max_right a b = omega (ints, greater a b)

pub max_least : {a b c : ℤ} → a ≤ℤ c → b ≤ℤ c → max_ℤ a b ≤ℤ c
max_least {a} {b} {c} h k = omega (ints, greater a b)

pub min_left : (a b : ℤ) → min_ℤ a b ≤ℤ a
min_left a b = omega (ints, lesser a b)

pub min_right : (a b : ℤ) → min_ℤ a b ≤ℤ b
min_right a b = omega (ints, lesser a b)

pub min_most : {a b c : ℤ} → c ≤ℤ a → c ≤ℤ b → c ≤ℤ min_ℤ a b
min_most {a} {b} {c} h k = omega (ints, lesser a b)

pub max_mono : {a b c d : ℤ} → a ≤ℤ c → b ≤ℤ d → max_ℤ a b ≤ℤ max_ℤ c d
max_mono {a} {b} {c} {d} h k = omega (ints, greater a b, greater c d)

pub min_mono : {a b c d : ℤ} → a ≤ℤ c → b ≤ℤ d → min_ℤ a b ≤ℤ min_ℤ c d
min_mono {a} {b} {c} {d} h k = omega (ints, lesser a b, lesser c d)
