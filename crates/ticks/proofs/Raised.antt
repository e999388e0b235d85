-- Raised ticks keep order, sums, differences, greater and lesser, so that code may reckon with them in the times' place.
-- `span` is all that `omega` needs to know of `lower`.
use mathlib.Core.Path.{◌≡◌}
use Prim.Native.Nat.{ℕ, ◌+◌, ◌-◌, ◌≤◌, ◌<◌, max, min}
use lib.IntN.{pos, ◌+ℤ◌, ◌-ℤ◌, sub_ℕ}
use lib.Signed.{◌≤ℤ◌, ◌<ℤ◌}
use Rattle.ticks.specs.Extremes.{max_ℤ, min_ℤ}
use Rattle.ticks.specs.Inside.Raised.{RAISE, lower}
use Rattle.ticks.proofs.Ints.{ints, up, down, apart, sum, diff}
use Rattle.ticks.proofs.Extremes.{greater, lesser}

pub span : (n : ℕ) → up (lower n) + RAISE ≡ n + down (lower n)
unfolding lower
span n = omega (ints, diff (pos n) (pos RAISE))

pub lower-le : {a b : ℕ} → a ≤ b → lower a ≤ℤ lower b
lower-le {a} {b} h = omega (ints, span a, span b)

pub lower-lt : {a b : ℕ} → a < b → lower a <ℤ lower b
lower-lt {a} {b} h = omega (ints, span a, span b)

pub le-lower : (a b : ℕ) → lower a ≤ℤ lower b → a ≤ b
le-lower a b h = omega (ints, span a, span b)

pub lt-lower : (a b : ℕ) → lower a <ℤ lower b → a < b
lt-lower a b h = omega (ints, span a, span b)

pub lower_injective : (a b : ℕ) → lower a ≡ lower b → a ≡ b
lower_injective a b h = omega (ints, span a, span b)

pub lower_plus : (a b : ℕ) → lower (a + b) ≡ (lower a +ℤ pos b)
lower_plus a b = omega (ints, span a, span (a + b), sum (lower a) (pos b))

pub lower-minus : (a b : ℕ) → b ≤ a → lower (a - b) ≡ (lower a -ℤ pos b)
lower-minus a b h = omega (ints, span a, span (a - b), diff (lower a) (pos b))

pub lower-max : (a b : ℕ) → lower (max a b) ≡ max_ℤ (lower a) (lower b)
lower-max a b = omega (ints, span a, span b, span (max a b), greater (lower a) (lower b))

pub lower-min : (a b : ℕ) → lower (min a b) ≡ min_ℤ (lower a) (lower b)
lower-min a b = omega (ints, span a, span b, span (min a b), lesser (lower a) (lower b))

-- how far two raised ticks lie apart is how far their times do
pub lower_apart : (a b : ℕ) → (lower a -ℤ lower b) ≡ sub_ℕ a b
lower_apart a b = omega (ints, span a, span b, diff (lower a) (lower b), apart a b)

pub lower_raise : (n : ℕ) → lower (RAISE + n) ≡ pos n
lower_raise n = omega (ints, span (RAISE + n))
