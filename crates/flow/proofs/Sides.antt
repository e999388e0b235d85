-- Late and early at once: the laws of `Inside`, and what `pick` picks.
use mathlib.Core.Path.{◌≡◌}
use mathlib.Core.Logic.{◌⊎◌, ◌≢◌}
use lib.IntN.{ℤ, ◌+ℤ◌}
use lib.Signed.{◌<ℤ◌, ≤ℤ_refl}
use Rattle.ticks.specs.Extremes.{max_ℤ}
use Rattle.ticks.proofs.Ints.{ints}
use Rattle.ticks.proofs.Order.{≤ℤ_trans, plus_mono}
use Rattle.ticks.proofs.Extremes.{max_case, min_case, max_mono}
use Rattle.flow.specs.Flow.{Side, late, early, pick}
use Rattle.flow.specs.Bounds.{Inside}

-- x falls short of t
abbrev pub StrictlyInside : Side → ℤ → ℤ → Type 0
StrictlyInside late x t = x <ℤ t
StrictlyInside early x t = t <ℤ x

pub inside_refl : (s : Side) (x : ℤ) → Inside s x x
inside_refl late x = ≤ℤ_refl x
inside_refl early x = ≤ℤ_refl x

pub inside_trans : (s : Side) (x y z : ℤ) → Inside s x y → Inside s y z → Inside s x z
inside_trans late x y z h k = ≤ℤ_trans h k
inside_trans early x y z h k = ≤ℤ_trans k h

pub inside_antisym : (s : Side) (x y : ℤ) → Inside s x y → Inside s y x → x ≡ y
inside_antisym late x y h k = omega ints
inside_antisym early x y h k = omega ints

pub inside_plus : (s : Side) (a b c d : ℤ) → Inside s a b → Inside s c d → Inside s (a +ℤ c) (b +ℤ d)
inside_plus late a b c d h k = plus_mono h k
inside_plus early a b c d h k = plus_mono h k

pub inside_max : (s : Side) (a b c d : ℤ) → Inside s a c → Inside s b d → Inside s (max_ℤ a b) (max_ℤ c d)
inside_max late a b c d h k = max_mono h k
inside_max early a b c d h k = max_mono h k

pub inside_short : (s : Side) (x y z : ℤ) → Inside s x y → StrictlyInside s y z → Inside s x z × (x ≢ z)
inside_short late x y z h k = omega ints
inside_short early x y z h k = omega ints

pub pick_case : (s : Side) (x y : ℤ) → ((pick s x y ≡ x) × Inside s y x) ⊎ ((pick s x y ≡ y) × StrictlyInside s x y)
pick_case late x y = max_case x y
pick_case early x y = min_case x y
