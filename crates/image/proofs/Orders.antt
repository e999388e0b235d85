-- Order over more than one step: closing times rise along the phases, and each arc comes before every later one.
use mathlib.Core.Path.{◌≡◌, ◌∙◌}
use mathlib.Core.List.{List}
use mathlib.Core.Logic.{inl, inr}
use Prim.Native.Nat.{ℕ, zero, suc, ◌+◌, ◌-◌, ◌<◌, ◌≤◌}
use native.Mathlib.Nat.{le_trans, le_refl}
use native.Mathlib.Omega.{arith}
use Rattle.image.specs.Valid.{image_in, phase_in, arc_in, Before, Valid}
use Rattle.image.specs.declared.records.Arc.{Arc}

before_trans : (a b c : Arc) → Before a b → Before b c → Before a c
before_trans a b c (inl p) (inl q) = inl (omega arith)
before_trans a b c (inl p) (inr q) = inl (omega arith)
before_trans a b c (inr p) (inl q) = inl (omega arith)
before_trans a b c (inr p) (inr q) = inr (p.0 ∙ q.0, omega arith)

module _ (bytes : List ℕ) (v : Valid bytes) where
  closing_by : (d i j : ℕ) → i + d ≡ j → j < (image_in bytes).phases → (phase_in bytes i).closing ≤ (phase_in bytes j).closing
  closing_by zero i j e l = let h : i ≡ j = omega arith in rw h (le_refl _)
  closing_by (suc d) i j e l = le_trans (v.rising i (omega arith)) (closing_by d (suc i) j (omega arith) l)

  pub closing_rises : (i j : ℕ) → i ≤ j → j < (image_in bytes).phases → (phase_in bytes i).closing ≤ (phase_in bytes j).closing
  closing_rises i j h l = closing_by (j - i) i j (omega arith) l

  before_by : (d i j : ℕ) → i + suc d ≡ j → j < (image_in bytes).arcs → Before (arc_in bytes i) (arc_in bytes j)
  before_by zero i j e l = let h : j ≡ suc i = omega arith in rw h (v.ordered i (omega arith))
  before_by (suc d) i j e l = before_trans (arc_in bytes i) (arc_in bytes (suc i)) (arc_in bytes j) (v.ordered i (omega arith)) (before_by d (suc i) j (omega arith) l)

  pub arcs_rise : (i j : ℕ) → i < j → j < (image_in bytes).arcs → Before (arc_in bytes i) (arc_in bytes j)
  arcs_rise i j h l = before_by (j - suc i) i j (omega arith) l
