-- A table that a loop fills from the front: what stands below place i is right, and one store more makes it right below i + 1.
use mathlib.Core.Path.{◌≡◌, ◌∙◌}
use mathlib.Core.List.{List}
use Prim.Native.Nat.{ℕ, ◌+◌, ◌<◌}
use native.Mathlib.Omega.{arith}
use native.Mathlib.Decide.{ℕ_discrete}
use lib.ListN.{set, length-set}
use lib.Seq.{get_or-set_same, get_or-set_other}
use Rattle.tables.specs.Inside.Filled.{Filled}

module _ {size : ℕ} {f : ℕ → ℕ} {xs : List ℕ} where
  pub fill_more : {i : ℕ} {ys : List ℕ} → i < size → ys ≡ set xs i (f i) → Filled size f xs i → Filled size f ys (i + 1)
  fill_more {i} {ys} l e h = record {
    long = rw e (length-set xs i (f i) ∙ h.long);
    holds = λ j k. rw e (elim (ℕ_discrete j i) [
      | yes q ↦ rw q (get_or-set_same xs i (f i) 0 (omega (arith, h.long)))
      | no d ↦ get_or-set_other xs i j (f i) 0 d ∙ h.holds j (omega arith)
    ]);
  }
