-- Questions asked in order, and the first that is answered with yes, which is one number. So a promise that has a case for each question leaves
-- one outcome, if any two outcomes of one case are alike.
use Prim.Native.Nat.{ℕ, suc, ◌<◌}
use native.Mathlib.Omega.{arith}
use Rattle.flow.specs.Rank.{Lowest}
use Rattle.flow.proofs.Pigeonhole.{below_suc}
use Rattle.flow.proofs.Rank.{lowest_unique}

module _ (Question : ℕ → Type 0) where
  -- the questions before k are answered with no
  abbrev pub Past : ℕ → Type 0
  Past k = (m : ℕ) → m < k → Question m → ⊥

  pub start : Past 0
  start m l q = omega arith

  pub on : (k : ℕ) → Past k → (Question k → ⊥) → Past (suc k)
  on = below_suc (λ m. Question m → ⊥)

  -- the first with a yes, and what that case leaves of an outcome
  pub record FirstYes (Left : ℕ → Type 0) : Type 0 where
    pub case : ℕ
    pub first : Lowest Question case
    pub left : Left case

  pub yes_at : {Left : ℕ → Type 0} (k : ℕ) → Past k → Question k → Left k → FirstYes Left
  yes_at k past holds left = record { case = k; first = record { holds = holds; lowest = past }; left = left }

  pub one_outcome : {P Q : ℕ → Type 0} {Alike : Type 0} → ((k : ℕ) → P k → Q k → Alike) → FirstYes P → FirstYes Q → Alike
  one_outcome alike p q =
      let e = lowest_unique Question p.case q.case p.first q.first in
      alike q.case (rw e at p.left) q.left
