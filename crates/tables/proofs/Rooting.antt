-- A parent on the tables is one of every flow that they hold.
use mathlib.Core.Path.{◌≡◌, sym, ◌∙◌}
use mathlib.Core.Logic.{inl, inr}
use Prim.Native.Nat.{ℕ, ◌<◌}
use native.Mathlib.Omega.{arith}
use Rattle.ticks.proofs.Raised.{lower-le, lower_injective}
use Rattle.flow.specs.Flow.{Flow, Good, late}
use Rattle.flow.proofs.Parents.{Parent}
use Rattle.tables.specs.Inside.Net.{Net, launching, Shaped, Ranged}
use Rattle.tables.specs.Inside.Models.{Models, lowered}
use Rattle.tables.specs.Inside.Parents.{ParentN, Parented, noted, ParentsIn}
use Rattle.tables.proofs.Models.{brought_lower}

module _ {n : Net} {l m : ℕ} (shaped : Shaped n l m) {base D P T : ℕ → ℕ} {p : ℕ} (parented : Parented n l base D P T p) where
  -- of a node that departs after its base
  raised_parent : (i : ℕ) → i < l → (D i ≡ base i → ⊥) → ParentN n D T i (P i)
  raised_parent i h up = elim (parented.each i h) [ inl e ↦ absurd (up e) | inr q ↦ q ]

  pub parents_in : ParentsIn (noted n P base D) l
  parents_in i h up =
      let k : P i < m = omega (arith, (raised_parent i h up).below, shaped.ends i h) in
      (omega (arith, shaped.count), shaped.sources (P i) k)

module _ {n : Net} {l m : ℕ} (shaped : Shaped n l m) {f : Flow} (good : Good f) {launch : ℕ → ℕ}
    (models : Models (launching n launch) f) (same : f.nodes ≡ l) {base D P T : ℕ → ℕ} {p : ℕ} (ranged : Ranged l D) (parented : Parented n l base D P T p) where
  parent_flow : (i a : ℕ) → i < l → ParentN n D T i a → Parent f (lowered D) T i a
  parent_flow i a h q =
      let j : i < f.nodes = rw same h in
      let k : a < f.arcs = omega (arith, q.below, models.arcs.into.within i j) in
      let e = brought_lower late (launching n launch) good models.arcs D (rw same ranged) a k in
      record {
        here = k;
        enters = models.arcs.into.inside i a j q.above q.below;
        holds = sym (models.latch i j) ∙ q.holds;
        gives = rw (← e) (lower-le q.gives);
        older = λ o. rw (models.arcs.source a k) at (q.older (lower_injective _ _ (o ∙ sym e)));
      }

  pub raised_flow : (i : ℕ) → i < l → (D i ≡ base i → ⊥) → Parent f (lowered D) T i (P i)
  raised_flow i h up = parent_flow i (P i) h (raised_parent shaped parented i h up)
