-- The nearest of a range of arcs, found from the front: the next arc takes its place where it is ahead of it.
use mathlib.Core.Path.{◌≡◌, ◌∙◌}
use mathlib.Core.Bool.{Bool, true, false}
use mathlib.Core.Logic.{inl, inr}
use Prim.Native.Nat.{ℕ, ◌+◌, ◌<◌, ◌≤◌}
use native.Mathlib.Omega.{arith}
use native.Mathlib.Decide.{dec_lt, ℕ_discrete}
use Rattle.tables.specs.Inside.Net.{Arcs, brought}
use Rattle.tables.specs.Inside.Trail.{Nearest, Ahead, Tells, is, not}

pub tells_true : {P : Type 0} {b : Bool} → Tells P b → b ≡ true → P
tells_true (is h) e = h
tells_true (not h) e = let z : ◌≡◌ {A = ℕ} 0 1 = cc in let y : ⊥ = omega arith in absurd y

pub tells_false : {P : Type 0} {b : Bool} → Tells P b → b ≡ false → P → ⊥
tells_false (is h) e = let z : ◌≡◌ {A = ℕ} 0 1 = cc in let y : ⊥ = omega arith in absurd y
tells_false (not h) e = h

module _ {g : Arcs} {D R : ℕ → ℕ} {from : ℕ} where
  pub nearest_one : Nearest g D R from (from + 1) from
  nearest_one = record {
    above = omega arith;
    below = omega arith;
    latest = λ b h l. let e : b ≡ from = omega arith in rw e (omega arith);
    least = λ b h l q. let e : b ≡ from = omega arith in rw e (omega arith);
    first = λ b h l q. let z : ⊥ = omega arith in absurd z;
  }

  module _ {a b : ℕ} (h : Nearest g D R from b a) where
    -- b is no better
    pub nearest_stays : (Ahead g D R b a → ⊥) → Nearest g D R from (b + 1) a
    nearest_stays worse = record {
      above = h.above;
      below = omega (arith, h.below);
      latest = λ x m l. elim (ℕ_discrete x b) [
        | yes e ↦ rw e (bound (brought g D b) (brought g D a) (λ k. worse (inl k)))
        | no d ↦ h.latest x m (omega arith)
      ];
      least = λ x m l q. elim (ℕ_discrete x b) [
        | yes e ↦ rw e (bound (R (g.source a)) (R (g.source b)) (λ k. worse (inr (rw e at q, k))))
        | no d ↦ h.least x m (omega arith) q
      ];
      first = h.first;
    }
      where
        bound : (x y : ℕ) → (y < x → ⊥) → x ≤ y
        bound x y d = elim (dec_lt y x) [ yes l ↦ absurd (d l) | no l ↦ omega arith ]

    -- b takes its place
    pub nearest_moves : Ahead g D R b a → Nearest g D R from (b + 1) b
    nearest_moves (inl k) = record {
      above = omega (arith, h.above, h.below);
      below = omega arith;
      latest = λ x m l. elim (ℕ_discrete x b) [ yes e ↦ rw e (omega arith) | no d ↦ omega (arith, h.latest x m (omega arith)) ];
      least = λ x m l q. elim (ℕ_discrete x b) [ yes e ↦ rw e (omega arith) | no d ↦ omega (arith, h.latest x m (omega arith)) ];
      first = λ x m l q. omega (arith, h.latest x m (omega arith));
    }
    nearest_moves (inr k) = record {
      above = omega (arith, h.above, h.below);
      below = omega arith;
      latest = λ x m l. elim (ℕ_discrete x b) [ yes e ↦ rw e (omega arith) | no d ↦ omega (arith, k.0, h.latest x m (omega arith)) ];
      least = λ x m l q. elim (ℕ_discrete x b) [
        | yes e ↦ rw e (omega arith)
        | no d ↦ omega (arith, k.1, h.least x m (omega arith) (q ∙ k.0))
      ];
      first = λ x m l q. omega (arith, k.1, h.least x m (omega arith) (q ∙ k.0));
    }
