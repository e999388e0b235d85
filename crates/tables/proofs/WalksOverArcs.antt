-- A walk over the arcs from one place to another, an arc at a time. What it picks is brought by one of them.
use mathlib.Core.Path.{◌≡◌, refl, sym, ◌∙◌}
use mathlib.Core.Logic.{◌⊎◌, inl, inr}
use Prim.Native.Nat.{ℕ, zero, suc, ◌+◌, ◌-◌, ◌<◌, ◌≤◌}
use native.Mathlib.Omega.{arith}
use native.Mathlib.Decide.{dec_lt}
use Rattle.flow.specs.Flow.{Side, late, early}
use Rattle.tables.specs.Inside.Net.{Arcs, brought, better, unseen, best}
use Rattle.tables.specs.Inside.Raise.{Given}
use Rattle.ticks.specs.Inside.Raised.{SIGNED}

-- the first arc is taken
pub first_better : (s : Side) (b : ℕ) → b < SIGNED → better s (unseen s) b ≡ b
first_better late b l = omega arith
first_better early b l = omega arith

-- what is taken off both may be taken off what is picked
pub better_less : (s : Side) (x y c : ℕ) → better s x y - c ≡ better s (x - c) (y - c)
better_less late x y c = omega arith
better_less early x y c = omega arith

pub better_low : (s : Side) {x y c : ℕ} → c ≤ x → c ≤ y → c ≤ better s x y
better_low late h k = omega arith
better_low early h k = omega arith

pub better_high : (s : Side) {x y c : ℕ} → x < c → y < c → better s x y < c
better_high late h k = omega arith
better_high early h k = omega arith

-- one of the two is picked
better_either : (s : Side) (x y : ℕ) → (better s x y ≡ x) ⊎ (better s x y ≡ y)
better_either late x y = elim (dec_lt x y) [ yes h ↦ inr (omega arith) | no h ↦ inl (omega arith) ]
better_either early x y = elim (dec_lt x y) [ yes h ↦ inl (omega arith) | no h ↦ inr (omega arith) ]

module _ (s : Side) (g : Arcs) (D : ℕ → ℕ) (from : ℕ) where
  pub best_none : best s g D from (from - from) ≡ unseen s
  unfolding best
  best_none = let e : from - from ≡ 0 = omega arith in rw e

  pub best_more : (a : ℕ) → from ≤ a → best s g D from (a + 1 - from) ≡ better s (best s g D from (a - from)) (brought g D a)
  unfolding best
  best_more a h =
      let e : a + 1 - from ≡ suc (a - from) = omega arith in
      let k : from + (a - from) ≡ a = omega arith in
      rw e (rw k refl)

  pub best_one : brought g D from < SIGNED → best s g D from (from + 1 - from) ≡ brought g D from
  best_one small = best_more from (omega arith) ∙ rw best_none (first_better s (brought g D from) small)

  pub best_given : (k : ℕ) → ((b : ℕ) → from ≤ b → b < from + suc k → brought g D b < SIGNED) → Given g D from (from + suc k) (best s g D from (suc k))
  unfolding best
  best_given zero small = (from + 0, omega arith, omega arith, sym (first_better s (brought g D (from + 0)) (small (from + 0) (omega arith) (omega arith))))
  best_given (suc k) small =
      let o = best_given k (λ b h l. small b h (omega arith)) in
      elim (better_either s (best s g D from (suc k)) (brought g D (from + suc k))) [
        | inl e ↦ (o.0, o.1, omega (arith, o.2), o.3 ∙ sym e)
        | inr e ↦ (from + suc k, omega arith, omega arith, sym e)
      ]
