-- What an arrival is: on either side one of the times that the arcs bring, which bounds them all. By one recursion over the
-- arcs, which finds the lowest-numbered arc that brings it.
use mathlib.Core.Path.{◌≡◌, refl, ap, ◌∙◌}
use mathlib.Core.Bool.{Bool, true, false}
use mathlib.Core.Logic.{inl, inr, ◌≢◌, ◌↔◌}
use Prim.Native.Nat.{ℕ, zero, suc, ◌<◌, ◌≤◌}
use native.Mathlib.Omega.{arith}
use native.Mathlib.Decide.{dec_lt}
use lib.Dec.{eqb}
use lib.IntN.{ℤ}
use borrow.Author.Tests.{eqb-true, eqb-false}
use Rattle.flow.specs.Flow.{Flow, Good, Side, When, none, at, join, brings, into, arrival}
use Rattle.flow.specs.Bounds.{Inside, Unentered}
use Rattle.flow.specs.Inside.Within.{Agree, Gives}
use Rattle.flow.specs.Inside.Same.{Same}
use Rattle.flow.proofs.Pigeonhole.{below_suc}
use Rattle.flow.proofs.Sides.{inside_refl, inside_antisym, inside_short, pick_case}

-- what the first n arcs give
pub data Found (s : Side) (f : Flow) (D : ℕ → ℤ) (i n : ℕ) : When → Type 0 where
  nothing : Unentered f i n → Found s f D i n none
  found : {t : ℤ} (a : ℕ) → Gives s f D i n t a → Found s f D i n (at t)

module _ (s : Side) (f : Flow) (D : ℕ → ℤ) (i : ℕ) where
  -- the next arc is not taken
  passed : (n a : ℕ) (t : ℤ) → Gives s f D i n t a → (f.target n ≡ i → Inside s (brings f D n) t) → Gives s f D i (suc n) t a
  passed n a t h k = record {
    here = omega arith;
    enters = h.enters;
    gives = h.gives;
    bounds = below_suc (λ b. f.target b ≡ i → Inside s (brings f D b) t) n h.bounds k;
    lowest = h.lowest;
  }

  -- the next arc is taken
  taken : (n : ℕ) → f.target n ≡ i →
      ((b : ℕ) → b < n → f.target b ≡ i → Inside s (brings f D b) (brings f D n) × (brings f D b ≢ brings f D n)) →
      Gives s f D i (suc n) (brings f D n) n
  taken n e h = record {
    here = omega arith;
    enters = e;
    gives = refl;
    bounds = below_suc (λ b. f.target b ≡ i → Inside s (brings f D b) (brings f D n)) n
        (λ b l k. (h b l k).0) (λ k. inside_refl s _);
    lowest = λ b l k. (h b l k).1;
  }

  find_step : (n : ℕ) (b : Bool) → eqb (f.target n) i ≡ b → {w : When} →
      Found s f D i n w → Found s f D i (suc n) (join s b (brings f D n) w)
  find_step n false e (nothing h) = nothing (below_suc (λ a. f.target a ≢ i) n h (eqb-false (f.target n) i e))
  find_step n false e (found {t} a h) = found a (passed n a t h (λ k. absurd (eqb-false (f.target n) i e k)))
  find_step n true e (nothing h) = found n (taken n (eqb-true (f.target n) i e) (λ b l k. absurd (h b l k)))
  find_step n true e (found {t} a h) = elim (pick_case s t (brings f D n)) [
    | inl k ↦ rw k.0 (found a (passed n a t h (λ l. k.1)))
    | inr k ↦ rw k.0 (found n (taken n (eqb-true (f.target n) i e) (λ b l m. inside_short s _ _ _ (h.bounds b l m) k.1)))
  ]

  find_into : (n : ℕ) → Found s f D i n (into s f D i n)
  unfolding into
  find_into zero = nothing (λ a h e. omega arith)
  find_into (suc n) = find_step n (eqb (f.target n) i) refl (find_into n)

  pub find : Found s f D i f.arcs (arrival s f D i)
  unfolding arrival
  find = find_into f.arcs

  -- at most one time is given, and by one arc
  pub gives_time : (n : ℕ) (t u : ℤ) (a b : ℕ) → Gives s f D i n t a → Gives s f D i n u b → t ≡ u
  gives_time n t u a b h k = inside_antisym s t u
      (rw h.gives at (k.bounds a h.here h.enters))
      (rw k.gives at (h.bounds b k.here k.enters))

  pub gives_arc : (n : ℕ) (t : ℤ) (a b : ℕ) → Gives s f D i n t a → Gives s f D i n t b → a ≡ b
  gives_arc n t a b h k = elim (dec_lt a b) [
    | yes l ↦ absurd (k.lowest a l h.enters h.gives)
    | no l ↦ elim (dec_lt b a) [ yes m ↦ absurd (h.lowest b m k.enters k.gives) | no m ↦ omega arith ]
  ]

  -- the arrival, as docs/RULES.md says it
  pub arrival_at : (t : ℤ) → arrival s f D i ≡ at t ↔ ((a : ℕ) × Gives s f D i f.arcs t a)
  arrival_at t = (to find, λ g. from find g.0 g.1)
    where
      to : {w : When} → Found s f D i f.arcs w → w ≡ at t → (a : ℕ) × Gives s f D i f.arcs t a
      to (nothing h) e = let z : ◌≡◌ {A = ℕ} 0 1 = cc in let k : ⊥ = omega arith in absurd k
      to (found {t = u} a h) e = let z : u ≡ t = cc in (a, rw z at h)

      from : {w : When} → Found s f D i f.arcs w → (a : ℕ) → Gives s f D i f.arcs t a → w ≡ at t
      from (nothing h) a g = absurd (h a g.here g.enters)
      from (found {t = u} b h) a g = rw (gives_time f.arcs u t b a h g)

  -- what an arc brings is the arrival, where it bounds what the others bring
  pub arrival_by : (a : ℕ) → a < f.arcs → f.target a ≡ i →
      ((b : ℕ) → b < f.arcs → f.target b ≡ i → Inside s (brings f D b) (brings f D a)) → arrival s f D i ≡ at (brings f D a)
  arrival_by a l e bounds = go find
    where
      go : {w : When} → Found s f D i f.arcs w → w ≡ at (brings f D a)
      go (nothing h) = absurd (h a l e)
      go (found {t = u} b h) = ap at (inside_antisym s u (brings f D a) (rw h.gives at (bounds b h.here h.enters)) (h.bounds a l e))

  pub arrival_none : arrival s f D i ≡ none ↔ Unentered f i f.arcs
  arrival_none = (to find, from find)
    where
      to : {w : When} → Found s f D i f.arcs w → w ≡ none → Unentered f i f.arcs
      to (nothing h) e = h
      to (found {t = u} a h) e = λ b l k. let z : ◌≡◌ {A = ℕ} 0 1 = cc in omega arith

      from : {w : When} → Found s f D i f.arcs w → Unentered f i f.arcs → w ≡ none
      from (nothing h) k = refl
      from (found a h) k = absurd (k a h.here h.enters)

-- two flows that are the same, at departures that agree, bring the same times
module _ (f g : Flow) (good : Good f) (same : Same f g) (D E : ℕ → ℤ) (agree : Agree f D E) where
  pub brings_same : (a : ℕ) → a < f.arcs → brings g E a ≡ brings f D a
  brings_same a l = rw (same.source a l, same.weight a l, agree (f.source a) (good.leaves a l))

  into_same : (s : Side) (i n : ℕ) → n ≤ f.arcs → into s g E i n ≡ into s f D i n
  unfolding into
  into_same s i zero l = refl
  into_same s i (suc n) l = rw (same.target n (omega arith), brings_same n (omega arith), into_same s i n (omega arith))

  pub arrival_same : (s : Side) (i : ℕ) → arrival s g E i ≡ arrival s f D i
  unfolding arrival
  arrival_same s i = ap (into s g E i) same.arcs ∙ into_same s i f.arcs (omega arith)
