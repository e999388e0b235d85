-- What the shift between two phases is. It is told by the ticks at which they close, and not by their numbers: the one number from 1 to Tc that
-- leads from a tick at which the first closes to one at which the second does. So phases that close together act as one.
use mathlib.Core.Path.{◌≡◌, refl, sym, ◌∙◌}
use mathlib.Core.Bool.{Bool, true, false, cond}
use mathlib.Core.List.{List, [], ◌∷◌, map}
use mathlib.Core.Logic.{◌⊎◌, inl, inr, ◌≢◌, ◌↔◌}
use Prim.Native.Nat.{ℕ, ◌+◌, ◌≤◌, ◌<◌}
use native.Mathlib.Omega.{arith}
use native.Mathlib.Decide.{dec_lt}
use lib.Dec.{ltb, eqb}
use lib.IntN.{ℤ, pos, ◌-ℤ◌}
use lib.ListN.{get_or}
use lib.Signed.{◌≤ℤ◌}
use borrow.Author.Tests.{eqb-true, eqb-false, eq-eqb, ltb-true, ltb-false}
use Rattle.ticks.proofs.Ints.{ints, diff}
use Rattle.circuit.specs.Circuit.{Circuit}
use Rattle.circuit.specs.Clock.{tick, together, shift}
use Rattle.circuit.proofs.Sound.{Sound}

-- ---- one clock, in numbers: phases that close at 0, at 40, and three at 100, which is Tc. The first closes together with the last three
-- a circuit with this clock, and nothing else in it
abbrev pub clock : List ℕ → Circuit
clock closings = record {
  cycle = 100;
  phases = 5;
  synchronizers = 0;
  arcs = 0;
  closing = λ p. get_or closings p 0;
  active = λ p. 0;
  phase = λ i. 0;
  kind = λ i. 0;
  setup = λ i. 0;
  hold = λ i. 0;
  least = λ i. 0;
  greatest = λ i. 0;
  from = λ a. 0;
  to = λ a. 0;
  shortest = λ a. 0;
  longest = λ a. 0;
}

-- from a phase to each of the five
abbrev pub shifts : ℕ → List ℤ
shifts p = map (shift (clock (0 ∷ 40 ∷ 100 ∷ 100 ∷ 100 ∷ [])) p) (0 ∷ 1 ∷ 2 ∷ 3 ∷ 4 ∷ [])

pub clock_shifts : map shifts (0 ∷ 1 ∷ 2 ∷ 3 ∷ 4 ∷ []) ≡
    (pos 100 ∷ pos 40 ∷ pos 100 ∷ pos 100 ∷ pos 100 ∷ []) ∷
    (pos 60 ∷ pos 100 ∷ pos 60 ∷ pos 60 ∷ pos 60 ∷ []) ∷
    (pos 100 ∷ pos 40 ∷ pos 100 ∷ pos 100 ∷ pos 100 ∷ []) ∷
    (pos 100 ∷ pos 40 ∷ pos 100 ∷ pos 100 ∷ pos 100 ∷ []) ∷
    (pos 100 ∷ pos 40 ∷ pos 100 ∷ pos 100 ∷ pos 100 ∷ []) ∷
    []
unfolding tick together shift
clock_shifts = refl

-- ---- of any clock
-- z leads from the tick x of a cycle to the next tick y: in the same cycle, or in the one after
pub record NextClose (tc x y : ℕ) (z : ℤ) : Type 0 where
  pub some : pos 1 ≤ℤ z
  pub most : z ≤ℤ pos tc
  pub lands : (z ≡ pos y -ℤ pos x) ⊎ (z ≡ pos (tc + y) -ℤ pos x)

-- only one number does
pub next_one : {tc x y : ℕ} {z w : ℤ} → NextClose tc x y z → NextClose tc x y w → z ≡ w
next_one {tc} {x} {y} {z} {w} h k = go h.lands k.lands
  where
    go : (z ≡ pos y -ℤ pos x) ⊎ (z ≡ pos (tc + y) -ℤ pos x) → (w ≡ pos y -ℤ pos x) ⊎ (w ≡ pos (tc + y) -ℤ pos x) → z ≡ w
    go (inl e) (inl f) = e ∙ sym f
    go (inl e) (inr f) = omega (ints, e, f, h.some, k.most, diff (pos y) (pos x), diff (pos (tc + y)) (pos x))
    go (inr e) (inl f) = omega (ints, e, f, k.some, h.most, diff (pos y) (pos x), diff (pos (tc + y)) (pos x))
    go (inr e) (inr f) = e ∙ sym f

-- a number that is never below zero
module _ {tc x y r : ℕ} (some : 1 ≤ r) (most : r ≤ tc) where
  pub lands_now : x + r ≡ y → NextClose tc x y (pos r)
  lands_now e = record { some = omega ints; most = omega ints; lands = inl (omega (ints, diff (pos y) (pos x))) }

  pub lands_later : x + r ≡ tc + y → NextClose tc x y (pos r)
  lands_later e = record { some = omega ints; most = omega ints; lands = inr (omega (ints, diff (pos (tc + y)) (pos x))) }

-- phases that close together have a shift of Tc
pub shift_together : (c : Circuit) (p q : ℕ) → tick c p ≡ tick c q → shift c p q ≡ pos c.cycle
unfolding shift together
shift_together c p q e = rw (eq-eqb (tick c p) (tick c q) e)

pub shift_self : (c : Circuit) (p : ℕ) → shift c p p ≡ pos c.cycle
shift_self c p = shift_together c p p refl

-- a phase that closes at Tc closes at tick 0, any other at its own
abbrev Ticks : Circuit → ℕ → Type 0
Ticks c p = ((c.closing p ≡ c.cycle) × (tick c p ≡ 0)) ⊎ ((c.closing p < c.cycle) × (tick c p ≡ c.closing p))

-- a number that is not above another, and not the same, is below it
strictly : {a b : ℕ} → a ≤ b → a ≢ b → a < b
strictly {a} {b} h d = elim (dec_lt a b) [
  | yes l ↦ l
  | no k ↦ absurd (d (omega arith))
]

module _ (c : Circuit) (v : Sound c) where
  ticks : (p : ℕ) → p < c.phases → Ticks c p
  unfolding tick
  ticks p l = go (eqb (c.closing p) c.cycle) refl
    where
      go : (b : Bool) → eqb (c.closing p) c.cycle ≡ b →
          ((c.closing p ≡ c.cycle) × (cond b 0 (c.closing p) ≡ 0)) ⊎ ((c.closing p < c.cycle) × (cond b 0 (c.closing p) ≡ c.closing p))
      go true e = inl (eqb-true _ _ e, refl)
      go false e = inr (strictly (v.closing p l) (eqb-false _ _ e), refl)

  pub tick_below : (p : ℕ) → p < c.phases → tick c p < c.cycle
  tick_below p l = go (ticks p l)
    where
      go : Ticks c p → tick c p < c.cycle
      go (inl x) = omega (arith, v.some_cycle)
      go (inr x) = omega arith

  module _ (p q : ℕ) (l : p < c.phases) (m : q < c.phases) where
    abbrev Next : ℤ → Type 0
    Next = NextClose c.cycle (tick c p) (tick c q)

    together_next : tick c p ≡ tick c q → Next (pos c.cycle)
    together_next e = lands_later v.some_cycle (omega arith) (omega (arith, e))

    -- from a phase to a later one, and to an earlier one, where they do not close together
    on : p ≤ q → tick c p ≢ tick c q → Ticks c p → Ticks c q → Next (pos (c.closing q) -ℤ pos (c.closing p))
    on h d (inl x) (inl y) = absurd (d (x.1 ∙ sym y.1))
    on h d (inl x) (inr y) = let r = v.rising p q h m in let z : ⊥ = omega arith in absurd z
    on h d (inr x) (inl y) = let z = diff (pos (c.closing q)) (pos (c.closing p)) in record {
      some = omega (ints, z);
      most = omega (ints, z);
      lands = inr (omega (ints, z, diff (pos (c.cycle + tick c q)) (pos (tick c p))));
    }
    on h d (inr x) (inr y) =
        let z = diff (pos (c.closing q)) (pos (c.closing p)) in
        let r = strictly (v.rising p q h m) (λ e. d (x.1 ∙ e ∙ sym y.1)) in record {
          some = omega (ints, z);
          most = omega (ints, z);
          lands = inl (rw (x.1, y.1) refl);
        }

    round : q ≤ p → tick c p ≢ tick c q → Ticks c p → Ticks c q → Next (pos (c.cycle + c.closing q) -ℤ pos (c.closing p))
    round h d (inl x) (inl y) = absurd (d (x.1 ∙ sym y.1))
    round h d (inr x) (inl y) = let r = v.rising q p h l in let z : ⊥ = omega arith in absurd z
    round h d (inl x) (inr y) =
        let z = diff (pos (c.cycle + c.closing q)) (pos (c.closing p)) in
        let some : 0 < tick c q = strictly (omega arith) (λ e. d (x.1 ∙ e)) in record {
          some = omega (ints, z);
          most = omega (ints, z);
          lands = inl (omega (ints, z, diff (pos (tick c q)) (pos (tick c p))));
        }
    round h d (inr x) (inr y) =
        let z = diff (pos (c.cycle + c.closing q)) (pos (c.closing p)) in
        let r = strictly (v.rising q p h l) (λ e. d (x.1 ∙ sym e ∙ sym y.1)) in record {
          some = omega (ints, z);
          most = omega (ints, z);
          lands = inr (rw (x.1, y.1) refl);
        }

    pub shift_next : Next (shift c p q)
    unfolding shift together
    shift_next = go (eqb (tick c p) (tick c q)) refl (ltb p q) refl
      where
        go : (b : Bool) → eqb (tick c p) (tick c q) ≡ b → (t : Bool) → ltb p q ≡ t → Next
            (cond b (pos c.cycle) (cond t (pos (c.closing q) -ℤ pos (c.closing p)) (pos (c.cycle + c.closing q) -ℤ pos (c.closing p))))
        go true e t f = together_next (eqb-true _ _ e)
        go false e true f = on (omega (arith, ltb-true p q f)) (eqb-false _ _ e) (ticks p l) (ticks q m)
        go false e false f = round (omega (arith, ltb-false p q f)) (eqb-false _ _ e) (ticks p l) (ticks q m)

  -- 0 and Tc are one tick
  tick_0 : (p : ℕ) → p < c.phases → (c.closing p ≡ 0) ⊎ (c.closing p ≡ c.cycle) → tick c p ≡ 0
  tick_0 p l h = go h (ticks p l)
    where
      go : (c.closing p ≡ 0) ⊎ (c.closing p ≡ c.cycle) → Ticks c p → tick c p ≡ 0
      go h (inl x) = x.1
      go (inl h) (inr x) = x.1 ∙ h
      go (inr h) (inr x) = omega arith

  -- phases close together that close at the same time, or one at 0 and the other at Tc; and no others
  pub together_exactly : (p q : ℕ) → p < c.phases → q < c.phases → (together c p q ≡ true) ↔
      ((c.closing p ≡ c.closing q) ⊎ ((c.closing p ≡ 0) × (c.closing q ≡ c.cycle)) ⊎ ((c.closing p ≡ c.cycle) × (c.closing q ≡ 0)))
  unfolding together tick
  together_exactly p q l m = (λ e. to (eqb-true (tick c p) (tick c q) e) (ticks p l) (ticks q m), λ h. eq-eqb (tick c p) (tick c q) (from h))
    where
      to : tick c p ≡ tick c q → Ticks c p → Ticks c q →
          (c.closing p ≡ c.closing q) ⊎ ((c.closing p ≡ 0) × (c.closing q ≡ c.cycle)) ⊎ ((c.closing p ≡ c.cycle) × (c.closing q ≡ 0))
      to e (inl x) (inl y) = inl (x.0 ∙ sym y.0)
      to e (inl x) (inr y) = inr (inr (x.0, sym y.1 ∙ sym e ∙ x.1))
      to e (inr x) (inl y) = inr (inl (sym x.1 ∙ e ∙ y.1, y.0))
      to e (inr x) (inr y) = inl (sym x.1 ∙ e ∙ y.1)

      from : (c.closing p ≡ c.closing q) ⊎ ((c.closing p ≡ 0) × (c.closing q ≡ c.cycle)) ⊎ ((c.closing p ≡ c.cycle) × (c.closing q ≡ 0)) →
          tick c p ≡ tick c q
      from (inl h) = rw h
      from (inr (inl h)) = tick_0 p l (inl h.0) ∙ sym (tick_0 q m (inr h.1))
      from (inr (inr h)) = tick_0 p l (inr h.0) ∙ sym (tick_0 q m (inl h.1))

-- so a shift is told by when the two phases close, in one circuit or in two of one cycle
next_told : {tc x y tc' x' y' : ℕ} {z w : ℤ} → tc' ≡ tc → x' ≡ x → y' ≡ y → NextClose tc' x' y' z → NextClose tc x y w → z ≡ w
next_told n e f h k = next_one (rw (n, e, f) at h) k

module _ (c d : Circuit) (v : Sound c) (w : Sound d) (n : d.cycle ≡ c.cycle) where
  tick_same : (p p' : ℕ) → d.closing p' ≡ c.closing p → tick d p' ≡ tick c p
  unfolding tick
  tick_same p p' e = rw (e, n)

  pub shift_same : (p q p' q' : ℕ) → p < c.phases → q < c.phases → p' < d.phases → q' < d.phases →
      d.closing p' ≡ c.closing p → d.closing q' ≡ c.closing q → shift d p' q' ≡ shift c p q
  shift_same p q p' q' l m l' m' e f =
      next_told n (tick_same p p' e) (tick_same q q' f) (shift_next d w p' q' l' m') (shift_next c v p q l m)
