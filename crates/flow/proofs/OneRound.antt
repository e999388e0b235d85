-- One round at one node: it gives the launch or what an arc into a latch brings, and no less than either.
use mathlib.Core.Path.{◌≡◌, refl, sym, ◌∙◌}
use mathlib.Core.Bool.{Bool, true, false}
use mathlib.Core.Logic.{◌⊎◌, inl, inr}
use Prim.Native.Nat.{ℕ, ◌<◌}
use lib.IntN.{ℤ}
use lib.Signed.{◌≤ℤ◌, ≤ℤ_refl}
use Rattle.ticks.proofs.Order.{≤ℤ_trans}
use Rattle.ticks.proofs.Extremes.{max_case, max_left, max_right}
use Rattle.flow.specs.Flow.{Flow, Side, late, When, none, at, brings, arrival, departs, next}
use Rattle.flow.specs.Rank.{Carries}
use Rattle.flow.proofs.Arrival.{Found, nothing, found, find}

launch_departs : (b : Bool) (l : ℤ) (w : When) → l ≤ℤ departs b l w
launch_departs false l w = ≤ℤ_refl l
launch_departs true l none = ≤ℤ_refl l
launch_departs true l (at t) = max_right t l

pub launch_next : (s : Side) (f : Flow) (D : ℕ → ℤ) (i : ℕ) → f.launch i ≤ℤ next s f D i
unfolding next
launch_next s f D i = launch_departs (f.latch i) (f.launch i) (arrival s f D i)

pub arc_next : (f : Flow) (D : ℕ → ℤ) (a : ℕ) → a < f.arcs → f.latch (f.target a) ≡ true →
    brings f D a ≤ℤ next late f D (f.target a)
unfolding next
arc_next f D a h e = rw e (go (find late f D (f.target a)))
  where
    go : {w : When} → Found late f D (f.target a) f.arcs w → brings f D a ≤ℤ departs true (f.launch (f.target a)) w
    go (nothing k) = absurd (k a h refl)
    go (found {t} b k) = ≤ℤ_trans (k.bounds a h refl) (max_left t (f.launch (f.target a)))

pub set_by : (s : Side) (f : Flow) (D : ℕ → ℤ) (i : ℕ) →
    (next s f D i ≡ f.launch i) ⊎ ((a : ℕ) × Carries f D i (next s f D i) a)
unfolding next
set_by s f D i = go (f.latch i) refl (find s f D i)
  where
    go : (b : Bool) → f.latch i ≡ b → {w : When} → Found s f D i f.arcs w →
        (departs b (f.launch i) w ≡ f.launch i) ⊎ ((a : ℕ) × Carries f D i (departs b (f.launch i) w) a)
    go false e k = inl refl
    go true e (nothing k) = inl refl
    go true e (found {t} a k) = elim (max_case t (f.launch i)) [
      | inl h ↦ inr (a, record { here = k.here; enters = k.enters; holds = e; carries = k.gives ∙ sym h.0 })
      | inr h ↦ inl h.0
    ]
