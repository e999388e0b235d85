-- The sentences of docs/RULES.md about departures, delays and checks, read off the definitions: of times that fit, what a latch and a
-- flip-flop do; that early and late delays hold every delay between them; and when a check is met.
use mathlib.Core.Path.{◌≡◌, refl}
use mathlib.Core.Bool.{Bool, true, false}
use mathlib.Core.Logic.{◌↔◌}
use Prim.Native.Nat.{ℕ, ◌+◌, ◌≤◌, ◌<◌}
use native.Mathlib.Omega.{arith}
use lib.IntN.{ℤ, pos}
use lib.Signed.{◌≤ℤ◌, lt_z}
use Rattle.ticks.specs.Extremes.{max_ℤ}
use Rattle.ticks.proofs.Ints.{ints}
use Rattle.ticks.proofs.Order.{lt_z_true, lt_z_false}
use Rattle.flow.specs.Flow.{Side, late, early, When, none, at, next, Fits}
use Rattle.circuit.specs.Circuit.{Circuit}
use Rattle.circuit.specs.Clock.{is_latch, opening, launch, delay, flow}
use Rattle.circuit.specs.Times.{arrives, Met, missed}

module _ (s : Side) (c : Circuit) (D : ℕ → ℤ) (fits : Fits s (flow s c) D) (i : ℕ) (l : i < c.synchronizers) where
  -- a flip-flop departs at Tc
  pub flop_departs : is_latch c i ≡ false → D i ≡ pos c.cycle
  unfolding next launch
  flop_departs e = rw (fits i l, e)

  -- a latch departs at the greater of arrival and opening, and without an arc in at its opening
  pub latch_departs : is_latch c i ≡ true → (t : ℤ) → arrives s c D i ≡ at t → D i ≡ max_ℤ t (opening c i)
  unfolding next launch
  latch_departs e t h = rw (fits i l, e, h)

  pub latch_opens : is_latch c i ≡ true → arrives s c D i ≡ none → D i ≡ opening c i
  unfolding next launch
  latch_opens e h = rw (fits i l, e, h)

-- a delay x of the synchronizer that the arc a leaves and a delay y of a, each inside its window, make one between the early and the late
pub delay_between : (c : Circuit) (a x y : ℕ) → c.least (c.from a) ≤ x → x ≤ c.greatest (c.from a) →
    c.shortest a ≤ y → y ≤ c.longest a → (delay early c a ≤ x + y) × (x + y ≤ delay late c a)
unfolding delay
delay_between c a x y h k l m = (omega arith, omega arith)

-- a check is met, or missed, and never both
pub met_exactly : (slack : ℤ → ℤ) (w : When) → missed slack w ≡ false ↔ Met slack w
met_exactly slack none = (λ e. tt, λ h. refl)
met_exactly slack (at t) = (lt_z_false (slack t) (pos 0), λ h. go (lt_z (slack t) (pos 0)) refl h)
  where
    go : (b : Bool) → lt_z (slack t) (pos 0) ≡ b → pos 0 ≤ℤ slack t → b ≡ false
    go true e h = let k = lt_z_true (slack t) (pos 0) e in let z : ⊥ = omega ints in absurd z
    go false e h = refl
