-- Times exist or a ring grows, decided; and where they exist they are what as many rounds give as there are synchronizers. So
-- they are unique, the early ones are no later than the late ones, and none is large.
use mathlib.Core.Path.{◌≡◌}
use mathlib.Core.Logic.{◌⊎◌, inl, inr, ◌↔◌}
use Prim.Native.Nat.{ℕ, ◌*◌, ◌<◌}
use native.Mathlib.Omega.{arith}
use lib.IntN.{ℤ, pos}
use lib.Signed.{◌≤ℤ◌}
use Rattle.ticks.proofs.Ints.{ints, sum}
use Rattle.ticks.proofs.Order.{≤ℤ_trans}
use Rattle.flow.specs.Flow.{Side, late, early, Fits, Least}
use Rattle.flow.specs.Inside.Rounds.{round, Settled}
use Rattle.flow.specs.Bounds.{Nested}
use Rattle.flow.specs.Walk.{GrowingRing}
use Rattle.flow.proofs.Rounds.{least_unique, settled_least}
use Rattle.flow.proofs.Settles.{within_settles, least_or_ring}
use Rattle.flow.proofs.Walks.{fits_calm}
use Rattle.flow.proofs.Windows.{departures_inside, arrivals_inside}
use Rattle.flow.proofs.Within.{kept_self, within_self}
use Rattle.flow.proofs.Sizes.{round_size, launch_round}
use Rattle.circuit.specs.Circuit.{Circuit}
use Rattle.circuit.specs.Clock.{flow}
use Rattle.circuit.specs.Times.{Times, Calm, Growing, arrives}
use Rattle.circuit.proofs.Sound.{Sound, good}
use Rattle.circuit.proofs.Ranges.{launch_range, weight_high, early_within}

module _ (c : Circuit) (v : Sound c) where
  -- the rounds that are enough
  pub worked : (s : Side) → ℕ → ℤ
  worked s = round s (flow s c) c.synchronizers

  pub decided : Calm c ⊎ GrowingRing (flow late c)
  decided = elim (least_or_ring (flow late c) (good late c v) c.synchronizers (omega arith)) [
    | inl h ↦ inl (round late (flow late c) c.synchronizers, h.0.fits)
    | inr r ↦ inr r
  ]

  -- no late departures fit exactly where a ring grows
  pub growing_exactly : Growing c ↔ GrowingRing (flow late c)
  growing_exactly = (
    λ g. elim decided [ inl h ↦ absurd (g h.0 h.1) | inr r ↦ r ],
    λ r D fits. fits_calm (flow late c) (good late c v) D fits r,
  )

  module _ (D : ℕ → ℤ) (fits : Fits late (flow late c) D) where
    worked_settled : (s : Side) → Settled s (flow s c) c.synchronizers
    worked_settled late = within_settles (flow late c) (flow late c) (good late c v) (good late c v) (within_self late (flow late c)) D fits late
        c.synchronizers (omega arith)
    worked_settled early = within_settles (flow early c) (flow late c) (good early c v) (good late c v) (early_within c v) D fits early
        c.synchronizers (omega arith)

    pub worked_least : (s : Side) → Least s (flow s c) (worked s)
    unfolding worked
    worked_least s = settled_least s (flow s c) (good s c v) c.synchronizers (worked_settled s)

    -- so a least solution is what the rounds give
    pub worked_is : (s : Side) (T : ℕ → ℤ) → Least s (flow s c) T → (i : ℕ) → i < c.synchronizers → T i ≡ worked s i
    worked_is s T h = least_unique s (flow s c) T (worked s) h (worked_least s)

  pub worked_times : Calm c → Times c (worked early) (worked late)
  worked_times calm = record { early = worked_least calm.0 calm.1 early; late = worked_least calm.0 calm.1 late }

  module _ (E D : ℕ → ℤ) (t : Times c E D) where
    -- early times are no later than late ones
    pub early_late : (i : ℕ) → i < c.synchronizers → E i ≤ℤ D i
    early_late = departures_inside late early (flow early c) (flow late c) (good early c v) (good late c v) (early_within c v)
        E D (t.early, t.late.fits)

    pub early_late_arrivals : (i : ℕ) → Nested late (arrives early c E i) (arrives late c D i)
    early_late_arrivals = arrivals_inside late early (flow early c) (flow late c) (good early c v) (good late c v) (early_within c v)
        (kept_self (flow late c)) E D (t.early, t.late.fits)

    -- a departure lies between 0 and 512 of the greatest weights after Tc
    pub early_low : (i : ℕ) → i < c.synchronizers → pos 0 ≤ℤ E i
    unfolding worked
    early_low i l = ≤ℤ_trans (launch_range c v i l).low
        (rw (worked_is D t.late.fits early E t.early i l) (launch_round early (flow early c) c.synchronizers i))

    pub late_high : (i : ℕ) → i < c.synchronizers → D i ≤ℤ pos 1025000000000
    unfolding worked
    late_high i l = rw (worked_is D t.late.fits late D t.late i l) (omega (
      ints,
      v.synchronizers,
      sum (pos 1000000000) (pos (c.synchronizers * 2000000000)),
      round_size late (flow late c) (good late c v) (pos 1000000000) 2000000000
          (λ j k. ≤ℤ_trans (launch_range c v j k).high (omega (ints, v.cycle)))
          (weight_high c v late) c.synchronizers i l,
    ))
