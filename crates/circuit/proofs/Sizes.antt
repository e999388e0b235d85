-- No result but the mark is 2^41 or more in size: departures lie between 0 and 1,025,000,000,000, an arrival is at most one weight
-- further out, and a slack takes at most one cycle off.
use mathlib.Core.Path.{◌≡◌, refl}
use mathlib.Core.List.{List, [], ◌∷◌, ◌++◌}
use mathlib.Core.Logic.{◌⊎◌, inl, inr}
use Prim.Native.Nat.{ℕ, zero, suc, ◌^◌, ◌≤◌, ◌<◌}
use native.Mathlib.Omega.{arith}
use lib.IntN.{ℤ, pos, negsuc, nat_abs, ◌-ℤ◌}
use lib.Signed.{◌≤ℤ◌}
use Rattle.ticks.proofs.Ints.{ints, diff}
use Rattle.ticks.proofs.Order.{≤ℤ_trans}
use Rattle.flow.specs.Flow.{Side, late, early, When, none, at}
use Rattle.flow.proofs.Sizes.{arrival_size}
use Rattle.circuit.specs.Circuit.{Circuit}
use Rattle.circuit.specs.Clock.{flow}
use Rattle.circuit.specs.Times.{Times, arrives, setup_slack, hold_slack, mark, or_mark, six, results}
use Rattle.circuit.proofs.Sound.{Sound, good}
use Rattle.circuit.proofs.Ranges.{weight_high, weight_low}
use Rattle.circuit.proofs.Solved.{early_late, early_low, late_high}

abbrev pub Small : ℤ → Type 0
Small z = (z ≡ mark) ⊎ (nat_abs z < 2 ^ 41)

abbrev pub AllSmall : List ℤ → Type 0
AllSmall [] = Unit {0}
AllSmall (z ∷ zs) = Small z × AllSmall zs

all_append : (xs ys : List ℤ) → AllSmall xs → AllSmall ys → AllSmall (xs ++ ys)
all_append [] ys h k = k
all_append (x ∷ xs) ys h k = (h.0, all_append xs ys h.1 k)

-- what lies between -2,000,000,000 and 1,030,000,000,000, or the same turned round
size : (z : ℤ) → negsuc 1029999999999 ≤ℤ z → z ≤ℤ pos 1030000000000 → nat_abs z < 2 ^ 41
size (pos n) h k = omega ints
size (negsuc n) h k = omega ints

module _ (c : Circuit) (v : Sound c) (E D : ℕ → ℤ) (t : Times c E D) where
  abbrev of_side : Side → ℕ → ℤ
  of_side early = E
  of_side late = D

  departure_low : (s : Side) (i : ℕ) → i < c.synchronizers → pos 0 ≤ℤ of_side s i
  departure_low early i l = early_low c v E D t i l
  departure_low late i l = ≤ℤ_trans (early_low c v E D t i l) (early_late c v E D t i l)

  departure_high : (s : Side) (i : ℕ) → i < c.synchronizers → of_side s i ≤ℤ pos 1025000000000
  departure_high early i l = ≤ℤ_trans (early_late c v E D t i l) (late_high c v E D t i l)
  departure_high late i l = late_high c v E D t i l

  departure_small : (s : Side) (i : ℕ) → i < c.synchronizers → Small (of_side s i)
  departure_small s i l = inr (size (of_side s i) (omega (ints, departure_low s i l)) (omega (ints, departure_high s i l)))

  -- anything that moves an arrival by a cycle at most, or turns it round and does so, stays small
  arrival_small : (s : Side) (i : ℕ) (f : ℤ → ℤ) →
      ((u : ℤ) → negsuc 999999999 ≤ℤ u → u ≤ℤ pos 1027000000000 → nat_abs (f u) < 2 ^ 41) →
      Small (or_mark f (arrives s c (of_side s) i))
  arrival_small s i f h = go (arrives s c (of_side s) i) refl
    where
      go : (w : When) → arrives s c (of_side s) i ≡ w → Small (or_mark f w)
      go none e = inl refl
      go (at u) e = inr (h u
          (arrival_size early s (flow s c) (good s c v) (of_side s) (pos 0) (negsuc 999999999) (departure_low s) (weight_low c v s) i u e)
          (arrival_size late s (flow s c) (good s c v) (of_side s) (pos 1025000000000) (pos 2000000000) (departure_high s) (weight_high c v s) i u e))

  hold_small : (i : ℕ) → i < c.synchronizers → (u : ℤ) → negsuc 999999999 ≤ℤ u → u ≤ℤ pos 1027000000000 → nat_abs (hold_slack c i u) < 2 ^ 41
  unfolding hold_slack
  hold_small i l u h k = let m = v.hold i l in let n = v.cycle in
      size (u -ℤ pos (c.hold i)) (omega (ints, diff u (pos (c.hold i)))) (omega (ints, diff u (pos (c.hold i))))

  setup_small : (i : ℕ) → i < c.synchronizers → (u : ℤ) → negsuc 999999999 ≤ℤ u → u ≤ℤ pos 1027000000000 → nat_abs (setup_slack c i u) < 2 ^ 41
  unfolding setup_slack
  setup_small i l u h k = let m = v.setup i l in let n = v.cycle in
      let x = pos c.cycle -ℤ pos (c.setup i) in
      size (x -ℤ u) (omega (ints, diff (pos c.cycle) (pos (c.setup i)), diff x u)) (omega (ints, diff (pos c.cycle) (pos (c.setup i)), diff x u))

  six_small : (i : ℕ) → i < c.synchronizers → AllSmall (six c E D i)
  unfolding six
  six_small i l = (
    departure_small early i l,
    (
      departure_small late i l,
      (
        arrival_small early i (λ u. u) (λ u h k. size u (omega ints) (omega ints)),
        (
          arrival_small late i (λ u. u) (λ u h k. size u (omega ints) (omega ints)),
          (
            arrival_small early i (hold_slack c i) (hold_small i l),
            (arrival_small late i (setup_slack c i) (setup_small i l), tt),
          ),
        ),
      ),
    ),
  )

  pub results_small : (n : ℕ) → n ≤ c.synchronizers → AllSmall (results c E D n)
  unfolding results
  results_small zero l = tt
  results_small (suc n) l = all_append (results c E D n) (six c E D n) (results_small n (omega arith)) (six_small n (omega arith))
