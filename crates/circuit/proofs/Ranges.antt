-- How large the clock's numbers are: shifts and launches lie between 0 and Tc, and weights follow. Early weights are no greater
-- than late ones, so the early flow lies within the late one.
use mathlib.Core.Path.{refl}
use mathlib.Core.Bool.{Bool, true, false, cond}
use Prim.Native.Nat.{ℕ, ◌≤◌, ◌<◌}
use native.Mathlib.Nat.{le_refl}
use native.Mathlib.Omega.{arith}
use lib.IntN.{ℤ, pos, negsuc}
use lib.Signed.{◌≤ℤ◌, ≤ℤ_refl}
use Rattle.ticks.proofs.Ints.{ints, diff}
use Rattle.flow.specs.Flow.{Side, late, early}
use Rattle.flow.specs.Inside.Within.{Within}
use Rattle.circuit.specs.Circuit.{Circuit}
use Rattle.circuit.specs.Clock.{across, is_latch, opening, launch, delay, weight, flow}
use Rattle.circuit.proofs.Sound.{Sound}
use Rattle.circuit.proofs.Shifts.{shift_next}
use Rattle.circuit.proofs.RulesInWords.{delay_between}

-- 0 ≤ z ≤ n
pub record Between (z : ℤ) (n : ℕ) : Type 0 where
  pub low : pos 0 ≤ℤ z
  pub high : z ≤ℤ pos n

between_cond : (t : Bool) {x y : ℤ} {n : ℕ} → Between x n → Between y n → Between (cond t x y) n
between_cond true h k = h
between_cond false h k = k

module _ (c : Circuit) (v : Sound c) where
  -- a shift is 1 to Tc
  pub across_range : (a : ℕ) → a < c.arcs → Between (across c a) c.cycle
  across_range a l = let h = shift_next c v _ _ (v.phase _ (v.from a l)) (v.phase _ (v.to a l)) in
      record { low = omega (ints, h.some); high = h.most }

  pub opening_range : (i : ℕ) → i < c.synchronizers → Between (opening c i) c.cycle
  unfolding opening
  opening_range i l = let h = v.active (c.phase i) (v.phase i l) in record {
    low = omega (ints, diff (pos c.cycle) (pos (c.active (c.phase i))));
    high = omega (ints, diff (pos c.cycle) (pos (c.active (c.phase i))));
  }

  pub launch_range : (i : ℕ) → i < c.synchronizers → Between (launch c i) c.cycle
  unfolding launch
  launch_range i l = between_cond (is_latch c i) (opening_range i l) (record { low = omega ints; high = ≤ℤ_refl _ })

  pub delay-le : (a : ℕ) → a < c.arcs → delay early c a ≤ delay late c a
  delay-le a l =
      let h = delay_between c a _ _ (le_refl _) (v.least (c.from a) (v.from a l)) (le_refl _) (v.shortest a l) in
      omega (arith, h.0, h.1)

  late_most : (a : ℕ) → a < c.arcs → delay late c a ≤ 2000000000
  unfolding delay
  late_most a l = omega (arith, v.greatest (c.from a) (v.from a l), v.longest a l)

  delay_most : (s : Side) (a : ℕ) → a < c.arcs → delay s c a ≤ 2000000000
  delay_most early a l = omega (arith, delay-le a l, late_most a l)
  delay_most late a l = late_most a l

  pub weight_high : (s : Side) (a : ℕ) → a < c.arcs → weight s c a ≤ℤ pos 2000000000
  unfolding weight
  weight_high s a l = omega (ints, delay_most s a l, (across_range a l).low, diff (pos (delay s c a)) (across c a))

  pub weight_low : (s : Side) (a : ℕ) → a < c.arcs → negsuc 999999999 ≤ℤ weight s c a
  unfolding weight
  weight_low s a l = omega (ints, v.cycle, (across_range a l).high, diff (pos (delay s c a)) (across c a))

  pub weight-le : (a : ℕ) → a < c.arcs → weight early c a ≤ℤ weight late c a
  unfolding weight
  weight-le a l = omega (ints, delay-le a l, diff (pos (delay early c a)) (across c a), diff (pos (delay late c a)) (across c a))

  pub early_within : Within late (flow early c) (flow late c)
  early_within = record {
    nodes = refl;
    latch = λ i l. refl;
    launch = λ i l. ≤ℤ_refl _;
    cover = λ a l. (a, record { here = l; source = refl; target = refl; weight = weight-le a l });
    keeps = tt;
  }
