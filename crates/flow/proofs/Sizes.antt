-- How large times get: a round adds one arc's weight at most, a departure is no sooner than its launch, and an arrival lies between
-- the sums of the departures' bounds and the weights' bounds.
use mathlib.Core.Path.{◌≡◌}
use mathlib.Core.Logic.{inl, inr}
use Prim.Native.Nat.{ℕ, zero, suc, ◌*◌, ◌<◌}
use lib.IntN.{ℤ, pos, ◌+ℤ◌}
use lib.Signed.{◌≤ℤ◌, ≤ℤ_refl}
use Rattle.ticks.proofs.Ints.{ints, sum}
use Rattle.flow.specs.Flow.{Flow, Good, Side, at, arrival}
use Rattle.flow.specs.Inside.Rounds.{round}
use Rattle.flow.specs.Bounds.{Inside}
use Rattle.flow.proofs.Sides.{inside_plus}
use Rattle.flow.proofs.Arrival.{arrival_at}
use Rattle.flow.proofs.OneRound.{launch_next, set_by}

-- for r late a bound from above, for r early one from below
pub arrival_size : (r s : Side) (f : Flow) → Good f → (D : ℕ → ℤ) (B W : ℤ) →
    ((i : ℕ) → i < f.nodes → Inside r (D i) B) → ((a : ℕ) → a < f.arcs → Inside r (f.weight a) W) →
    (i : ℕ) (t : ℤ) → arrival s f D i ≡ at t → Inside r t (B +ℤ W)
arrival_size r s f good D B W h k i t e =
    let g = (arrival_at s f D i t).0 e in
    let a = g.0 in
    rw g.1.gives at (inside_plus r _ _ _ _ (h (f.source a) (good.leaves a g.1.here)) (k a g.1.here))

pub launch_round : (s : Side) (f : Flow) (n i : ℕ) → f.launch i ≤ℤ round s f n i
unfolding round
launch_round s f zero i = ≤ℤ_refl _
launch_round s f (suc n) i = launch_next s f (round s f n) i

pub round_size : (s : Side) (f : Flow) → Good f → (B : ℤ) (W : ℕ) →
    ((i : ℕ) → i < f.nodes → f.launch i ≤ℤ B) → ((a : ℕ) → a < f.arcs → f.weight a ≤ℤ pos W) →
    (n i : ℕ) → i < f.nodes → round s f n i ≤ℤ (B +ℤ pos (n * W))
unfolding round
round_size s f good B W h k zero i l = omega (ints, h i l, sum B (pos (0 * W)))
round_size s f good B W h k (suc n) i l = elim (set_by s f (round s f n) i) [
  | inl e ↦ omega (ints, h i l, sum B (pos (suc n * W)))
  | inr c ↦ (
      let a = c.0 in
      let j = f.source a in
      let o = round_size s f good B W h k n j (good.leaves a c.1.here) in
      omega (ints, o, c.1.carries, k a c.1.here, sum (round s f n j) (f.weight a), sum B (pos (n * W)), sum B (pos (suc n * W))))
]
