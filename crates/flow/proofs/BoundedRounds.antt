-- Rounds that something bounds settle, as each change takes from the room that is left below the bound. So the least solution of a
-- flow is below all that fits a flow above it.
use mathlib.Core.Logic.{inl, inr}
use Prim.Native.Nat.{ℕ, zero, suc, ◌+◌, ◌-◌, ◌<◌, ◌≤◌}
use native.Mathlib.Omega.{arith}
use native.Mathlib.Decide.{ℕ_discrete}
use lib.IntN.{ℤ}
use lib.Signed.{◌<ℤ◌}
use Rattle.ticks.proofs.Ints.{ints, up, down}
use Rattle.ticks.proofs.Order.{≤ℤ_trans}
use Rattle.flow.specs.Flow.{Flow, Good, Side, late, Fits, Least}
use Rattle.flow.specs.Inside.Rounds.{round, Settled}
use Rattle.flow.specs.Inside.Within.{Bounded}
use Rattle.flow.proofs.Rounds.{Under, under_rounds, rises, settled_least, settled_or}

-- the sum of the first n numbers
total : (ℕ → ℕ) → ℕ → ℕ
total g zero = 0
total g (suc n) = total g n + g n

total_le : (g h : ℕ → ℕ) (n : ℕ) → ((i : ℕ) → i < n → g i ≤ h i) → total g n ≤ total h n
unfolding total
total_le g h zero k = omega arith
total_le g h (suc n) k = omega (arith, total_le g h n (λ i l. k i (omega arith)), k n (omega arith))

total_lt : (g h : ℕ → ℕ) (n j : ℕ) → ((i : ℕ) → i < n → g i ≤ h i) → j < n → g j < h j → total g n < total h n
unfolding total
total_lt g h zero j k l m = omega arith
total_lt g h (suc n) j k l m = elim (ℕ_discrete j n) [
  | yes e ↦ (let z : g n < h n = rw e at m in omega (arith, total_le g h n (λ i l. k i (omega arith))))
  | no d ↦ omega (arith, total_lt g h n j (λ i l. k i (omega arith)) (omega arith) m, k n (omega arith))
]

-- how far D i lies below E i
room : (ℕ → ℤ) → (ℕ → ℤ) → ℕ → ℕ
room E D i = (up (E i) + down (D i)) - (up (D i) + down (E i))

module _ (s : Side) (f : Flow) (good : Good f) (E : ℕ → ℤ) (bound : (n : ℕ) → Bounded late f (round s f n) E) where
  left : ℕ → ℕ
  left n = total (room E (round s f n)) f.nodes

  shrinks : (n j : ℕ) → j < f.nodes → round s f n j <ℤ round s f (suc n) j → left (suc n) < left n
  unfolding room left
  shrinks n j l h = total_lt (room E (round s f (suc n))) (room E (round s f n)) f.nodes j
      (λ i k. omega (ints, rises s f good n i k)) l (omega (ints, bound (suc n) j l))

  settles_within : (k n : ℕ) → left n < k → (m : ℕ) × Settled s f m
  settles_within zero n h = let z : ⊥ = omega arith in absurd z
  settles_within (suc k) n h = elim (settled_or s f good n) [
    | inl j ↦ settles_within k (suc n) (omega (arith, shrinks n j.0 j.1 j.2))
    | inr done ↦ (n, done)
  ]

  -- rounds that something bounds settle
  pub bounded_settles : (n : ℕ) × Settled s f n
  bounded_settles = settles_within (suc (left zero)) zero (omega arith)

-- the least of the lower flow is below all that fits the upper
pub under_least : (s : Side) (g : Flow) (r : Side) (f : Flow) → Good g → Under s g r f →
    (D E : ℕ → ℤ) → Least s g D → Fits r f E → Bounded late g D E
under_least s g r f good under D E h fits i l =
    let below = under_rounds s g r f under E fits in
    let done = bounded_settles s g good E below in
    ≤ℤ_trans (h.least (round s g done.0) (settled_least s g good done.0 done.1).fits i l) (below done.0 i l)
