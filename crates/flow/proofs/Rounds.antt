-- A round keeps the order of departures. So the rounds rise and stay below all that fits, and where they settle they are the least.
use mathlib.Core.Path.{◌≡◌, sym}
use mathlib.Core.Logic.{◌⊎◌, inl, inr}
use Prim.Native.Nat.{ℕ, zero, suc, ◌+◌, ◌<◌}
use native.Mathlib.Omega.{arith}
use lib.IntN.{ℤ}
use lib.Signed.{◌<ℤ◌, ≤ℤ_refl}
use Rattle.ticks.proofs.Order.{≤ℤ_trans, ≤ℤ_antisym, compare_ℤ}
use Rattle.flow.specs.Flow.{Flow, Good, Side, late, early, next, Fits, Least}
use Rattle.flow.specs.Inside.Rounds.{round, Settled}
use Rattle.flow.specs.Inside.Within.{Bounded, Agree, Within}
use Rattle.flow.proofs.Pigeonhole.{some_or_all}
use Rattle.flow.proofs.OneRound.{launch_next}
use Rattle.flow.proofs.Within.{next_inside, within_self}

-- what g makes of times on its side s stays below what f makes of later times on its side r
pub record Under (s : Side) (g : Flow) (r : Side) (f : Flow) : Type 0 where
  pub nodes : g.nodes ≡ f.nodes
  pub launch : Bounded late g g.launch f.launch
  pub next : (D E : ℕ → ℤ) → Bounded late g D E → Bounded late g (next s g D) (next r f E)

-- so for a flow within a late bound, and above an early one
abbrev pub Ordered : Side → Side → Flow → Flow → Type 0
Ordered late s g f = Under s g late f
Ordered early s g f = Under early f s g

pub within_ordered : (r s : Side) (g f : Flow) → Good g → Within r g f → Ordered r s g f
within_ordered late s g f good w = record { nodes = w.nodes; launch = w.launch; next = next_inside late s g f good w }
within_ordered early s g f good w = record {
  nodes = sym w.nodes;
  launch = λ i l. w.launch i (rw w.nodes l);
  next = λ D E h i l. next_inside early s g f good w E D (λ i l. h i (rw w.nodes at l)) i (rw w.nodes l);
}

pub under_self : (s : Side) (f : Flow) → Good f → Under s f s f
under_self late f good = within_ordered late late f f good (within_self late f)
under_self early f good = within_ordered early early f f good (within_self early f)

pub next_mono : (s : Side) (f : Flow) → Good f → (D E : ℕ → ℤ) → Bounded late f D E → Bounded late f (next s f D) (next s f E)
next_mono s f good = (under_self s f good).next

pub fits_launch : (s : Side) (f : Flow) (D : ℕ → ℤ) → Fits s f D → Bounded late f f.launch D
fits_launch s f D fits i l = rw (fits i l) (launch_next s f D i)

-- rounds of the lower flow stay below what fits the upper
module _ (s : Side) (g : Flow) (r : Side) (f : Flow) (under : Under s g r f) (E : ℕ → ℤ) (fits : Fits r f E) where
  pub under_rounds : (n : ℕ) → Bounded late g (round s g n) E
  unfolding round
  under_rounds zero i l = ≤ℤ_trans (under.launch i l) (fits_launch r f E fits i (rw under.nodes at l))
  under_rounds (suc n) i l = rw (fits i (rw under.nodes at l)) (under.next (round s g n) E (under_rounds n) i l)

module _ (s : Side) (f : Flow) (good : Good f) where
  pub rises : (n : ℕ) → Bounded late f (round s f n) (round s f (suc n))
  unfolding round
  rises zero i l = launch_next s f f.launch i
  rises (suc n) i l = next_mono s f good (round s f n) (round s f (suc n)) (rises n) i l

  pub rises_by : (d n m : ℕ) → n + d ≡ m → Bounded late f (round s f n) (round s f m)
  rises_by zero n m e i l = let k : n ≡ m = omega arith in rw k (≤ℤ_refl _)
  rises_by (suc d) n m e i l = ≤ℤ_trans (rises n i l) (rises_by d (suc n) m (omega arith) i l)

  pub rounds_fits : (E : ℕ → ℤ) → Fits s f E → (n : ℕ) → Bounded late f (round s f n) E
  rounds_fits = under_rounds s f s f (under_self s f good)

  pub settled_least : (n : ℕ) → Settled s f n → Least s f (round s f n)
  unfolding round
  settled_least n done = record {
    fits = λ i l. sym (done i l);
    least = λ E fits. rounds_fits E fits n;
  }

  -- a node that round n + 1 raises, or none
  pub settled_or : (n : ℕ) → ((i : ℕ) × (i < f.nodes) × (round s f n i <ℤ round s f (suc n) i)) ⊎ Settled s f n
  settled_or n = some_or_all (λ i. round s f n i <ℤ round s f (suc n) i) (λ i. round s f (suc n) i ≡ round s f n i) f.nodes
      (λ i l. elim (compare_ℤ (round s f n i) (round s f (suc n) i)) [ inl h ↦ inl h | inr h ↦ inr (≤ℤ_antisym h (rises n i l)) ])

pub least_unique : (s : Side) (f : Flow) (D E : ℕ → ℤ) → Least s f D → Least s f E → Agree f D E
least_unique s f D E h k i l = ≤ℤ_antisym (h.least E k.fits i l) (k.least D h.fits i l)
