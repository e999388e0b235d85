-- Rounds settle or a ring grows, and never both where departures fit: so the late equations have a solution exactly where no ring
-- has gain above zero, and then as many rounds as there are nodes give the least one, of every flow within too.
use mathlib.Core.Logic.{◌⊎◌, inl, inr, ◌↔◌}
use Prim.Native.Nat.{ℕ, suc, ◌≤◌}
use native.Mathlib.Omega.{arith}
use lib.IntN.{ℤ}
use Rattle.flow.specs.Flow.{Flow, Good, Side, late, Fits, Least}
use Rattle.flow.specs.Inside.Rounds.{round, Settled}
use Rattle.flow.specs.Inside.Within.{Within}
use Rattle.flow.specs.Walk.{GrowingRing}
use Rattle.flow.proofs.Rounds.{settled_or, settled_least}
use Rattle.flow.proofs.Walks.{fits_holds, within_holds, holds_calm, fits_calm}
use Rattle.flow.proofs.Chain.{growing}

pub settles_or : (s : Side) (f : Flow) → Good f → (n : ℕ) → f.nodes ≤ suc n → GrowingRing f ⊎ Settled s f n
settles_or s f good n long = elim (settled_or s f good n) [
  | inl h ↦ inl (growing s f good n h.0 h.1 h.2 long)
  | inr h ↦ inr h
]

module _ (s : Side) (f : Flow) (good : Good f) (n : ℕ) (long : f.nodes ≤ suc n) (calm : GrowingRing f → ⊥) where
  pub settles : Settled s f n
  settles = elim (settles_or s f good n long) [ inl h ↦ absurd (calm h) | inr h ↦ h ]

  pub settles_least : Least s f (round s f n)
  settles_least = settled_least s f good n settles

-- where late departures fit, both sides of every flow within settle
module _ (g f : Flow) (inner : Good g) (outer : Good f) (w : Within late g f) (E : ℕ → ℤ) (fits : Fits late f E) where
  pub within_calm : GrowingRing g → ⊥
  within_calm = holds_calm g E (within_holds g f inner w E (fits_holds f outer E fits))

  pub within_settles : (s : Side) (n : ℕ) → g.nodes ≤ suc n → Settled s g n
  within_settles s n long = settles s g inner n long within_calm

module _ (f : Flow) (good : Good f) where
  pub fits_exactly : ((D : ℕ → ℤ) × Fits late f D) ↔ (GrowingRing f → ⊥)
  fits_exactly = (
    λ h. fits_calm f good h.0 h.1,
    λ calm. (round late f f.nodes, (settles_least late f good f.nodes (omega arith) calm).fits),
  )

  -- decided by the rounds: the least times of f and of every flow within, or a ring
  pub least_or_ring : (n : ℕ) → f.nodes ≤ suc n →
      (Least late f (round late f n) × ((s : Side) (g : Flow) → Good g → Within late g f → Least s g (round s g n))) ⊎ GrowingRing f
  least_or_ring n long = elim (settles_or late f good n long) [
    | inl r ↦ inr r
    | inr done ↦ let h = settled_least late f good n done in
        inl (h, λ s g inner w. settles_least s g inner n (rw w.nodes long) (within_calm g f inner good w (round late f n) h.fits))
  ]
