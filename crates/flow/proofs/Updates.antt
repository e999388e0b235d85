-- Updates in place rise from the launches and stay below all that fits.
-- Where nothing is left to update they are the least departures. A pass that gives every node at least what the departures before it lead to is at least a round.
use mathlib.Core.Path.{sym}
use Prim.Native.Nat.{ℕ, suc, ◌≤◌}
use native.Mathlib.Decide.{ℕ_discrete}
use lib.IntN.{ℤ}
use lib.Signed.{◌≤ℤ◌}
use Rattle.ticks.proofs.Order.{≤ℤ_trans, ≤ℤ_eq}
use Rattle.flow.specs.Flow.{Flow, Good, Side, late, next, Fits, Least}
use Rattle.flow.specs.Inside.Rounds.{round}
use Rattle.flow.specs.Inside.Within.{Bounded}
use Rattle.flow.specs.Inside.Updates.{Update, Updated, launched, updated}
use Rattle.flow.proofs.OneRound.{launch_next}
use Rattle.flow.proofs.Rounds.{next_mono, fits_launch, rises}

module _ (s : Side) (f : Flow) (good : Good f) where
  -- an update that starts below what it leads to rises, and is below what it leads to itself
  module _ (i : ℕ) (E F : ℕ → ℤ) (u : Update s f i E F) where
    update_rises : Bounded late f E (next s f E) → Bounded late f E F
    update_rises h j l = elim (ℕ_discrete j i) [ yes q ↦ rw (q, u.new) (h i u.here) | no q ↦ ≤ℤ_eq (sym (u.rest j l q)) ]

    update_below : Bounded late f E (next s f E) → Bounded late f F (next s f E)
    update_below h j l = elim (ℕ_discrete j i) [ yes q ↦ rw (q) (≤ℤ_eq u.new) | no q ↦ rw (u.rest j l q) (h j l) ]

  pub updated_rises : {E : ℕ → ℤ} → Updated s f E → Bounded late f E (next s f E)
  updated_rises (launched {E} e) i l = rw (e i l) (launch_next s f E i)
  updated_rises (updated {E} {F} i h u) j l =
      ≤ℤ_trans (update_below i E F u (updated_rises h) j l)
      (next_mono s f good E F (update_rises i E F u (updated_rises h)) j l)

  pub updated_fits : (D : ℕ → ℤ) → Fits s f D → {E : ℕ → ℤ} → Updated s f E → Bounded late f E D
  updated_fits D fits (launched e) i l = rw (e i l) (fits_launch s f D fits i l)
  updated_fits D fits (updated {E} {F} i h u) j l =
      ≤ℤ_trans (update_below i E F u (updated_rises h) j l)
      (rw (fits j l) (next_mono s f good E D (updated_fits D fits h) j l))

  -- nothing is left to update
  pub updated_least : {E : ℕ → ℤ} → Updated s f E → Fits s f E → Least s f E
  updated_least h fits = record { fits = fits; least = λ D d. updated_fits D d h }

  -- passes
  pub pass_round : (k : ℕ) (E F : ℕ → ℤ) → Bounded late f (round s f k) E → Bounded late f (next s f E) F → Bounded late f (round s f (suc k)) F
  unfolding round
  pass_round k E F h p i l = ≤ℤ_trans (next_mono s f good (round s f k) E h i l) (p i l)
