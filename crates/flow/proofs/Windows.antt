-- Solutions of a flow within another lie inside the other's. Late: a flow's least departures, late or early, are no later than
-- what fits the late flow around it. Early: no departures that fit come before the least early ones of the flow around it.
use Prim.Native.Nat.{ℕ}
use lib.IntN.{ℤ}
use Rattle.flow.specs.Flow.{Flow, Good, Side, late, early, arrival, Fits, Least}
use Rattle.flow.specs.Bounds.{Nested}
use Rattle.flow.specs.Inside.Within.{Bounded, Kept, Within}
use Rattle.flow.proofs.Within.{arrival_inside}
use Rattle.flow.proofs.Rounds.{within_ordered}
use Rattle.flow.proofs.BoundedRounds.{under_least}

-- D solves g and E solves f: the one that is to come first is the least, of the other it is enough that it fits
abbrev pub Solve : Side → Side → Flow → Flow → (ℕ → ℤ) → (ℕ → ℤ) → Type 0
Solve late s g f D E = Least s g D × Fits late f E
Solve early s g f D E = Fits s g D × Least early f E

pub departures_inside : (r s : Side) (g f : Flow) → Good g → Good f → Within r g f →
    (D E : ℕ → ℤ) → Solve r s g f D E → Bounded r g D E
departures_inside late s g f inner outer w D E h = under_least s g late f inner (within_ordered late s g f inner w) D E h.0 h.1
departures_inside early s g f inner outer w D E h =
    λ i l. under_least early f s g outer (within_ordered early s g f inner w) E D h.1 h.0 i (rw w.nodes at l)

pub arrivals_inside : (r s : Side) (g f : Flow) → Good g → Good f → Within r g f → Kept g f →
    (D E : ℕ → ℤ) → Solve r s g f D E → (i : ℕ) → Nested r (arrival s g D i) (arrival r f E i)
arrivals_inside r s g f inner outer w kept D E h = arrival_inside r s g f inner w D E (departures_inside r s g f inner outer w D E h) kept
