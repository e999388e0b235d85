-- The times of a circuit, its checks, and what timing writes of them.
use Rattle.std.specs.Prelude.{Bool, false, cond, List, [], ◌∷◌, ◌++◌, ℕ, zero, suc, ◌-◌, ◌^◌, ℤ, pos, ◌-ℤ◌, ◌≤ℤ◌}
use Rattle.std.specs.Int.Signed.{lt_z}
use Rattle.flow.specs.Flow.{Side, late, early, When, none, at, arrival, Fits, Least}
use Rattle.circuit.specs.Circuit.{Circuit}
use Rattle.circuit.specs.Clock.{flow}

-- E and D are the early and the late departures: of all that fit, the least
pub record Times (c : Circuit) (E D : ℕ → ℤ) : Type 0 where
  pub early : Least early (flow early c) E
  pub late : Least late (flow late c) D

-- late departures exist, or none do
abbrev pub Calm : Circuit → Type 0
Calm c = (D : ℕ → ℤ) × Fits late (flow late c) D

abbrev pub Growing : Circuit → Type 0
Growing c = (D : ℕ → ℤ) → Fits late (flow late c) D → ⊥

abbrev pub arrives : Side → Circuit → (ℕ → ℤ) → ℕ → When
arrives s c D i = arrival s (flow s c) D i

-- slack: Tc - S - late arrival, and early arrival - H
unfoldable pub setup_slack : Circuit → ℕ → ℤ → ℤ
setup_slack c i t = pos c.cycle -ℤ pos (c.setup i) -ℤ t

unfoldable pub hold_slack : Circuit → ℕ → ℤ → ℤ
hold_slack c i t = t -ℤ pos (c.hold i)

-- a check is met where there is no arrival, or its slack is zero or more
abbrev pub Met : (ℤ → ℤ) → When → Type 0
Met slack none = Unit {0}
Met slack (at t) = pos 0 ≤ℤ slack t

abbrev pub missed : (ℤ → ℤ) → When → Bool
missed slack none = false
missed slack (at t) = lt_z (slack t) (pos 0)

-- how many of the first n pass a test
unfoldable pub count : (ℕ → Bool) → ℕ → ℕ
count test zero = 0
count test (suc n) = cond (test n) (suc (count test n)) (count test n)

abbrev pub missed_setups : Circuit → (ℕ → ℤ) → ℕ
missed_setups c D = count (λ i. missed (setup_slack c i) (arrives late c D i)) c.synchronizers

abbrev pub missed_holds : Circuit → (ℕ → ℤ) → ℕ
missed_holds c E = count (λ i. missed (hold_slack c i) (arrives early c E i)) c.synchronizers

-- what stands where there is no arrival: 2^63 - 1
abbrev pub mark : ℤ
mark = pos (2 ^ 63 - 1)

abbrev pub or_mark : (ℤ → ℤ) → When → ℤ
or_mark f none = mark
or_mark f (at t) = f t

-- the six numbers of a synchronizer
unfoldable pub six : Circuit → (ℕ → ℤ) → (ℕ → ℤ) → ℕ → List ℤ
six c E D i =
    let sooner = arrives early c E i in
    let later = arrives late c D i in
    E i
    ∷ D i
    ∷ or_mark (λ t. t) sooner
    ∷ or_mark (λ t. t) later
    ∷ or_mark (hold_slack c i) sooner
    ∷ or_mark (setup_slack c i) later
    ∷ []

-- those of the first n synchronizers
unfoldable pub results : Circuit → (ℕ → ℤ) → (ℕ → ℤ) → ℕ → List ℤ
results c E D zero = []
results c E D (suc n) = results c E D n ++ six c E D n
