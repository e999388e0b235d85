-- What timing writes of each synchronizer: its arrivals, six numbers, and whether its checks are missed.
use Rattle.std.specs.Prelude.{◌≡◌, Bool, false, cond, List, [], ◌∷◌, ◌++◌, Option, Some, None, unwrap_or, option_map, ℕ, suc, ◌*◌, ◌<◌, eqb, ℤ, pos, ◌-ℤ◌, drop}
use Rattle.std.specs.Int.Signed.{lt_z}
use Rattle.std.proofs.lemmas.List.Edits.{sets}
use Rattle.ticks.specs.Inside.Raised.{lower, SIGNED}
use Rattle.flow.specs.Flow.{late, early}
use Rattle.circuit.specs.Circuit.{Circuit, circuit_of}
use Rattle.circuit.specs.Clock.{flow}
use Rattle.circuit.specs.Times.{arrives, setup_slack, hold_slack, missed, missed_setups, missed_holds, mark, six, results}
use Rattle.tables.specs.Inside.Net.{times_of, degree, arrival_n}
use Rattle.tables.specs.Inside.Models.{HoldsArcs}
use Rattle.timing.specs.Inside.Web.{arcs_in, net_in}
use Rattle.timing.specs.declared.results.Arrivals.{Arrivals}
use Rattle.timing.specs.declared.results.Missed.{Missed}
use Rattle.timing.specs.declared.sides.Sides.{Sides}

-- late and early arrival of synchronizer i, raised, if an arc leads in
unfoldable pub arrivals_of : Sides → ℕ → Option Arrivals
arrivals_of s i = cond (eqb (degree (net_in s.late) i) 0) None (Some (record {
  late = arrival_n late (net_in s.late) (times_of s.later.now) i;
  early = arrival_n early (net_in s.early) (times_of s.sooner.now) i;
}))

-- arrivals that can be told as signed numbers
pub record Tellable (arrivals : Option Arrivals) : Type 0 where
  pub late : (a : Arrivals) → arrivals ≡ Some a → a.late < SIGNED
  pub early : (a : Arrivals) → arrivals ≡ Some a → a.early < SIGNED

-- slacks by the numbers themselves
abbrev pub setup_by : ℕ → ℕ → ℤ → ℤ
setup_by cycle setup t = pos cycle -ℤ pos setup -ℤ t

abbrev pub hold_by : ℕ → ℤ → ℤ
hold_by hold t = t -ℤ pos hold

-- whether there is a slack that is below zero
abbrev pub below_zero : Option ℤ → Bool
below_zero None = false
below_zero (Some s) = lt_z s (pos 0)

-- the six numbers, from raised times and from slacks
unfoldable pub six_of : ℕ → ℕ → Option Arrivals → Option ℤ → Option ℤ → List ℤ
six_of sooner later arrivals hold setup =
    lower sooner
    ∷ lower later
    ∷ unwrap_or (option_map (λ a. lower a.early) arrivals) mark
    ∷ unwrap_or (option_map (λ a. lower a.late) arrivals) mark
    ∷ unwrap_or hold mark
    ∷ unwrap_or setup mark
    ∷ []

-- one more where a check is missed
abbrev pub more : Bool → ℕ → ℕ
more test n = cond test (suc n) n

-- all that writing the results leans on: tables that hold the two flows of an image
pub record Writable (bytes : List ℕ) (s : Sides) : Type 0 where
  pub late : HoldsArcs (arcs_in s.late) (times_of s.late.first.now) (flow late (circuit_of bytes))
  pub early : HoldsArcs (arcs_in s.early) (times_of s.early.first.now) (flow early (circuit_of bytes))
  pub nodes : s.late.nodes ≡ (circuit_of bytes).synchronizers

-- one synchronizer's six numbers stored, its checks counted
pub record Added (c : Circuit) (D E : ℕ → ℤ) (i : ℕ) (before after : List ℤ) (m r : Missed) : Type 0 where
  pub list : after ≡ sets before (6 * i) (six c E D i)
  pub setups : r.setups ≡ more (missed (setup_slack c i) (arrives late c D i)) m.setups
  pub holds : r.holds ≡ more (missed (hold_slack c i) (arrives early c E i)) m.holds

-- the results of all synchronizers, then the rest of what was there; and how many checks are missed
pub record Written (c : Circuit) (D E : ℕ → ℤ) (before after : List ℤ) (m : Missed) : Type 0 where
  pub list : after ≡ results c E D c.synchronizers ++ drop (6 * c.synchronizers) before
  pub setups : m.setups ≡ missed_setups c D
  pub holds : m.holds ≡ missed_holds c E
