-- What the demands read in the buffers that a call leaves.
use Rattle.std.specs.Prelude.{◌≡◌, List, ◌⊎◌, ℕ, ◌+◌, ◌*◌, ◌≤◌, ◌<◌, ℤ, pos, get_or, drop, ◌≤ℤ◌, Result, Ok}
use Rattle.image.specs.declared.refusal.Refusal.{Refusal}
use Rattle.flow.specs.Flow.{late, early}
use Rattle.circuit.specs.Circuit.{Circuit}
use Rattle.circuit.specs.Times as times
use Rattle.circuit.specs.Times.{Times, missed_setups, missed_holds, arrives, or_mark, mark}
use Rattle.timing.specs.declared.timing_call.Answer.{Answer}
use Rattle.timing.specs.declared.timing_call.Answer.TheVariants.{Growing, Timed}

-- the answer of a call that times, and of one that shows a growing loop
abbrev pub IsTimed : Result Answer Refusal → Type 0
IsTimed X = (setups : ℕ) × (holds : ℕ) × (X ≡ Ok (Timed setups holds))

abbrev pub IsLoop : Result Answer Refusal → Type 0
IsLoop X = (n : ℕ) × (g : ℤ) × (X ≡ Ok (Growing n g))

-- number k of the six numbers of synchronizer i, in the result buffer
abbrev pub number : List ℤ → ℕ → ℕ → ℤ
number R i k = get_or R (6 * i + k) (pos 0)

abbrev pub early_departure_at : List ℤ → ℕ → ℤ
early_departure_at R i = number R i 0

abbrev pub late_departure_at : List ℤ → ℕ → ℤ
late_departure_at R i = number R i 1

abbrev pub early_arrival_at : List ℤ → ℕ → ℤ
early_arrival_at R i = number R i 2

abbrev pub late_arrival_at : List ℤ → ℕ → ℤ
late_arrival_at R i = number R i 3

abbrev pub hold_slack_at : List ℤ → ℕ → ℤ
hold_slack_at R i = number R i 4

abbrev pub setup_slack_at : List ℤ → ℕ → ℤ
setup_slack_at R i = number R i 5

-- what the equations define, at their least solution: soonest and latest are the early and the late departures. In R stand the six results of
-- each synchronizer; what numbers held behind them stays
pub record Defined (c : Circuit) (setups holds : ℕ) (numbers R : List ℤ) : Type 0 where
  pub soonest : ℕ → ℤ
  pub latest : ℕ → ℤ
  pub least : Times c soonest latest
  pub early_departure : (i : ℕ) → i < c.synchronizers → early_departure_at R i ≡ soonest i
  pub late_departure : (i : ℕ) → i < c.synchronizers → late_departure_at R i ≡ latest i
  pub early_arrival : (i : ℕ) → i < c.synchronizers → early_arrival_at R i ≡ or_mark (λ t. t) (arrives early c soonest i)
  pub late_arrival : (i : ℕ) → i < c.synchronizers → late_arrival_at R i ≡ or_mark (λ t. t) (arrives late c latest i)
  pub hold_slack : (i : ℕ) → i < c.synchronizers → hold_slack_at R i ≡ or_mark (times.hold_slack c i) (arrives early c soonest i)
  pub setup_slack : (i : ℕ) → i < c.synchronizers → setup_slack_at R i ≡ or_mark (times.setup_slack c i) (arrives late c latest i)
  pub setups_missed : setups ≡ missed_setups c latest
  pub holds_missed : holds ≡ missed_holds c soonest
  pub rest : drop (6 * c.synchronizers) R ≡ drop (6 * c.synchronizers) numbers

-- the window from a' to b' lies inside the one from a to b
pub record Contained (a b a' b' : ℤ) : Type 0 where
  pub starts : a ≤ℤ a'
  pub whole : a' ≤ℤ b'
  pub ends : b' ≤ℤ b

-- the mark stands in all four places
abbrev pub Marked : ℤ → ℤ → ℤ → ℤ → Type 0
Marked a b a' b' = (a ≡ mark) × (b ≡ mark) × (a' ≡ mark) × (b' ≡ mark)

-- the results of synchronizer i before, in R, and after, in S. A slack that carries the mark is above zero too
pub record Narrower (R S : List ℤ) (i : ℕ) : Type 0 where
  pub departures : Contained (early_departure_at R i) (late_departure_at R i) (early_departure_at S i) (late_departure_at S i)
  pub arrivals : Marked (early_arrival_at R i) (late_arrival_at R i) (early_arrival_at S i) (late_arrival_at S i)
      ⊎ Contained (early_arrival_at R i) (late_arrival_at R i) (early_arrival_at S i) (late_arrival_at S i)
  pub hold : pos 0 ≤ℤ hold_slack_at R i → pos 0 ≤ℤ hold_slack_at S i
  pub setup : pos 0 ≤ℤ setup_slack_at R i → pos 0 ≤ℤ setup_slack_at S i

-- the second call times too: no synchronizer's times leave their window, no check that was met is missed, and neither count rises
pub record Calmer (l setups holds : ℕ) (R : List ℤ) (X : Result Answer Refusal) (S : List ℤ) : Type 0 where
  pub setups' : ℕ
  pub holds' : ℕ
  pub timed : X ≡ Ok (Timed setups' holds')
  pub fewer_setups : setups' ≤ setups
  pub fewer_holds : holds' ≤ holds
  pub each : (i : ℕ) → i < l → Narrower R S i
