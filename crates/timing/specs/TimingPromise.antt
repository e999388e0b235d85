-- What timing promises of its answer and of the memory lent, for every list of bytes and buffers of any length.
use Rattle.std.specs.Prelude.{◌≡◌, List, ◌++◌, ℕ, ◌*◌, ◌≤◌, ◌<◌, ℤ, length, drop, Result, Ok, Err}
use Rattle.image.specs.Checks.{check_of}
use Rattle.image.specs.Valid.{image_in}
use Rattle.image.specs.Refusal.{refusal}
use Rattle.image.specs.declared.refusal.Rule.TheVariants as by
use Rattle.image.specs.declared.refusal.Refusal.{Refusal}
use Rattle.flow.specs.Flow.{late}
use Rattle.circuit.specs.Circuit.{circuit_of}
use Rattle.circuit.specs.Clock.{flow}
use Rattle.circuit.specs.Times.{Times, missed_setups, missed_holds, results}
use Rattle.flow.specs.Walk.{Shown}
use Rattle.timing.specs.declared.timing_call.Answer.{Answer}
use Rattle.timing.specs.declared.timing_call.Answer.TheVariants.{Growing, Timed}

-- the image is good, and both buffers are long enough
pub record Served (bytes : List ℕ) (numbers : List ℤ) (arcs : List ℕ) : Type 0 where
  pub good : check_of bytes ≡ Ok (image_in bytes)
  pub numbers_fit : 6 * (circuit_of bytes).synchronizers ≤ length numbers
  pub arcs_fit : (circuit_of bytes).synchronizers ≤ length arcs

-- numbers and arcs are the two buffers as they were lent; the last two arguments are the buffers as the call leaves them
pub data Timing (bytes : List ℕ) (numbers : List ℤ) (arcs : List ℕ) : Result Answer Refusal → List ℤ → List ℕ → Type 0 where
  -- 1 to 9: as for the image, and nothing is written
  refused : {why : Refusal} → check_of bytes ≡ Err why → Timing bytes numbers arcs (Err why) numbers arcs
  -- 10: the result buffer has fewer than 6l numbers
  few_numbers : check_of bytes ≡ Ok (image_in bytes) → length numbers < 6 * (circuit_of bytes).synchronizers →
      Timing bytes numbers arcs (Err (refusal by.ResultBuffer 0)) numbers arcs
  -- 11: the arc buffer has fewer than l numbers
  few_arcs : check_of bytes ≡ Ok (image_in bytes) → 6 * (circuit_of bytes).synchronizers ≤ length numbers →
      length arcs < (circuit_of bytes).synchronizers → Timing bytes numbers arcs (Err (refusal by.ArcBuffer 0)) numbers arcs
  -- a growing loop: its arcs stand at the front of the arc buffer, the rest of it and the result buffer stay
  growing : {count : ℕ} {gain : ℤ} {shown : List ℕ} → Served bytes numbers arcs → Shown (flow late (circuit_of bytes)) count gain arcs shown →
      Timing bytes numbers arcs (Ok (Growing count gain)) numbers shown
  -- timed: the results of the least departures E and D stand at the front of the result buffer, the rest of it and the arc buffer stay
  timed : (E D : ℕ → ℤ) → Served bytes numbers arcs → Times (circuit_of bytes) E D →
      Timing bytes numbers arcs
      (Ok (Timed (missed_setups (circuit_of bytes) D) (missed_holds (circuit_of bytes) E)))
      (results (circuit_of bytes) E D (circuit_of bytes).synchronizers ++ drop (6 * (circuit_of bytes).synchronizers) numbers)
      arcs
