-- The rules of docs/RULES.md by which timing and path refuse: the rule, the record at fault, and when it is given.
use Rattle.std.specs.Prelude.{◌≡◌, List, ◌≢◌, ℕ, ◌*◌, ◌≤◌, ◌<◌, ℤ, length, Ok, Err}
use Rattle.image.specs.Checks.{check_of}
use Rattle.image.specs.Valid.{image_in}
use Rattle.image.specs.Refusal.{refusal}
use Rattle.image.specs.declared.refusal.Rule.TheVariants as by
use Rattle.image.specs.declared.refusal.Refusal.{Refusal}
use Rattle.circuit.specs.Circuit.{circuit_of}
use Rattle.circuit.specs.Times.{Growing}
use Rattle.timing.specs.PathPromise.{Asked}

pub data TimingRule (bytes : List ℕ) (numbers : List ℤ) (arcs : List ℕ) : Refusal → Type 0 where
  -- 1 to 9, about the image
  of_image : {why : Refusal} → check_of bytes ≡ Err why → TimingRule bytes numbers arcs why
  -- 10: the result buffer has fewer than 6l numbers
  few_numbers : check_of bytes ≡ Ok (image_in bytes) → length numbers < 6 * (circuit_of bytes).synchronizers → TimingRule bytes numbers arcs (refusal by.ResultBuffer 0)
  -- 11: the arc buffer has fewer than l numbers
  few_arcs : check_of bytes ≡ Ok (image_in bytes) → 6 * (circuit_of bytes).synchronizers ≤ length numbers →
      length arcs < (circuit_of bytes).synchronizers → TimingRule bytes numbers arcs (refusal by.ArcBuffer 0)

-- asked about synchronizer i
pub data PathRule (bytes : List ℕ) (i : ℕ) (arcs : List ℕ) : Refusal → Type 0 where
  -- 1 to 9, about the image
  of_image : {why : Refusal} → check_of bytes ≡ Err why → PathRule bytes i arcs why
  -- 11: the arc buffer has fewer than l numbers
  few_arcs : check_of bytes ≡ Ok (image_in bytes) → length arcs < (circuit_of bytes).synchronizers → PathRule bytes i arcs (refusal by.ArcBuffer 0)
  -- 12: the synchronizer number is not below l
  no_such : check_of bytes ≡ Ok (image_in bytes) → (circuit_of bytes).synchronizers ≤ length arcs → (circuit_of bytes).synchronizers ≤ i →
      PathRule bytes i arcs (refusal by.NoSynchronizer 0)
  -- 13: that synchronizer has no arc into it
  no_arc : Asked bytes i arcs → ((a : ℕ) → a < (circuit_of bytes).arcs → (circuit_of bytes).to a ≢ i) → PathRule bytes i arcs (refusal by.NothingEnters 0)
  -- 14: it has one, and no late departures fit
  no_times : (a : ℕ) → Asked bytes i arcs → a < (circuit_of bytes).arcs → (circuit_of bytes).to a ≡ i → Growing (circuit_of bytes) →
      PathRule bytes i arcs (refusal by.GrowingLoop 0)
