-- What the path question promises of its answer and of the arc buffer lent, for every list of bytes, synchronizer number and buffer.
use Rattle.std.specs.Prelude.{◌≡◌, List, ◌++◌, ℕ, ◌≤◌, ◌<◌, ℤ, length, drop, Result, Ok, Err}
use Rattle.image.specs.Checks.{check_of}
use Rattle.image.specs.Valid.{image_in}
use Rattle.image.specs.Refusal.{refusal}
use Rattle.image.specs.declared.refusal.Rule.TheVariants as by
use Rattle.image.specs.declared.refusal.Refusal.{Refusal}
use Rattle.flow.specs.Flow.{late, Least}
use Rattle.flow.specs.Bounds.{Unentered}
use Rattle.flow.specs.Walk.{GrowingRing}
use Rattle.flow.specs.Path.{PathTo}
use Rattle.circuit.specs.Circuit.{circuit_of}
use Rattle.circuit.specs.Clock.{flow}
use Rattle.timing.specs.declared.trail.Path.{Path}

-- the image is good, the buffer is long enough, and there is a synchronizer i
pub record Asked (bytes : List ℕ) (i : ℕ) (arcs : List ℕ) : Type 0 where
  pub good : check_of bytes ≡ Ok (image_in bytes)
  pub arcs_fit : (circuit_of bytes).synchronizers ≤ length arcs
  pub inside : i < (circuit_of bytes).synchronizers

-- arcs is the buffer as it was lent; the last argument is the buffer as the call leaves it
pub data PathCall (bytes : List ℕ) (i : ℕ) (arcs : List ℕ) : Result Path Refusal → List ℕ → Type 0 where
  -- 1 to 9: as for the image, and nothing is written
  refused : {why : Refusal} → check_of bytes ≡ Err why → PathCall bytes i arcs (Err why) arcs
  -- 11: the arc buffer has fewer than l numbers
  few_arcs : check_of bytes ≡ Ok (image_in bytes) → length arcs < (circuit_of bytes).synchronizers → PathCall bytes i arcs (Err (refusal by.ArcBuffer 0)) arcs
  -- 12: the synchronizer number is not below l
  no_such : check_of bytes ≡ Ok (image_in bytes) → (circuit_of bytes).synchronizers ≤ length arcs → (circuit_of bytes).synchronizers ≤ i →
      PathCall bytes i arcs (Err (refusal by.NoSynchronizer 0)) arcs
  -- 13: no arc leads into that synchronizer
  unentered : Asked bytes i arcs → Unentered (flow late (circuit_of bytes)) i (circuit_of bytes).arcs → PathCall bytes i arcs (Err (refusal by.NothingEnters 0)) arcs
  -- 14: an arc does, and a loop grows
  growing : (a : ℕ) → Asked bytes i arcs → a < (circuit_of bytes).arcs → (circuit_of bytes).to a ≡ i → GrowingRing (flow late (circuit_of bytes)) →
      PathCall bytes i arcs (Err (refusal by.GrowingLoop 0)) arcs
  -- found: by the least late departures D the path p, launched at s, leads to i. It stands at the front of the buffer, the rest stays
  found : (D : ℕ → ℤ) (s : ℕ) (p : List ℕ) → Asked bytes i arcs → Least late (flow late (circuit_of bytes)) D →
      PathTo (flow late (circuit_of bytes)) D i s p → PathCall bytes i arcs (Ok (record { launch = s; count = length p })) (p ++ drop (length p) arcs)
