-- What it means that an image has the outcome that is known of it, by the definitions of the circuit and its times.
use Rattle.std.specs.Prelude.{◌≡◌, List, [], ◌∷◌, ◌++◌, ℕ, ◌*◌, ◌≤◌, ℤ, length, drop, Ok}
use Prim.Native.String.{String}
use Rattle.image.specs.Checks.{check_of}
use Rattle.image.specs.Valid.{image_in}
use Rattle.flow.specs.Flow.{late, Least}
use Rattle.flow.specs.Walk as walk
use Rattle.flow.specs.Walk.{Ring, GrowingRing, sources, gain}
use Rattle.flow.specs.Path.{PathTo}
use Rattle.circuit.specs.Circuit.{Circuit, circuit_of}
use Rattle.circuit.specs.Clock.{flow}
use Rattle.circuit.specs.Times.{Times, Growing, results, missed_setups, missed_holds}
use Rattle.timing.specs.declared.timing_call.Answer.TheVariants as answer
use Rattle.report.specs.Ascii.{ascii}
use Rattle.report.specs.Text.{text_of}
use Rattle.report.specs.Promise.{zeros, no_arcs}
use Rattle.known.specs.Circuits.{Outcome, timed, growing, path, Known}

-- the least departures give these results, these counts and this report
pub record Timed (c : Circuit) (numbers : List ℤ) (setups holds : ℕ) (text : String) : Type 0 where
  pub soonest : ℕ → ℤ
  pub latest : ℕ → ℤ
  pub times : Times c soonest latest
  pub gives : results c soonest latest c.synchronizers ≡ numbers
  pub setups_missed : missed_setups c latest ≡ setups
  pub holds_missed : missed_holds c soonest ≡ holds
  pub prints : text_of c.synchronizers (Ok (answer.Timed setups holds)) (numbers ++ drop (6 * c.synchronizers) zeros) no_arcs ≡ ascii text

-- no late departures fit, and these arcs are a ring with that gain, above zero. The first leaves its lowest-numbered synchronizer. No
-- other ring can be shown, so the report is fixed too
pub record Grows (c : Circuit) (arcs : List ℕ) (total : ℤ) (text : String) : Type 0 where
  pub never : Growing c
  pub loop : GrowingRing (flow late c)
  pub path : loop.ring.path ≡ arcs
  pub lowest : walk.Every (λ i. loop.ring.start ≤ i) (sources (flow late c) arcs)
  pub gains : gain (flow late c) arcs ≡ total
  pub only : (r : Ring (flow late c)) → walk.Every (λ i. r.start ≤ i) (sources (flow late c) r.path) → r.path ≡ arcs
  pub prints : text_of c.synchronizers (Ok (answer.Growing (length arcs) total)) zeros (arcs ++ drop (length arcs) no_arcs) ≡ ascii text

-- by the least late departures, the path to i is launched at s and has these arcs
pub record CameOver (c : Circuit) (i s : ℕ) (arcs : List ℕ) : Type 0 where
  pub latest : ℕ → ℤ
  pub least : Least late (flow late c) latest
  pub leads : PathTo (flow late c) latest i s arcs

abbrev pub Comes : Circuit → Outcome → Type 0
Comes c (timed numbers setups holds text) = Timed c numbers setups holds text
Comes c (growing arcs total text) = Grows c arcs total text
Comes c (path i s arcs) = CameOver c i s arcs

-- the image is accepted, and its circuit comes out as known
pub record Holds (k : Known) : Type 0 where
  pub accepted : check_of k.bytes ≡ Ok (image_in k.bytes)
  pub comes : Comes (circuit_of k.bytes) k.outcome

abbrev pub AllOf : (Known → Type 0) → List Known → Type 0
AllOf P [] = Unit {0}
AllOf P (k ∷ ks) = P k × AllOf P ks
