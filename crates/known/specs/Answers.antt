-- What the calls answer for a known circuit, whatever they are lent that is long enough.
use Rattle.std.specs.Prelude.{◌≡◌, List, ◌++◌, ℕ, ◌*◌, ◌≤◌, ℤ, length, drop, Result, Ok}
use Prim.Native.String.{String}
use Rattle.image.specs.declared.refusal.Refusal.{Refusal}
use Rattle.circuit.specs.Circuit.{circuit_of}
use Rattle.timing.specs.TimingPromise.{Timing}
use Rattle.timing.specs.PathPromise as paths
use Rattle.timing.specs.declared.trail.Path.{Path}
use Rattle.timing.specs.declared.timing_call.Answer.{Answer}
use Rattle.timing.specs.declared.timing_call.Answer.TheVariants as answer
use Rattle.report.specs.Ascii.{ascii}
use Rattle.report.specs.Promise.{Report}
use Rattle.known.specs.Circuits.{Outcome, timed, growing, path, Known}

-- whatever timing leaves, the answer and both buffers, it is what P says of the buffers lent
abbrev pub TimingLeaves : List ℕ → (List ℤ → List ℕ → Result Answer Refusal → List ℤ → List ℕ → Type 0) → Type 0
TimingLeaves bytes P =
    (numbers : List ℤ) (arcs : List ℕ) → 6 * (circuit_of bytes).synchronizers ≤ length numbers → (circuit_of bytes).synchronizers ≤ length arcs →
    (X : Result Answer Refusal) (R : List ℤ) (A : List ℕ) → Timing bytes numbers arcs X R A → P numbers arcs X R A

-- whatever the report's call leaves, it is the text, and the rest of the buffer as it was
abbrev pub Prints : List ℕ → String → Type 0
Prints bytes text = (before : List ℕ) (size : ℕ) (after : List ℕ) → Report bytes before size after →
    (size ≡ length (ascii text)) × (after ≡ ascii text ++ drop size before)

abbrev pub CallsGive : List ℕ → Outcome → Type 0
CallsGive bytes (timed results setups holds text) = TimingLeaves bytes (λ numbers arcs X R A.
    (X ≡ Ok (answer.Timed setups holds)) × (R ≡ results ++ drop (6 * (circuit_of bytes).synchronizers) numbers) × (A ≡ arcs)) × Prints bytes text
CallsGive bytes (growing ring total text) = TimingLeaves bytes (λ numbers arcs X R A.
    (X ≡ Ok (answer.Growing (length ring) total)) × (R ≡ numbers) × (A ≡ ring ++ drop (length ring) arcs)) × Prints bytes text
CallsGive bytes (path i s p) =
    (arcs : List ℕ) → (circuit_of bytes).synchronizers ≤ length arcs →
    (X : Result Path Refusal) (A : List ℕ) → paths.PathCall bytes i arcs X A → (X ≡ Ok (record { launch = s; count = length p })) × (A ≡ p ++ drop (length p) arcs)

abbrev pub Answers : Known → Type 0
Answers k = CallsGive k.bytes k.outcome
