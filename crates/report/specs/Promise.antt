-- What a report promises.
use Rattle.std.specs.Prelude.{◌≡◌, List, ◌++◌, ℕ, ℤ, pos, length, drop, replicate, Result}
use Rattle.circuit.specs.Circuit.{circuit_of}
use Rattle.timing.specs.TimingPromise.{Timing}
use Rattle.image.specs.declared.refusal.Refusal.{Refusal}
use Rattle.timing.specs.declared.timing_call.Answer.{Answer}
use Rattle.report.specs.Limits.{LENT_NUMBERS, LENT_ARCS}
use Rattle.report.specs.Text.{text_of}

-- the buffers that timing is lent: long enough for every good image
abbrev pub zeros : List ℤ
zeros = replicate LENT_NUMBERS (pos 0)

abbrev pub no_arcs : List ℕ
no_arcs = replicate LENT_ARCS 0

-- the report of what timing gave for an image
abbrev pub report_of : List ℕ → Result Answer Refusal → List ℤ → List ℕ → List ℕ
report_of bytes answer numbers arcs = text_of (circuit_of bytes).synchronizers answer numbers arcs

-- timing's answer and its buffers, told at the front of the text buffer; the rest of that stays
pub record Report (bytes before : List ℕ) (size : ℕ) (after : List ℕ) : Type 0 where
  pub answer : Result Answer Refusal
  pub numbers : List ℤ
  pub arcs : List ℕ
  pub told : Timing bytes zeros no_arcs answer numbers arcs
  pub sized : size ≡ length (report_of bytes answer numbers arcs)
  pub written : after ≡ report_of bytes answer numbers arcs ++ drop size before
