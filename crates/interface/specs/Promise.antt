-- What a C call promises: some Rattle answer keeps the Rattle call's promise, and what C gets is that answer's struct. The buffers are as the
-- Rattle call leaves them.
use Rattle.std.specs.Prelude.{◌≡◌, Bool, true, false, List, ◌++◌, ℕ, ltb, ℤ, length, take, drop, replicate, Result}
use Rattle.image.specs.Checks.{check_of}
use Rattle.image.specs.declared.header.Image.{Image}
use Rattle.image.specs.declared.refusal.Refusal.{Refusal}
use Rattle.timing.specs.TimingPromise.{Timing}
use Rattle.timing.specs.PathPromise as asked
use Rattle.timing.specs.declared.timing_call.Answer.{Answer}
use Rattle.timing.specs.declared.trail.Path.{Path}
use Rattle.report.specs.Limits.{LONGEST}
use Rattle.report.specs.Promise.{Report}
use Rattle.text.specs.TextPromise.{TextCall}
use Rattle.interface.specs.Answers.{check_answer, timing_answer, path_answer, text_answer}
use Rattle.interface.specs.declared.check_answer.CheckAnswer.{CheckAnswer}
use Rattle.interface.specs.declared.timing_answer.TimingAnswer.{TimingAnswer}
use Rattle.interface.specs.declared.path_answer.PathAnswer.{PathAnswer}
use Rattle.interface.specs.declared.text_answer.TextAnswer.{TextAnswer}

pub record CheckForC (bytes : List ℕ) (given : CheckAnswer) : Type 0 where
  pub answer : Result Image Refusal
  pub kept : answer ≡ check_of bytes
  pub told : given ≡ check_answer answer

pub record TimingForC (bytes : List ℕ) (numbers : List ℤ) (arcs : List ℕ) (given : TimingAnswer) (numbers₁ : List ℤ) (arcs₁ : List ℕ) : Type 0 where
  pub answer : Result Answer Refusal
  pub kept : Timing bytes numbers arcs answer numbers₁ arcs₁
  pub told : given ≡ timing_answer answer

pub record PathForC (bytes : List ℕ) (i : ℕ) (arcs : List ℕ) (given : PathAnswer) (arcs₁ : List ℕ) : Type 0 where
  pub answer : Result Path Refusal
  pub kept : asked.PathCall bytes i arcs answer arcs₁
  pub told : given ≡ path_answer answer

-- the buffer that the report is lent
abbrev pub blank : List ℕ
blank = replicate LONGEST 0

-- the first bytes of a text at the front of a buffer; a buffer that is too short for them, as the test says, stays
abbrev pub copied : Bool → ℕ → List ℕ → List ℕ → List ℕ
copied true size text before = before
copied false size text before = take size text ++ drop size before

-- a buffer that is shorter than the report stays; otherwise the report stands at its front, and the rest stays
pub record ReportForC (bytes before : List ℕ) (size : ℕ) (after : List ℕ) : Type 0 where
  pub whole : List ℕ
  pub kept : Report bytes blank size whole
  pub written : after ≡ copied (ltb (length before) size) size whole before

pub record TextForC (text before : List ℕ) (given : TextAnswer) (after : List ℕ) : Type 0 where
  pub answer : Result ℕ Refusal
  pub kept : TextCall text before answer after
  pub told : given ≡ text_answer answer
