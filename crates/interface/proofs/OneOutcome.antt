-- The promise of each C call leaves one result, by the same theorem about the Rattle call: equal answers have equal structs. Timing and report
-- have the one freedom that they have in Rattle, which growing ring is shown.
use mathlib.Core.Path.{◌≡◌, sym, ap, ◌∙◌}
use mathlib.Core.List.{List}
use mathlib.Core.Logic.{◌⊎◌, inl, inr}
use Rattle.std.specs.Prelude.{Ok}
use Prim.Native.Nat.{ℕ}
use lib.IntN.{ℤ}
use Rattle.image.proofs.OneOutcome.{check_only}
use Rattle.timing.specs.declared.timing_call.Answer.TheVariants.{Growing}
use Rattle.timing.proofs.OneTiming as rattle
use Rattle.timing.proofs.OnePath.{path_only}
use Rattle.report.proofs.OneOutcome as told
use Rattle.text.proofs.OneOutcome.{text_one}
use Rattle.interface.specs.Answers.{check_answer, timing_answer, path_answer, text_answer}
use Rattle.interface.specs.Promise.{blank, CheckForC, TimingForC, PathForC, ReportForC, TextForC}
use Rattle.interface.specs.declared.check_answer.CheckAnswer.{CheckAnswer}
use Rattle.interface.specs.declared.timing_answer.TimingAnswer.{TimingAnswer}
use Rattle.interface.specs.declared.path_answer.PathAnswer.{PathAnswer}
use Rattle.interface.specs.declared.text_answer.TextAnswer.{TextAnswer}

pub check_call_only : (bytes : List ℕ) {x y : CheckAnswer} → CheckForC bytes x → CheckForC bytes y → x ≡ y
check_call_only bytes p q = p.told ∙ ap check_answer (check_only bytes p.answer q.answer p.kept q.kept) ∙ sym q.told

-- the same answer, and both buffers left alike
pub record SameForC (x y : TimingAnswer) (R S : List ℤ) (A B : List ℕ) : Type 0 where
  pub answer : x ≡ y
  pub numbers : R ≡ S
  pub arcs : A ≡ B

-- both show a growing loop, and both leave the result buffer alike
pub record BothGrowForC (x y : TimingAnswer) (R S : List ℤ) : Type 0 where
  pub one : (n : ℕ) × (g : ℤ) × (x ≡ timing_answer (Ok (Growing n g)))
  pub other : (n : ℕ) × (g : ℤ) × (y ≡ timing_answer (Ok (Growing n g)))
  pub numbers : R ≡ S

module _ (bytes : List ℕ) (numbers : List ℤ) (arcs : List ℕ) where
  pub timing_call_only : {x y : TimingAnswer} {R S : List ℤ} {A B : List ℕ} →
      TimingForC bytes numbers arcs x R A → TimingForC bytes numbers arcs y S B → SameForC x y R S A B ⊎ BothGrowForC x y R S
  timing_call_only p q = elim (rattle.timing_only bytes numbers arcs p.kept q.kept) [
    | inl s ↦ inl (record { answer = p.told ∙ ap timing_answer s.answer ∙ sym q.told; numbers = s.numbers; arcs = s.arcs })
    | inr g ↦ inr (record {
      one = (g.one.0, g.one.1, p.told ∙ ap timing_answer g.one.2);
      other = (g.other.0, g.other.1, q.told ∙ ap timing_answer g.other.2);
      numbers = g.numbers;
    })
  ]

module _ (bytes : List ℕ) (i : ℕ) (arcs : List ℕ) where
  pub path_call_only : {x y : PathAnswer} {A B : List ℕ} → PathForC bytes i arcs x A → PathForC bytes i arcs y B → (x ≡ y) × (A ≡ B)
  path_call_only p q =
      let e = path_only bytes i arcs p.kept q.kept in
      (p.told ∙ ap path_answer e.0 ∙ sym q.told, e.1)

module _ (bytes before : List ℕ) {m n : ℕ} {x y : List ℕ} (p : ReportForC bytes before m x) (q : ReportForC bytes before n y) where
  pub report_call_only : told.Alike m n x y ⊎ told.BothLoop p.kept q.kept
  report_call_only = elim (told.report_only bytes blank p.kept q.kept) [
    | inl s ↦ inl (record { size = s.size; text = p.written ∙ rw (s.size, s.text) (sym q.written) })
    | inr g ↦ inr g
  ]

pub text_call_only : {text before : List ℕ} {x y : TextAnswer} {a b : List ℕ} → TextForC text before x a → TextForC text before y b → (x ≡ y) × (a ≡ b)
text_call_only p q = let e = text_one p.kept q.kept in (p.told ∙ ap text_answer e.0 ∙ sym q.told, e.1)
