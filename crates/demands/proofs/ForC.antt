-- The calls for C: always a result, and one result, but for which ring is shown; and the same result where two phases are exchanged.
use mathlib.Core.Path.{◌≡◌, refl, sym, ap, ◌∙◌}
use mathlib.Core.List.{List, []}
use Prim.Native.Nat.{ℕ}
use lib.IntN.{ℤ}
use Rattle.image.specs.Valid.{Valid}
use Rattle.circuit.specs.Exchange.{Exchanged}
use Rattle.timing.proofs.OnePath.{path_some}
use Rattle.text.proofs.OneOutcome.{text_one}
use Rattle.text.proofs.SomeOutcome.{text_some}
use Rattle.interface.specs.Answers.{timing_answer, path_answer, text_answer}
use Rattle.interface.specs.Promise.{CheckForC, TimingForC, PathForC, blank, ReportForC, TextForC}
use Rattle.interface.specs.declared.check_answer.CheckAnswer.{CheckAnswer}
use Rattle.interface.specs.declared.timing_answer.TimingAnswer.{TimingAnswer}
use Rattle.interface.specs.declared.path_answer.PathAnswer.{PathAnswer}
use Rattle.interface.specs.declared.text_answer.TextAnswer.{TextAnswer}
use Rattle.demands.specs.Rings.{OneRing}
use Rattle.demands.proofs.Exchange.{phases_exchanged}
use Rattle.demands.proofs.OneOutcome.{timing_one, report_one}
use Rattle.demands.proofs.SomeOutcome.{timing_some, report_some}

module _ (bytes : List ℕ) (numbers : List ℤ) (arcs : List ℕ) where
  pub timing_call_some : (x : TimingAnswer) × (R : List ℤ) × (A : List ℕ) × TimingForC bytes numbers arcs x R A
  timing_call_some = let s = timing_some bytes numbers arcs in (timing_answer s.0, s.1, s.2, record { answer = s.0; kept = s.3; told = refl })

  -- where both show the same ring, or not both show one, struct and buffers are the same
  pub timing_call_one : {x y : TimingAnswer} {R S : List ℤ} {A B : List ℕ} (p : TimingForC bytes numbers arcs x R A) (q : TimingForC bytes numbers arcs y S B) →
      OneRing p.answer A q.answer B → (x ≡ y) × (R ≡ S) × (A ≡ B)
  timing_call_one p q one =
      let e = timing_one bytes numbers arcs p.kept q.kept one in
      (p.told ∙ ap timing_answer e.0 ∙ sym q.told, e.1, e.2)

pub path_call_some : (bytes : List ℕ) (i : ℕ) (arcs : List ℕ) → (x : PathAnswer) × (A : List ℕ) × PathForC bytes i arcs x A
path_call_some bytes i arcs = let s = path_some bytes i arcs in (path_answer s.0, s.1, record { answer = s.0; kept = s.2; told = refl })

module _ (bytes before : List ℕ) where
  pub report_call_some : (size : ℕ) × (after : List ℕ) × ReportForC bytes before size after
  report_call_some = let s = report_some bytes blank in (s.0, _, record { whole = s.1; kept = s.2; written = refl })

  pub report_call_one : {m n : ℕ} {x y : List ℕ} (p : ReportForC bytes before m x) (q : ReportForC bytes before n y) →
      OneRing p.kept.answer p.kept.arcs q.kept.answer q.kept.arcs → (m ≡ n) × (x ≡ y)
  report_call_one p q one =
      let e = report_one bytes blank p.kept q.kept one in
      (e.0, p.written ∙ rw (e.0, e.1) (sym q.written))

module _ (text before : List ℕ) where
  pub text_call_some : (x : TextAnswer) × (after : List ℕ) × TextForC text before x after
  text_call_some = let s = text_some text before in (text_answer s.0, s.1, record { answer = s.0; kept = s.2; told = refl })

  -- what C gets is what the Rattle call answers, so what the page says of that call holds of this one
  pub text_call_one : {x y : TextAnswer} {a b : List ℕ} → TextForC text before x a → TextForC text before y b → (x ≡ y) × (a ≡ b)
  text_call_one p q = let e = text_one p.kept q.kept in (p.told ∙ ap text_answer e.0 ∙ sym q.told, e.1)

-- what a call for C gives of an image, it gives of the image with two phases exchanged
module _ (p : ℕ) (first second : List ℕ) (x : Exchanged p first second) (v : Valid first) where
  pub check_exchanged : {given : CheckAnswer} → CheckForC first given → CheckForC second given
  check_exchanged c = record { answer = c.answer; kept = c.kept ∙ sym ((phases_exchanged p first second [] [] [] 0).checked x v); told = c.told }

  pub timing_exchanged : {numbers R : List ℤ} {arcs A : List ℕ} {given : TimingAnswer} → TimingForC first numbers arcs given R A →
      TimingForC second numbers arcs given R A
  timing_exchanged {numbers} {arcs = arcs} c =
      record { answer = c.answer; kept = ((phases_exchanged p first second numbers arcs [] 0).timing x v).0 c.kept; told = c.told }

  pub path_exchanged : {i : ℕ} {arcs A : List ℕ} {given : PathAnswer} → PathForC first i arcs given A → PathForC second i arcs given A
  path_exchanged {i} {arcs} c =
      record { answer = c.answer; kept = ((phases_exchanged p first second [] arcs [] i).path x v).0 c.kept; told = c.told }

  pub report_exchanged : {before after : List ℕ} {size : ℕ} → ReportForC first before size after → ReportForC second before size after
  report_exchanged c = record { whole = c.whole; kept = ((phases_exchanged p first second [] [] blank 0).report x v).0 c.kept; written = c.written }
