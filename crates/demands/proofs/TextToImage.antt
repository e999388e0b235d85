-- The request for images from texts, as the page has it: from the promise's cases, one reading a text, and the laws of a laid-out image.
use mathlib.Core.Path.{◌≡◌, refl, sym, ap, subst, ◌∙◌}
use mathlib.Core.Bool.{Bool, true, false}
use mathlib.Core.List.{List, [], ◌∷◌, ◌++◌}
use mathlib.Core.Logic.{◌⊎◌, inl, inr, ◌↔◌}
use Rattle.std.specs.Prelude.{Result, Ok, Err}
use Prim.Native.Nat.{ℕ, ◌<◌, ◌≤◌}
use native.Mathlib.Omega.{arith}
use lib.Dec.{ltb}
use lib.ListN.{length, drop}
use lib.Seq.{take_at}
use Rattle.image.specs.Checks.{refuse, refuse_at, records_of, check_of}
use Rattle.image.specs.Header.{image_of}
use Rattle.image.specs.Rules.{bad_cycle, bad_counts, breaks_of, lowest_of}
use Rattle.image.specs.Valid.{Valid}
use Rattle.image.specs.declared.header.Header.{Header}
use Rattle.image.specs.declared.header.Image.{Image}
use Rattle.image.specs.Refusal.{number_of, refusal}
use Rattle.image.specs.declared.refusal.Rule.{Rule}
use Rattle.image.specs.declared.refusal.Rule.TheVariants as by
use Rattle.image.specs.declared.refusal.Refusal.{Refusal}
use Rattle.image.proofs.Validity.{accepts, accepted_is}
use Rattle.image.proofs.Alike.{err_is_not_ok}
use Rattle.grammar.specs.Text.{longest_text, Reads, Fault}
use Rattle.grammar.specs.Layout.{image_from}
use Rattle.grammar.specs.declared.read.Line.{Line}
use Rattle.grammar.proofs.OneReading.{reads_one, reads_not_fault, window_one}
use Rattle.grammar.proofs.SmallLines.{AllSmall, begins_small, begins_few}
use Rattle.grammar.proofs.HeaderLaid.{header_for, header_laid, check_laid}
use Rattle.grammar.proofs.RecordsLaid.{phase_laid, synchronizer_laid, arc_laid}
use Rattle.circuit.specs.Circuit.{circuit_of}
use Rattle.text.specs.TextPromise.{TextCall, faulty, refused, short, made}
use Rattle.text.proofs.OneOutcome.{text_one}
use Rattle.interface.specs.Answers.{text_answer}
use Rattle.interface.proofs.ExactlyText.{fault_is}
use Rattle.text.proofs.SomeOutcome.{Read, reads, fails, read_some, text_some}
use Rattle.demands.specs.Requests.{Among, Carries, Wrote, TextToImage}

-- an image is good where it is valid
good : (bytes : List ℕ) {image : Image} → check_of bytes ≡ Ok image → Valid bytes
good bytes {image} e = (accepts bytes).1 (rw (accepted_is bytes image e) at e)

-- ---- the image carries the lines
module _ {text : List ℕ} {lines : List Line} (r : Reads text lines) where
  small : AllSmall lines
  small = begins_small r.whole

  few : length lines ≤ longest_text
  few = omega (arith, begins_few r.whole, r.short)

  carries : Carries (circuit_of (image_from lines)) lines
  unfolding circuit_of
  carries =
      let h = header_laid lines small few in
      record {
        cycle = ap (λ (x : Header). x.cycle) h;
        phases = ap (λ (x : Header). x.phases) h;
        synchronizers = ap (λ (x : Header). x.synchronizers) h;
        arcs = ap (λ (x : Header). x.arcs) h;
        phase = λ d i l. phase_laid lines small few d i (omega (arith, l, ap (λ (x : Header). x.phases) h));
        synchronizer = λ d i l. synchronizer_laid lines small few d i (omega (arith, l, ap (λ (x : Header). x.synchronizers) h));
        arc = λ d i l. arc_laid lines small few d i (omega (arith, l, ap (λ (x : Header). x.arcs) h));
      }

-- ---- by which rules an image that lines were written to is refused
module _ {why : Refusal} where
  -- a rule that is asked refuses, or those after it do
  asked : {P : Type 0} (b : Bool) (n : Rule) (c : ℕ) (rest : Result Image Refusal) → refuse b n c rest ≡ Err why →
      (rest ≡ Err why → P) → (number_of why.rule ≡ number_of n) ⊎ P
  asked true n c rest e after = let same : why ≡ refusal n c = cc in inl (ap (λ (x : Refusal). number_of x.rule) same)
  asked false n c rest e after = inr (after e)

  among_records : (bytes : List ℕ) (image : Image) → records_of bytes image ≡ Err why → Among (number_of why.rule) (6 ∷ 7 ∷ 8 ∷ 9 ∷ 16 ∷ [])
  unfolding records_of
  among_records bytes image e = table by.Phases image.phases _ e λ e. table by.Synchronizers image.synchronizers _ e
      λ e. table by.Arcs image.arcs _ e λ e. table by.Order image.arcs (Ok image) e
      λ e. absurd (err_is_not_ok (sym e))
    where
      table : {P : Type 0} (rule : Rule) (n : ℕ) (rest : Result Image Refusal) → refuse_at (breaks_of bytes image rule) n rule rest ≡ Err why →
          (rest ≡ Err why → P) → (number_of why.rule ≡ number_of rule) ⊎ P
      table rule n rest = asked (ltb (lowest_of (breaks_of bytes image rule) n) n) rule (lowest_of (breaks_of bytes image rule) n) rest

  among : {text : List ℕ} {lines : List Line} → Reads text lines → check_of (image_from lines) ≡ Err why →
      Among (number_of why.rule) (3 ∷ 4 ∷ 6 ∷ 7 ∷ 8 ∷ 9 ∷ 16 ∷ [])
  among {lines = lines} r e =
      let header = header_for lines in
      let records = records_of (image_from lines) (image_of header) in
      asked (bad_cycle header) by.Cycle 0 (refuse (bad_counts header) by.Counts 0 records) (sym (check_laid lines (small r) (few r)) ∙ e)
      λ e. asked (bad_counts header) by.Counts 0 records e (among_records (image_from lines) (image_of header))

module _ (text before : List ℕ) where
  numbers : {why : Refusal} {after : List ℕ} → TextCall text before (Err why) after →
      Among (number_of why.rule) (15 ∷ 3 ∷ 4 ∷ 6 ∷ 7 ∷ 8 ∷ 9 ∷ 16 ∷ [])
  numbers (faulty f) = inl refl
  numbers (refused r e) = inr (among r e)
  numbers (short r e l) = inr (inr (inr (inr (inr (inr (inr (inl refl)))))))

  fault_told : {X : Result ℕ Refusal} {after : List ℕ} → TextCall text before X after → (n : ℕ) → (X ≡ Err (refusal by.Text n)) ↔ Fault text n
  fault_told c n = (
    λ e. (fault_is c).0 (ap (λ (m : Result ℕ Refusal). (text_answer m).refusal) e, ap (λ (m : Result ℕ Refusal). (text_answer m).«record») e),
    λ f. (text_one c (faulty f)).0,
  )

  unread : ((n : ℕ) × Fault text n) ↔ ((lines : List Line) → Reads text lines → ⊥)
  unread = (λ f lines r. reads_not_fault r f.1, λ none. go none (read_some text)) where
    go : ((lines : List Line) → Reads text lines → ⊥) → Read text → (n : ℕ) × Fault text n
    go none (reads {lines} r) = absurd (none lines r)
    go none (fails {n} f) = (n, f)

  keeps : {why : Refusal} {after : List ℕ} → TextCall text before (Err why) after → after ≡ before
  keeps (faulty f) = refl
  keeps (refused r e) = refl
  keeps (short r e l) = refl

  -- what a refusal of a text that has a reading says
  module _ {lines : List Line} (r : Reads text lines) (given : Refusal) where
    abbrev Why : Type 0
    Why =
        (check_of (image_from lines) ≡ Err given) ⊎
        ((given ≡ refusal by.ImageBuffer 0) × Valid (image_from lines) × (length before < length (image_from lines)))

    why : {X : Result ℕ Refusal} {after : List ℕ} → TextCall text before X after → X ≡ Err given → Why
    why (faulty f) e = absurd (reads_not_fault r f)
    why (refused {lines = xs} s p) e =
        let same : check_of (image_from lines) ≡ check_of (image_from xs) = ap (λ (l : List Line). check_of (image_from l)) (reads_one r s) in
        inl (same ∙ p ∙ cc)
    why (short {lines = xs} s p l) e =
        let same : image_from xs ≡ image_from lines = ap image_from (reads_one s r) in
        inr (cc, subst Valid same (good (image_from xs) p), subst (λ (i : List ℕ). length before < length i) same l)
    why (made s p l) e = absurd (err_is_not_ok (sym e))

    told : {X : Result ℕ Refusal} {after : List ℕ} → TextCall text before X after → (X ≡ Err given) ↔ Why
    told {X} c = (why c, λ w. back w) where
      back : Why → X ≡ Err given
      back (inl e) = (text_one c (refused r e)).0
      back (inr w) = (text_one c (short r ((accepts (image_from lines)).0 w.1) w.2)).0 ∙ ap Err (sym w.0)

  wrote : {n : ℕ} {after : List ℕ} → TextCall text before (Ok n) after → Wrote text before n after
  wrote (made {lines} r p l) =
      let image = image_from lines in
      let front = take_at image (drop (length image) before) (length image) refl in
      record {
        lines = lines;
        reads = r;
        fits = l;
        after_is = ap (λ (i : List ℕ). i ++ drop (length image) before) (sym front);
        image_is = front;
        long = ap length (sym front);
        accepted = subst Valid (sym front) (good image p);
        carries = subst (λ (i : List ℕ). Carries (circuit_of i) lines) (sym front) (carries r);
      }

  pub text_to_image : TextToImage text before
  text_to_image = record {
    some = text_some text before;
    one = text_one;
    one_reading = reads_one;
    one_meaning = window_one;
    faulty = fault_told;
    no_reading = unread;
    refused = λ r c given. told r given c;
    numbers = numbers;
    keeps = keeps;
    wrote = wrote;
  }
