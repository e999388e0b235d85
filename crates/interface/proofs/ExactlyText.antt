-- What the fields say of a text, each exactly: an image was made, a line is at fault, the buffer is too short. The cases of the promise exclude one
-- another, since a text has one reading or a fault, and the rules of an image have other numbers.
use mathlib.Core.Path.{◌≡◌, refl, sym, ap, ◌∙◌}
use mathlib.Core.List.{List}
use mathlib.Core.Logic.{◌↔◌}
use Rattle.std.specs.Prelude.{Result, Ok, Err}
use Prim.Native.Nat.{ℕ, ◌≤◌, ◌<◌}
use native.Mathlib.Omega.{arith}
use lib.ListN.{length, take, drop}
use lib.Seq.{take_at}
use Rattle.image.specs.Header.{most_bytes}
use Rattle.image.specs.Checks.{check_of}
use Rattle.image.specs.Valid.{Valid}
use Rattle.image.specs.declared.header.Image.{Image}
use Rattle.image.specs.declared.refusal.Refusal.{Refusal}
use Rattle.image.proofs.Enough.{valid_short}
use Rattle.image.proofs.Validity.{accepts, accepted_is}
use Rattle.image.proofs.Alike.{err_is_not_ok}
use Rattle.grammar.specs.Text.{Reads, Fault}
use Rattle.grammar.specs.Layout.{image_from}
use Rattle.grammar.specs.declared.read.Line.{Line}
use Rattle.grammar.proofs.OneReading.{reads_one, fault_one, reads_not_fault}
use Rattle.report.proofs.Refusals.{refused_small}
use Rattle.text.specs.TextPromise.{TextCall, faulty, refused, short, made}
use Rattle.interface.specs.Answers.{text_answer}
use Rattle.interface.specs.Promise.{TextForC}
use Rattle.interface.specs.declared.text_answer.TextAnswer.{TextAnswer}

-- the text has a reading, and the image that it writes is good
pub record Writes (text : List ℕ) : Type 0 where
  pub lines : List Line
  pub reads : Reads text lines
  pub good : Valid (image_from lines)

-- its length
abbrev pub size : {text : List ℕ} → Writes text → ℕ
size w = length (image_from w.lines)

module _ {text : List ℕ} where
  abbrev writes : {lines : List Line} {image : Image} → Reads text lines → check_of (image_from lines) ≡ Ok image → Writes text
  writes {lines} {image} r p =
      record { lines = lines; reads = r; good = (accepts (image_from lines)).1 (rw (accepted_is (image_from lines) image p) at p) }

  -- no text that writes a good image is refused for it
  not_refused : {lines : List Line} {why : Refusal} → Reads text lines → check_of (image_from lines) ≡ Err why → Writes text → ⊥
  not_refused r e w =
      let good = (accepts (image_from w.lines)).0 w.good in
      let bad = ap (λ (l : List Line). check_of (image_from l)) (reads_one w.reads r) ∙ e in
      err_is_not_ok (sym bad ∙ good)

  long : {lines : List Line} → Reads text lines → (w : Writes text) → size w ≡ length (image_from lines)
  long r w = ap (λ (l : List Line). length (image_from l)) (reads_one w.reads r)

module _ {text before : List ℕ} where
  made_is : {X : Result ℕ Refusal} {after : List ℕ} → TextCall text before X after → ((text_answer X).refusal ≡ 0) ↔ ((w : Writes text) × (size w ≤ length before))
  made_is (faulty f) = (λ z. let no : ⊥ = omega arith in absurd no, λ m. absurd (reads_not_fault m.0.reads f))
  made_is (refused {lines} {why} r e) =
      let some = (refused_small why (image_from lines) e).0 in
      (λ z. let no : ⊥ = omega (arith, some) in absurd no, λ m. absurd (not_refused r e m.0))
  made_is (short r p l) = (λ z. let no : ⊥ = omega arith in absurd no, λ m. let no : ⊥ = omega (arith, l, m.1, long r m.0) in absurd no)
  made_is (made r p l) = (λ z. (writes r p, l), λ m. refl)

  -- 0: the text writes a good image, and the buffer is long enough for it
  pub made_exactly : {given : TextAnswer} {after : List ℕ} → TextForC text before given after →
      (given.refusal ≡ 0) ↔ ((w : Writes text) × (size w ≤ length before))
  made_exactly c = rw c.told (made_is c.kept)

  pub fault_is : {X : Result ℕ Refusal} {after : List ℕ} {n : ℕ} → TextCall text before X after → (((text_answer X).refusal ≡ 15) × ((text_answer X).«record» ≡ n)) ↔ Fault text n
  fault_is (faulty f) = (λ z. rw (← z.1) f, λ g. (refl, fault_one f g))
  fault_is (refused {lines} {why} r e) =
      let few = (refused_small why (image_from lines) e).1 in
      (λ z. let no : ⊥ = omega (arith, z.0, few) in absurd no, λ g. absurd (reads_not_fault r g))
  fault_is (short r p l) = (λ z. let no : ⊥ = omega (arith, z.0) in absurd no, λ g. absurd (reads_not_fault r g))
  fault_is (made r p l) = (λ z. let no : ⊥ = omega (arith, z.0) in absurd no, λ g. absurd (reads_not_fault r g))

  -- 15 with a line: that line is the lowest at fault
  pub fault_exactly : {given : TextAnswer} {after : List ℕ} {n : ℕ} → TextForC text before given after →
      ((given.refusal ≡ 15) × (given.«record» ≡ n)) ↔ Fault text n
  fault_exactly c = rw c.told (fault_is c.kept)

  short_is : {X : Result ℕ Refusal} {after : List ℕ} → TextCall text before X after → ((text_answer X).refusal ≡ 16) ↔ ((w : Writes text) × (length before < size w))
  short_is (faulty f) = (λ z. let no : ⊥ = omega (arith, z) in absurd no, λ m. absurd (reads_not_fault m.0.reads f))
  short_is (refused {lines} {why} r e) =
      let few = (refused_small why (image_from lines) e).1 in
      (λ z. let no : ⊥ = omega (arith, z, few) in absurd no, λ m. absurd (not_refused r e m.0))
  short_is (short r p l) = (λ z. (writes r p, l), λ m. refl)
  short_is (made r p l) = (λ z. let no : ⊥ = omega (arith, z) in absurd no, λ m. let no : ⊥ = omega (arith, l, m.1, long r m.0) in absurd no)

  -- 16: the text writes a good image, and the buffer is too short for it
  pub short_exactly : {given : TextAnswer} {after : List ℕ} → TextForC text before given after →
      (given.refusal ≡ 16) ↔ ((w : Writes text) × (length before < size w))
  short_exactly c = rw c.told (short_is c.kept)

  -- a buffer of this length is long enough for every text
  pub text_call_fits : {given : TextAnswer} {after : List ℕ} → TextForC text before given after → most_bytes ≤ length before → given.refusal ≡ 16 → ⊥
  text_call_fits c room e = let w = (short_exactly c).0 e in omega (arith, room, w.1, valid_short _ w.0.good)

  good_front : {X : Result ℕ Refusal} {after : List ℕ} → TextCall text before X after → (text_answer X).refusal ≡ 0 → Valid (take (text_answer X).image_bytes after)
  good_front (faulty f) z = let no : ⊥ = omega arith in absurd no
  good_front (refused {lines} {why} r e) z = let no : ⊥ = omega (arith, z, (refused_small why (image_from lines) e).0) in absurd no
  good_front (short r p l) z = let no : ⊥ = omega arith in absurd no
  good_front (made {lines} r p l) z =
      let image = image_from lines in
      rw (take_at image (drop (length image) before) (length image) refl) (writes r p).good

  -- an image that was made is good: so many bytes, from the front of the buffer on
  pub made_good : {given : TextAnswer} {after : List ℕ} → TextForC text before given after → given.refusal ≡ 0 →
      Valid (take given.image_bytes after)
  made_good c = rw c.told (good_front c.kept)
