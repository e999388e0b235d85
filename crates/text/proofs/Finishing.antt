-- A text that was read to its end has a reading. The rules about the cycle and the counts tell whether there is room for its image; where there
-- is, the image stands in the room once its header does.
use mathlib.Core.Path.{◌≡◌, refl, sym, ap, subst, ◌∙◌}
use mathlib.Core.Bool.{Bool, true, false}
use mathlib.Core.List.{List, ◌++◌, append_assoc}
use Rattle.std.specs.Prelude.{Result, Err}
use Prim.Native.Nat.{ℕ, ◌+◌, ◌≤◌}
use native.Mathlib.Omega.{arith}
use lib.ListN.{length, take, drop, replicate, length-append, length-replicate, drop_of_length-le}
use lib.Seq.{sets, sets-eq, length-sets, take_at, drop_at, length-take-le}
use Rattle.image.specs.Header.{header_bytes, most_bytes, image_of}
use Rattle.image.specs.Rules.{bad_cycle, bad_counts}
use Rattle.image.specs.Checks.{refuse, records_of, check_of}
use Rattle.image.specs.declared.header.Header.{Header}
use Rattle.image.specs.Refusal.{refusal}
use Rattle.image.specs.declared.header.Image.{Image}
use Rattle.image.specs.declared.refusal.Rule.TheVariants as by
use Rattle.image.specs.declared.refusal.Refusal.{Refusal}
use Rattle.image.proofs.Validity.{counts_iff}
use Rattle.grammar.specs.Text.{Begins, Reads}
use Rattle.grammar.specs.Layout.{bytes_of, image_from}
use Rattle.grammar.specs.Inside.Rows.{flat}
use Rattle.grammar.specs.declared.read.Line.{Line}
use Rattle.grammar.proofs.InOrder.{in_order}
use Rattle.grammar.proofs.SmallLines.{begins_small, begins_few}
use Rattle.grammar.proofs.HeaderLaid.{head_of, phase_rows, synchronizer_rows, arc_rows, image_parts, header_for, check_laid}
use Rattle.text.specs.TextPromise as promise
use Rattle.text.specs.TextPromise.{TextCall}
use Rattle.text.specs.Inside.Handed as handed
use Rattle.text.specs.Inside.Handed.{Handed}
use Rattle.text.specs.Inside.Stores.{stored_all, words_in}
use Rattle.text.specs.Inside.Tally.{stage_number, header_from, Of, SoFar, Done}
use Rattle.text.specs.declared.tally.Tally.{Tally}
use Rattle.text.proofs.Storing.{stored_all_lem}
use Rattle.text.proofs.Reading.{flat_long}

-- the image is the header, and then the records as the lines have them
image_flat : {text rest : List ℕ} {stage : ℕ} {lines : List Line} → Begins text stage lines rest → image_from lines ≡ bytes_of (head_of lines) ++ flat lines
image_flat {lines = lines} b =
    let h = bytes_of (head_of lines) in
    image_parts lines
    ∙ append_assoc (h ++ phase_rows lines) (synchronizer_rows lines) (arc_rows lines)
    ∙ append_assoc h (phase_rows lines) (synchronizer_rows lines ++ arc_rows lines)
    ∙ ap (λ (r : List ℕ). h ++ r) (sym (append_assoc (phase_rows lines) (synchronizer_rows lines) (arc_rows lines)) ∙ sym (in_order b))

-- a header that is stored at the front of a room, before the records that stand there
front : (zeros head rows : List ℕ) → length head ≡ header_bytes → header_bytes + length rows ≤ length zeros →
    take (header_bytes + length rows) (sets (sets zeros header_bytes rows) 0 head) ≡ head ++ rows
front zeros head rows long fits =
    ap (take (header_bytes + length rows)) whole
    ∙ ap (take (header_bytes + length rows)) (sym (append_assoc head rows rest))
    ∙ take_at (head ++ rows) rest (header_bytes + length rows) (length-append head rows ∙ ap (λ (n : ℕ). n + length rows) long)
  where
    gap : List ℕ
    gap = take header_bytes zeros

    rest : List ℕ
    rest = drop (header_bytes + length rows) zeros

    inner : sets zeros header_bytes rows ≡ gap ++ (rows ++ rest)
    inner = sets-eq rows zeros header_bytes fits ∙ append_assoc gap rows rest

    behind : drop (0 + length head) (gap ++ (rows ++ rest)) ≡ rows ++ rest
    behind = drop_at gap (rows ++ rest) (0 + length head) (omega (arith, length-take-le header_bytes zeros (omega (arith, fits)), long))

    whole : sets (sets zeros header_bytes rows) 0 head ≡ head ++ (rows ++ rest)
    whole =
        sets-eq head (sets zeros header_bytes rows) 0 (omega (arith, length-sets zeros header_bytes rows, long, fits))
        ∙ ap (λ (r : List ℕ). head ++ drop (0 + length head) r) inner
        ∙ ap (λ (r : List ℕ). head ++ r) behind

abbrev zeros : List ℕ
zeros = replicate most_bytes 0

zeros_long : length zeros ≡ most_bytes
zeros_long = length-replicate {A = ℕ} most_bytes 0

-- the image of a text's lines stands in a room, up to a place
pub record Stands (text : List ℕ) (end : ℕ) (room : List ℕ) : Type 0 where
  pub lines : List Line
  pub reads : Reads text lines
  pub fits : end ≤ most_bytes
  pub long : length room ≡ most_bytes
  pub part : length (take end room) ≡ end
  pub image : take end room ≡ image_from lines

-- the header that is made from the counts is that of the lines
header_of : (lines : List Line) (t : Tally) → Of lines t → header_from t ≡ header_for lines
header_of lines t of = rw (of.cycle, of.phases, of.synchronizers, of.arcs) refl

module _ {text room : List ℕ} {t : Tally} (d : Done text t room) where
  abbrev k : SoFar text t room
  k = d.so_far

  pub reads : Reads text k.lines
  reads = record {
    short = d.short;
    stage = stage_number t.stage;
    begun = d.begun;
    whole = subst (Begins text (stage_number t.stage) k.lines) (drop_of_length-le text (omega (arith, d.end))) k.begins;
  }

  header_same : header_from t ≡ header_for k.lines
  header_same = header_of k.lines t k.of

  abbrev header : Header
  header = header_for k.lines

  abbrev others : Result Image Refusal
  others = records_of (image_from k.lines) (image_of header)

  checked : check_of (image_from k.lines) ≡ refuse (bad_cycle header) by.Cycle 0 (refuse (bad_counts header) by.Counts 0 others)
  checked = check_laid k.lines (begins_small k.begins) (omega (arith, begins_few k.begins, d.short))

  pub bad_cycle_lem : bad_cycle (header_from t) ≡ true → check_of (image_from k.lines) ≡ Err (refusal by.Cycle 0)
  bad_cycle_lem h = checked ∙ ap (λ (b : Bool). refuse b by.Cycle 0 (refuse (bad_counts header) by.Counts 0 others)) (subst (λ h. bad_cycle h ≡ true) header_same h)

  pub bad_counts_lem : bad_cycle (header_from t) ≡ false → bad_counts (header_from t) ≡ true → check_of (image_from k.lines) ≡ Err (refusal by.Counts 0)
  bad_counts_lem good h =
      checked
      ∙ ap (λ (b : Bool). refuse b by.Cycle 0 (refuse (bad_counts header) by.Counts 0 others)) (subst (λ h. bad_cycle h ≡ false) header_same good)
      ∙ ap (λ (b : Bool). refuse b by.Counts 0 others) (subst (λ h. bad_counts h ≡ true) header_same h)

  -- ---- there is room for the image where the counts are good, and it stands there once its header does
  abbrev rows : List ℕ
  rows = flat k.lines

  abbrev head : List ℕ
  head = bytes_of (words_in (header_from t))

  module _ (good : bad_counts (header_from t) ≡ false) where
    fits : t.end ≤ most_bytes
    fits =
        let c = (counts_iff (header_from t)).0 good in
        omega (arith, c.0.0.1, c.0.1, c.1, k.of.end, flat_long k.begins, k.of.phases, k.of.synchronizers, k.of.arcs)

    held : stored_all room 0 (words_in (header_from t)) ≡ sets (sets zeros header_bytes rows) 0 head
    held = stored_all_lem room 0 (words_in (header_from t)) (omega arith) ∙ ap (λ (r : List ℕ). sets r 0 head) (k.laid fits)

    image : take t.end (stored_all room 0 (words_in (header_from t))) ≡ image_from k.lines
    image =
        ap (take t.end) held
        ∙ ap (λ (n : ℕ). take n (sets (sets zeros header_bytes rows) 0 head)) k.of.end
        ∙ front zeros head rows refl (omega (arith, zeros_long, k.of.end, fits))
        ∙ ap (λ (h : Header). bytes_of (words_in h) ++ rows) header_same
        ∙ sym (image_flat k.begins)

    long : length (stored_all room 0 (words_in (header_from t))) ≡ most_bytes
    long = ap length held ∙ length-sets (sets zeros header_bytes rows) 0 head ∙ length-sets zeros header_bytes rows ∙ zeros_long

    pub stands : Stands text t.end (stored_all room 0 (words_in (header_from t)))
    stands = record {
      lines = k.lines;
      reads = reads;
      fits = fits;
      long = long;
      part = length-take-le t.end (stored_all room 0 (words_in (header_from t))) (omega (arith, fits, long));
      image = image;
    }

-- what is handed over is what the promise says
pub handed_over : {text before : List ℕ} {lines : List Line} {after : List ℕ} {answer : Result ℕ Refusal} →
    Reads text lines → Handed (image_from lines) before answer after → TextCall text before answer after
handed_over r (handed.refused e) = promise.refused r e
handed_over r (handed.short e l) = promise.short r e l
handed_over r (handed.made e l) = promise.made r e l
