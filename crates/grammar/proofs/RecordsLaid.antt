-- The records of an image that lines were written to are those of the lines, one for one. The header is read back, so each table is looked for
-- where it was laid; there each word of a row is read back.
use mathlib.Core.Path.{◌≡◌, refl}
use mathlib.Core.List.{List, [], ◌++◌, append_assoc, append-nil}
use Prim.Native.Nat.{ℕ, ◌+◌, ◌*◌, ◌≤◌, ◌<◌}
use native.Mathlib.Omega.{arith}
use lib.ListN.{length, get_or, length-append}
use Rattle.image.specs.Words.{word_at}
use Rattle.image.specs.Records.{phase_at, synchronizer_at, arc_at}
use Rattle.image.specs.Valid.{phase_in, synchronizer_in, arc_in}
use Rattle.image.specs.declared.records.Phase.{Phase}
use Rattle.image.specs.declared.records.Synchronizer.{Synchronizer}
use Rattle.image.specs.declared.records.Arc.{Arc}
use Rattle.grammar.specs.Text.{longest_text}
use Rattle.grammar.specs.Layout.{bytes_of, phase_words, synchronizer_words, arc_words, phases_of, synchronizers_of, arcs_of, image_from}
use Rattle.grammar.specs.declared.read.Line.{Line}
use Rattle.grammar.proofs.WordsBack.{row_laid}
use Rattle.grammar.proofs.SmallLines.{AllSmall, phases_small, synchronizers_small, arcs_small, row_small}
use Rattle.grammar.proofs.HeaderLaid.{head_of, phase_rows, synchronizer_rows, arc_rows, image_parts, phases_long, synchronizers_long, header_for, header_laid}

module _ (lines : List Line) (small : AllSmall lines) (few : length lines ≤ longest_text) where
  -- word j of record i of each table
  phase_word : (d : Phase) (i : ℕ) → i < length (phases_of lines) → (j at : ℕ) → j < 2 → at ≡ (header_for lines).phase_table + 8 * i + 4 * j →
      word_at (image_from lines) at ≡ get_or (phase_words (get_or (phases_of lines) i d)) j 0
  phase_word d i l j at h e =
      rw (
        image_parts lines,
        append_assoc (bytes_of (head_of lines) ++ phase_rows lines) (synchronizer_rows lines) (arc_rows lines),
        append_assoc (bytes_of (head_of lines)) (phase_rows lines) (synchronizer_rows lines ++ arc_rows lines),
      )
      (row_laid phase_words 2 (λ p. refl) (bytes_of (head_of lines)) (phases_of lines) (synchronizer_rows lines ++ arc_rows lines) d i j at l h
      (omega arith) (omega (arith, row_small phase_words (phases_of lines) d i j (phases_small lines small) l)))

  synchronizer_word : (d : Synchronizer) (i : ℕ) → i < length (synchronizers_of lines) → (j at : ℕ) → j < 6 → at ≡ (header_for lines).synchronizer_table + 24 * i + 4 * j →
      word_at (image_from lines) at ≡ get_or (synchronizer_words (get_or (synchronizers_of lines) i d)) j 0
  synchronizer_word d i l j at h e =
      rw (image_parts lines, append_assoc (bytes_of (head_of lines) ++ phase_rows lines) (synchronizer_rows lines) (arc_rows lines))
      (row_laid synchronizer_words 6 (λ s. refl) (bytes_of (head_of lines) ++ phase_rows lines) (synchronizers_of lines) (arc_rows lines) d i j at l h
      (omega (arith, length-append (bytes_of (head_of lines)) (phase_rows lines), phases_long lines))
      (omega (arith, row_small synchronizer_words (synchronizers_of lines) d i j (synchronizers_small lines small) l)))

  arc_word : (d : Arc) (i : ℕ) → i < length (arcs_of lines) → (j at : ℕ) → j < 4 → at ≡ (header_for lines).arc_table + 16 * i + 4 * j →
      word_at (image_from lines) at ≡ get_or (arc_words (get_or (arcs_of lines) i d)) j 0
  arc_word d i l j at h e =
      let before : List ℕ = bytes_of (head_of lines) ++ phase_rows lines ++ synchronizer_rows lines in
      rw (image_parts lines, ← append-nil (arc_rows lines))
      (row_laid arc_words 4 (λ a. refl) before (arcs_of lines) [] d i j at l h
      (omega (
        arith,
        length-append (bytes_of (head_of lines)) (phase_rows lines),
        phases_long lines,
        synchronizers_long lines,
        length-append (bytes_of (head_of lines) ++ phase_rows lines) (synchronizer_rows lines),
      ))
      (omega (arith, row_small arc_words (arcs_of lines) d i j (arcs_small lines small) l)))

  -- record for record; a number below the count finds a record, so the default d does not matter
  pub phase_laid : (d : Phase) (i : ℕ) → i < length (phases_of lines) → phase_in (image_from lines) i ≡ get_or (phases_of lines) i d
  unfolding phase_at
  phase_laid d i l =
      let at : ℕ = (header_for lines).phase_table + 8 * i in
      let word = phase_word d i l in
      rw (header_laid lines small few, word 0 at (omega arith) (omega arith), word 1 (at + 4) (omega arith) (omega arith))

  pub synchronizer_laid : (d : Synchronizer) (i : ℕ) → i < length (synchronizers_of lines) → synchronizer_in (image_from lines) i ≡ get_or (synchronizers_of lines) i d
  unfolding synchronizer_at
  synchronizer_laid d i l =
      let at : ℕ = (header_for lines).synchronizer_table + 24 * i in
      let word = synchronizer_word d i l in
      rw (
        header_laid lines small few,
        word 0 at (omega arith) (omega arith),
        word 1 (at + 4) (omega arith) (omega arith),
        word 2 (at + 8) (omega arith) (omega arith),
        word 3 (at + 12) (omega arith) (omega arith),
        word 4 (at + 16) (omega arith) (omega arith),
        word 5 (at + 20) (omega arith) (omega arith),
      )

  pub arc_laid : (d : Arc) (i : ℕ) → i < length (arcs_of lines) → arc_in (image_from lines) i ≡ get_or (arcs_of lines) i d
  unfolding arc_at
  arc_laid d i l =
      let at : ℕ = (header_for lines).arc_table + 16 * i in
      let word = arc_word d i l in
      rw (
        header_laid lines small few,
        word 0 at (omega arith) (omega arith),
        word 1 (at + 4) (omega arith) (omega arith),
        word 2 (at + 8) (omega arith) (omega arith),
        word 3 (at + 12) (omega arith) (omega arith),
      )
