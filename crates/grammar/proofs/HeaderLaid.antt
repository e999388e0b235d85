-- The header of an image that lines were written to is read back, and the image is as long as the layout says; so of the rules about the whole
-- image only 3 and 4, on the cycle and the counts, may apply. Each word of the header is small enough for 32 bits, since the lines are few.
use mathlib.Core.Path.{◌≡◌, refl, ap}
use mathlib.Core.List.{List, [], ◌∷◌, ◌++◌, map, append_assoc}
use Prim.Native.Nat.{ℕ, suc, ◌*◌, ◌≤◌, ◌<◌}
use native.Mathlib.Omega.{arith}
use lib.ListN.{length, get_or, length-append}
use borrow.Author.Tests.{le-ltb, eq-eqb}
use Rattle.image.specs.Words.{word_at}
use Rattle.image.specs.Header.{offset_of, header_of, image_of, header_bytes}
use Rattle.image.specs.Rules.{bad_cycle, bad_counts}
use Rattle.image.specs.Checks.{refuse, records_of, check_of}
use Rattle.image.specs.declared.header.Header.{Header}
use Rattle.image.specs.declared.header.Part.TheVariants as part
use Rattle.image.specs.declared.refusal.Rule.TheVariants as by
use Rattle.grammar.specs.Text.{longest_text}
use Rattle.grammar.specs.Layout.{bytes_of, table, header_words, phase_words, synchronizer_words, arc_words, cycle_of, phases_of, synchronizers_of, arcs_of}
use Rattle.grammar.specs.Layout.{image_from}
use Rattle.grammar.specs.declared.read.Line.{Line}
use Rattle.grammar.proofs.WordsBack.{word_limit, word_first, table_long}
use Rattle.grammar.proofs.SmallLines.{AllSmall, cycle_small, records_few}

map_long : {A : Type 0} (f : A → List ℕ) (xs : List A) → length (map f xs) ≡ length xs
map_long f [] = refl
map_long f (x ∷ xs) = ap suc (map_long f xs)

-- the words of the header of those lines
abbrev pub head_of : List Line → List ℕ
head_of lines = header_words (cycle_of lines) (length (phases_of lines)) (length (synchronizers_of lines)) (length (arcs_of lines))

abbrev pub phase_rows : List Line → List ℕ
phase_rows lines = table (map phase_words (phases_of lines))

abbrev pub synchronizer_rows : List Line → List ℕ
synchronizer_rows lines = table (map synchronizer_words (synchronizers_of lines))

abbrev pub arc_rows : List Line → List ℕ
arc_rows lines = table (map arc_words (arcs_of lines))

-- the image: the header and the three tables
pub image_parts : (lines : List Line) → image_from lines ≡ bytes_of (head_of lines) ++ phase_rows lines ++ synchronizer_rows lines ++ arc_rows lines
unfolding image_from
image_parts lines = rw (map_long phase_words (phases_of lines), map_long synchronizer_words (synchronizers_of lines), map_long arc_words (arcs_of lines))

-- ---- how long the parts are
pub phases_long : (lines : List Line) → length (phase_rows lines) ≡ 8 * length (phases_of lines)
phases_long lines = table_long phase_words 2 (λ p. refl) (phases_of lines)

pub synchronizers_long : (lines : List Line) → length (synchronizer_rows lines) ≡ 24 * length (synchronizers_of lines)
synchronizers_long lines = table_long synchronizer_words 6 (λ s. refl) (synchronizers_of lines)

pub arcs_long : (lines : List Line) → length (arc_rows lines) ≡ 16 * length (arcs_of lines)
arcs_long lines = table_long arc_words 4 (λ a. refl) (arcs_of lines)

-- the image is as long as the layout says
pub laid_long : (lines : List Line) → length (image_from lines) ≡ offset_of part.End (length (phases_of lines)) (length (synchronizers_of lines)) (length (arcs_of lines))
laid_long lines = omega (
  arith,
  ap length (image_parts lines),
  length-append (bytes_of (head_of lines) ++ phase_rows lines ++ synchronizer_rows lines) (arc_rows lines),
  length-append (bytes_of (head_of lines) ++ phase_rows lines) (synchronizer_rows lines),
  length-append (bytes_of (head_of lines)) (phase_rows lines),
  phases_long lines,
  synchronizers_long lines,
  arcs_long lines,
)

-- the header that is read back
abbrev pub header_for : List Line → Header
header_for lines =
    let k = length (phases_of lines) in
    let l = length (synchronizers_of lines) in
    let m = length (arcs_of lines) in
    record {
      version = 1;
      cycle = cycle_of lines;
      phases = k;
      synchronizers = l;
      arcs = m;
      phase_table = offset_of part.Phases k l m;
      synchronizer_table = offset_of part.Synchronizers k l m;
      arc_table = offset_of part.Arcs k l m;
    }

module _ (lines : List Line) (small : AllSmall lines) (few : length lines ≤ longest_text) where
  -- word i of the header
  head_word : (i : ℕ) → i < 8 → get_or (head_of lines) i 0 < word_limit → word_at (image_from lines) (4 * i) ≡ get_or (head_of lines) i 0
  head_word i l h =
      rw (
        image_parts lines,
        append_assoc (bytes_of (head_of lines) ++ phase_rows lines) (synchronizer_rows lines) (arc_rows lines),
        append_assoc (bytes_of (head_of lines)) (phase_rows lines) (synchronizer_rows lines ++ arc_rows lines),
      )
      (word_first (head_of lines) (phase_rows lines ++ (synchronizer_rows lines ++ arc_rows lines)) i l h)

  -- the header is read back
  pub header_laid : header_of (image_from lines) ≡ header_for lines
  unfolding header_of
  header_laid =
      let c = cycle_small lines small in
      let r = records_few lines in
      rw (
        head_word 0 (omega arith) (omega arith),
        head_word 1 (omega arith) (omega arith),
        head_word 2 (omega arith) (omega arith),
        head_word 3 (omega arith) (omega arith),
        head_word 4 (omega arith) (omega arith),
        head_word 5 (omega arith) (omega arith),
        head_word 6 (omega arith) (omega arith),
        head_word 7 (omega arith) (omega arith),
      )

  -- rules 1, 2 and 5 do not apply
  pub check_laid : check_of (image_from lines)
      ≡ refuse (bad_cycle (header_for lines)) by.Cycle 0 (refuse (bad_counts (header_for lines)) by.Counts 0 (records_of (image_from lines) (image_of (header_for lines))))
  unfolding check_of
  check_laid =
      let h : Header = header_for lines in
      let total : ℕ = offset_of part.End h.phases h.synchronizers h.arcs in
      rw (
        header_laid,
        laid_long lines,
        le-ltb total header_bytes (omega arith),
        eq-eqb h.synchronizer_table _ refl,
        eq-eqb h.arc_table _ refl,
        eq-eqb total _ refl,
      )
