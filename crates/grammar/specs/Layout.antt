-- The image that the lines of a text are written to, of version 1: a header, then the tables without gaps (docs/RULES.md).
use Rattle.std.specs.Prelude.{List, [], ◌∷◌, ◌++◌, map, ℕ, ◌/◌, ◌%◌, length}
use Rattle.image.specs.Header.{offset_of}
use Rattle.image.specs.declared.header.Part.TheVariants as part
use Rattle.image.specs.declared.records.Phase.{Phase}
use Rattle.image.specs.declared.records.Synchronizer.{Synchronizer}
use Rattle.image.specs.declared.records.Arc.{Arc}
use Rattle.grammar.specs.declared.read.Line.{Line}
use Rattle.grammar.specs.declared.read.Line.TheVariants as line

-- a word's four bytes, the least significant first
abbrev pub le32 : ℕ → List ℕ
le32 n = (n % 256) ∷ (n / 256 % 256) ∷ (n / 65536 % 256) ∷ (n / 16777216 % 256) ∷ []

abbrev pub bytes_of : List ℕ → List ℕ
bytes_of [] = []
bytes_of (word ∷ words) = le32 word ++ bytes_of words

-- records, each as its words
abbrev pub table : List (List ℕ) → List ℕ
table [] = []
table (words ∷ rest) = bytes_of words ++ table rest

-- version 1, the cycle, the counts, the offsets of the three tables
abbrev pub header_words : ℕ → ℕ → ℕ → ℕ → List ℕ
header_words cycle k l m =
    1 ∷ cycle ∷ k ∷ l ∷ m ∷ offset_of part.Phases k l m ∷ offset_of part.Synchronizers k l m ∷ offset_of part.Arcs k l m ∷ []

abbrev pub laid : ℕ → List (List ℕ) → List (List ℕ) → List (List ℕ) → List ℕ
laid cycle phases synchronizers arcs =
    bytes_of (header_words cycle (length phases) (length synchronizers) (length arcs))
    ++ table phases
    ++ table synchronizers
    ++ table arcs

-- the words of a record
abbrev pub phase_words : Phase → List ℕ
phase_words p = p.closing ∷ p.active ∷ []

abbrev pub synchronizer_words : Synchronizer → List ℕ
synchronizer_words s = s.phase ∷ s.kind ∷ s.setup ∷ s.hold ∷ s.least ∷ s.greatest ∷ []

abbrev pub arc_words : Arc → List ℕ
arc_words a = a.from ∷ a.to ∷ a.least ∷ a.greatest ∷ []

-- the cycle, and the records of each kind in the order of their lines
abbrev pub cycle_of : List Line → ℕ
cycle_of [] = 0
cycle_of (line.Cycle n ∷ lines) = n
cycle_of (line.Phase p ∷ lines) = cycle_of lines
cycle_of (line.Synchronizer s ∷ lines) = cycle_of lines
cycle_of (line.Arc a ∷ lines) = cycle_of lines

abbrev pub phases_of : List Line → List Phase
phases_of [] = []
phases_of (line.Cycle n ∷ lines) = phases_of lines
phases_of (line.Phase p ∷ lines) = p ∷ phases_of lines
phases_of (line.Synchronizer s ∷ lines) = phases_of lines
phases_of (line.Arc a ∷ lines) = phases_of lines

abbrev pub synchronizers_of : List Line → List Synchronizer
synchronizers_of [] = []
synchronizers_of (line.Cycle n ∷ lines) = synchronizers_of lines
synchronizers_of (line.Phase p ∷ lines) = synchronizers_of lines
synchronizers_of (line.Synchronizer s ∷ lines) = s ∷ synchronizers_of lines
synchronizers_of (line.Arc a ∷ lines) = synchronizers_of lines

abbrev pub arcs_of : List Line → List Arc
arcs_of [] = []
arcs_of (line.Cycle n ∷ lines) = arcs_of lines
arcs_of (line.Phase p ∷ lines) = arcs_of lines
arcs_of (line.Synchronizer s ∷ lines) = arcs_of lines
arcs_of (line.Arc a ∷ lines) = a ∷ arcs_of lines

unfoldable pub image_from : List Line → List ℕ
image_from lines =
    laid
    (cycle_of lines)
    (map phase_words (phases_of lines))
    (map synchronizer_words (synchronizers_of lines))
    (map arc_words (arcs_of lines))
