-- The records of lines in the order of the lines. Lines come in the order of the tables, so this is what an image has behind its header.
use Rattle.std.specs.Prelude.{List, [], map, ℕ}
use Rattle.grammar.specs.Layout.{table, phase_words, synchronizer_words, arc_words}
use Rattle.grammar.specs.declared.read.Line.{Line}
use Rattle.grammar.specs.declared.read.Line.TheVariants as line

-- the words of a line's record; `tc` has none
abbrev pub words_of : Line → List ℕ
words_of (line.Cycle n) = []
words_of (line.Phase p) = phase_words p
words_of (line.Synchronizer s) = synchronizer_words s
words_of (line.Arc a) = arc_words a

abbrev pub flat : List Line → List ℕ
flat lines = table (map words_of lines)
