-- Words stored in the room that an image is laid out in. A word for which there is no room is left out.
use Rattle.std.specs.Prelude.{cond, List, [], ◌∷◌, ℕ, ◌+◌, ◌*◌, leb}
use Rattle.std.proofs.lemmas.List.Edits.{sets}
use Rattle.image.specs.Header.{header_bytes, synchronizer_bytes, most_bytes}
use Rattle.image.specs.declared.header.Header.{Header}
use Rattle.grammar.specs.Text.{longest_text}
use Rattle.grammar.specs.Layout.{le32}

-- no word goes further: each line has at most one record, the longest of which is a synchronizer's
abbrev pub furthest : ℕ
furthest = header_bytes + synchronizer_bytes * (longest_text + 1)

unfoldable pub stored : List ℕ → ℕ → ℕ → List ℕ
stored room at word = cond (leb (at + 4) most_bytes) (sets room at (le32 word)) room

abbrev pub stored_all : List ℕ → ℕ → List ℕ → List ℕ
stored_all room at [] = room
stored_all room at (word ∷ words) = stored_all (stored room at word) (at + 4) words

-- the place behind them
abbrev pub behind_words : ℕ → List ℕ → ℕ
behind_words at [] = at
behind_words at (word ∷ words) = behind_words (at + 4) words

-- the words of a header
abbrev pub words_in : Header → List ℕ
words_in h =
    h.version ∷ h.cycle ∷ h.phases ∷ h.synchronizers ∷ h.arcs ∷ h.phase_table ∷ h.synchronizer_table ∷ h.arc_table ∷ []
