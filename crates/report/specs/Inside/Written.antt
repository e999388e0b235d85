-- Text written into a buffer: at its front, or from any place on.
use Rattle.std.specs.Prelude.{◌≡◌, List, [], ◌∷◌, ◌++◌, ℕ, ◌+◌, ◌≤◌, drop, length}
use Rattle.std.proofs.lemmas.List.Edits.{sets}

-- the words stand at the front, and the rest of the buffer is as before
pub record AtFront (words before : List ℕ) (size : ℕ) (after : List ℕ) : Type 0 where
  pub sized : size ≡ length words
  pub written : after ≡ words ++ drop size before

-- there is room for the text from a place on
pub record RoomFor (text : List ℕ) (at : ℕ) (buffer : List ℕ) : Type 0 where
  pub room : at + length text ≤ length buffer

-- the text stands in the buffer from a place on, all else is as before, and the next place is the one after it
pub record Wrote (text before : List ℕ) (at : ℕ) (after : List ℕ) (next : ℕ) : Type 0 where
  pub stored : after ≡ sets before at text
  pub ends : next ≡ at + length text

-- pieces of text, one after the other
abbrev pub joined : List (List ℕ) → List ℕ
joined [] = []
joined (piece ∷ pieces) = piece ++ joined pieces

-- the length of them all, as a sum
abbrev pub lengths : List (List ℕ) → ℕ
lengths [] = 0
lengths (piece ∷ pieces) = length piece + lengths pieces
