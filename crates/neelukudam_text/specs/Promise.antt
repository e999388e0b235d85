-- What the program promises of the image that it writes, or of the refusal that it tells.
use Rattle.std.specs.Prelude.{◌≡◌, List, ◌++◌, ℕ, length, take, Result, Ok, Err}
use Rattle.std.specs.declared.option.Option.{Option}
use Rattle.std.specs.Io.KnownBytes.{Appends, Keeps}
use lib.Chars.{codes}
use Rattle.image.specs.Front.{Front}
use Rattle.image.specs.Checks.{check_of}
use Rattle.image.specs.Refusal.{refusal_text}
use Rattle.image.specs.declared.header.Image.{Image}
use Rattle.image.specs.declared.refusal.Refusal.{Refusal}
use Rattle.grammar.specs.Text.{Reads}
use Rattle.grammar.specs.Layout.{image_from}
use Rattle.grammar.specs.declared.read.Line.{Line}
use Rattle.text.specs.TextPromise.{TextCall}

-- what the check of an image of so many bytes comes to, where there is room for it
abbrev pub outcome : Result Image Refusal → ℕ → Result ℕ Refusal
outcome (Ok image) bytes = Ok bytes
outcome (Err why) bytes = Err why

-- the answer and what is left are those for the whole input, whichever it is, of which the buffer holds the front
pub record Whole (buffer : List ℕ) (size : ℕ) (before : List ℕ) (told : Result ℕ Refusal) (after : List ℕ) : Type 0 where
  pub all : (input : List ℕ) → Front input buffer size → TextCall input before told after
  -- there is room for every image: a text on the grammar is told what the check of its image says, and never that the buffer is too short
  pub room : (input : List ℕ) → Front input buffer size → (lines : List Line) → Reads input lines →
      told ≡ outcome (check_of (image_from lines)) (length (image_from lines))

-- what a refusal is told in, with its line feed
abbrev pub refusal_line : Refusal → List ℕ
refusal_line why = refusal_text why ++ codes "\n"

-- the one writer has grown by the image and the other stays, or the other has grown by the refusal and the one stays
abbrev pub Wrote : Result ℕ Refusal → List ℕ → Option (List ℕ) → Option (List ℕ) → Option (List ℕ) → Option (List ℕ) → Type 0
Wrote (Ok bytes) image old new old_words words = Appends old new (take bytes image) × Keeps old_words words
Wrote (Err why) image old new old_words words = Keeps old new × Appends old_words words (refusal_line why)

-- what was written is the answer for an input, which is told what the check of its image says where it is on the grammar
pub record Answers (input : List ℕ) (old new old_words words : Option (List ℕ)) : Type 0 where
  pub before : List ℕ
  pub told : Result ℕ Refusal
  pub after : List ℕ
  pub call : TextCall input before told after
  pub room : (lines : List Line) → Reads input lines → told ≡ outcome (check_of (image_from lines)) (length (image_from lines))
  pub wrote : Wrote told after old new old_words words

-- it is that for the whole input, whichever it is, of which the buffer holds the front
abbrev pub Shows : List ℕ → ℕ → Option (List ℕ) → Option (List ℕ) → Option (List ℕ) → Option (List ℕ) → Type 0
Shows buffer size old new old_words words = (input : List ℕ) → Front input buffer size → Answers input old new old_words words
