-- What the call that makes an image from a text promises. Its four cases exclude each other: a line at fault; a rule that refuses the image; a
-- buffer that is too short; an image made.
use Rattle.std.specs.Prelude.{◌≡◌, List, ◌++◌, ℕ, ◌≤◌, ◌<◌, length, drop, Result, Ok, Err}
use Rattle.image.specs.Checks.{check_of}
use Rattle.image.specs.declared.header.Image.{Image}
use Rattle.image.specs.Refusal.{refusal}
use Rattle.image.specs.declared.refusal.Rule.TheVariants as by
use Rattle.image.specs.declared.refusal.Refusal.{Refusal}
use Rattle.grammar.specs.Text.{Reads, Fault}
use Rattle.grammar.specs.Layout.{image_from}
use Rattle.grammar.specs.declared.read.Line.{Line}

-- `TextCall text before X after`: lent a buffer that holds `before`, the call may answer X and leave `after` in it
pub data TextCall (text before : List ℕ) : Result ℕ Refusal → List ℕ → Type 0 where
  -- 15: the lowest line at fault
  faulty : {n : ℕ} → Fault text n → TextCall text before (Err (refusal by.Text n)) before
  -- 3, 4, 6, 7, 8, 9: as the image that the text is written to is refused
  refused : {lines : List Line} {why : Refusal} →
      Reads text lines → check_of (image_from lines) ≡ Err why → TextCall text before (Err why) before
  -- 16: the buffer is shorter than the image
  short : {lines : List Line} {image : Image} →
      Reads text lines → check_of (image_from lines) ≡ Ok image → length before < length (image_from lines) →
      TextCall text before (Err (refusal by.ImageBuffer 0)) before
  -- the image stands at the front of the buffer, and the rest stays
  made : {lines : List Line} {image : Image} →
      Reads text lines → check_of (image_from lines) ≡ Ok image → length (image_from lines) ≤ length before →
      TextCall text before (Ok (length (image_from lines))) (image_from lines ++ drop (length (image_from lines)) before)
