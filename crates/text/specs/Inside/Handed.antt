-- An image that is checked and handed over: as TextCall says it, of bytes that are there already.
use Rattle.std.specs.Prelude.{◌≡◌, List, ◌++◌, ℕ, ◌≤◌, ◌<◌, length, drop, Result, Ok, Err}
use Rattle.image.specs.Checks.{check_of}
use Rattle.image.specs.declared.header.Image.{Image}
use Rattle.image.specs.Refusal.{refusal}
use Rattle.image.specs.declared.refusal.Rule.TheVariants as by
use Rattle.image.specs.declared.refusal.Refusal.{Refusal}

pub data Handed (bytes before : List ℕ) : Result ℕ Refusal → List ℕ → Type 0 where
  refused : {why : Refusal} → check_of bytes ≡ Err why → Handed bytes before (Err why) before
  short : {image : Image} → check_of bytes ≡ Ok image → length before < length bytes → Handed bytes before (Err (refusal by.ImageBuffer 0)) before
  made : {image : Image} → check_of bytes ≡ Ok image → length bytes ≤ length before →
      Handed bytes before (Ok (length bytes)) (bytes ++ drop (length bytes) before)
