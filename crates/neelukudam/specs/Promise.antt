-- What the program promises of the text that it prints.
use Rattle.std.specs.Prelude.{List, ℕ, take}
use Rattle.std.specs.declared.option.Option.{Option}
use Rattle.std.specs.Io.KnownBytes.{Appends}
use Rattle.image.specs.Front.{Front}
use Rattle.report.specs.Promise.{Report}

-- the text is the report of the whole input, whichever it is, of which the buffer holds the front
pub record Whole (buffer : List ℕ) (size : ℕ) (before : List ℕ) (told : ℕ) (after : List ℕ) : Type 0 where
  pub all : (input : List ℕ) → Front input buffer size → Report input before told after

-- what a writer holds has grown by the report of an input
pub record Reports (input : List ℕ) (old new : Option (List ℕ)) : Type 0 where
  pub before : List ℕ
  pub told : ℕ
  pub after : List ℕ
  pub report : Report input before told after
  pub printed : Appends old new (take told after)

-- it has grown by the report of the whole input, whichever it is, of which the buffer holds the front
abbrev pub Shows : List ℕ → ℕ → Option (List ℕ) → Option (List ℕ) → Type 0
Shows buffer size old new = (input : List ℕ) → Front input buffer size → Reports input old new
