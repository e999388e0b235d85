-- In a table that ends with a record, a reader at the record finds it: the record fits. And where a record was found, the table has not ended.
use mathlib.Core.Path.{◌≡◌}
use mathlib.Core.Bool.{cond}
use mathlib.Core.List.{List}
use Prim.Native.Nat.{ℕ, ◌+◌}
use native.Mathlib.Nat.{le_refl}
use borrow.Author.Tests.{le-leb}
use Rattle.std.specs.Prelude.{Option, Some, None}
use Rattle.image.specs.Reader.{found_of}

-- `place` is how the definition says where the record starts
pub lone : {R : Type 0} (from : List ℕ → ℕ → R) (bytes : List ℕ) (size : ℕ) {at place : ℕ} → at ≡ place → found_of from bytes at size (at + size) ≡ Some (from bytes place)
lone from bytes size {at} same = λ j. cond (le-leb (at + size) (at + size) (le_refl (at + size)) j) (Some (from bytes (same j))) None

-- an arm of a `match` for the end of the table is not reached where a record was found
pub never : {R : Type 0} {found : Option R} {r : R} → found ≡ Some r → found ≡ None → ⊥
never same reached = cc
