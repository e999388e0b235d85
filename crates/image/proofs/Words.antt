-- Words of an image: past its end a word is 0.
use mathlib.Core.Path.{◌≡◌}
use mathlib.Core.List.{List}
use Prim.Native.Nat.{ℕ, ◌+◌, ◌≤◌}
use native.Mathlib.Omega.{arith}
use lib.ListN.{length, get_or-eq_default}
use Rattle.image.specs.Words.{byte_at, word_at}

pub byte_past : (bytes : List ℕ) (at : ℕ) → length bytes ≤ at → byte_at bytes at ≡ 0
byte_past bytes at h = get_or-eq_default bytes 0 h

pub word_past : (bytes : List ℕ) (at : ℕ) → length bytes ≤ at → word_at bytes at ≡ 0
unfolding word_at
word_past bytes at h = omega (
  arith,
  byte_past bytes at h,
  byte_past bytes (at + 1) (omega arith),
  byte_past bytes (at + 2) (omega arith),
  byte_past bytes (at + 3) (omega arith),
)
