-- Bytes and words of an image. An image is the list of its bytes, and whatever lies past its end reads 0.
use Rattle.std.specs.Prelude.{ℕ, ◌+◌, ◌*◌, Bool, List, leb, get_or}

-- `size` bytes from a place on end no later than at `end`
abbrev pub fits_of : ℕ → ℕ → ℕ → Bool
fits_of at size end = leb (at + size) end

abbrev pub byte_at : List ℕ → ℕ → ℕ
byte_at bytes at = get_or bytes at 0

-- little-endian: the least significant byte first
abbrev pub little : ℕ → ℕ → ℕ → ℕ → ℕ
little a b c d = a + 256 * b + 65536 * c + 16777216 * d

unfoldable pub word_at : List ℕ → ℕ → ℕ
word_at bytes at = little (byte_at bytes at) (byte_at bytes (at + 1)) (byte_at bytes (at + 2)) (byte_at bytes (at + 3))
