-- What a program reads of an input that may be longer than it has room for.
use Rattle.std.specs.Prelude.{◌≡◌, List, ℕ, length, take}

-- a buffer holds the front of an input: as much as it has room for, which is so many bytes
abbrev pub Front : List ℕ → List ℕ → ℕ → Type 0
Front input buffer size = take (length buffer) input ≡ take size buffer
