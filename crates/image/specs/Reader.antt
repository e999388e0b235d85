-- A reader holds the bytes of an image and a place in them, and hands out the records of a table in order. Here is what it finds at its place, and where
-- it stands afterwards, where the table ends at the byte `end`.
use Rattle.std.specs.Prelude.{ℕ, ◌+◌, if◌then◌else◌, List, Option, Some, None}
use Rattle.std.specs.Borrow.{Bor}
use Rattle.image.specs.Words.{fits_of}
use Rattle.image.specs.declared.reader.Reader.{Reader}

-- the place behind the record; at the end of the table, the same place
abbrev pub onward_of : ℕ → ℕ → ℕ → ℕ
onward_of at size end = if fits_of at size end then at + size else at

-- the record at that place, or none at the end of the table; `from` says which record starts at a byte
abbrev pub found_of : {R : Type 0} → (List ℕ → ℕ → R) → List ℕ → ℕ → ℕ → ℕ → Option R
found_of from bytes at size end = if fits_of at size end then Some (from bytes at) else None

-- a reader of those bytes, at that place
abbrev pub reader_at : Bor (List ℕ) → ℕ → Reader
reader_at bytes at = record { bytes = bytes; at = at }

-- the reader moved on: of the same bytes, behind the record that it found
abbrev pub next_of : Reader → ℕ → ℕ → Reader
next_of r size end = reader_at r.bytes (onward_of r.at size end)
