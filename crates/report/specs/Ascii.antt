-- Words as bytes.
use Rattle.std.specs.Prelude.{List, [], ◌∷◌, ℕ}
use Prim.Native.Char.{code}
use Prim.Native.String.{String, [] as none, ◌∷◌ as ◌then◌}

-- the characters of a text, a byte each
abbrev pub ascii : String → List ℕ
ascii none = []
ascii (c then s) = code c ∷ ascii s
