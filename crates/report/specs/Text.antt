-- The text of a report (docs/RULES.md, "The calls").
use Rattle.std.specs.Prelude.{List, [], ◌∷◌, ◌++◌, map, ℕ, zero, suc, ◌*◌, ℤ, take, drop, get_or, Result, Ok, Err}
use Prim.Native.Char.{code}
use Rattle.report.specs.Ascii.{ascii}
use Rattle.report.specs.Decimal.{digits, signed, result_text}
use Rattle.image.specs.Refusal.{number_of}
use Rattle.image.specs.declared.refusal.Refusal.{Refusal}
use Rattle.timing.specs.declared.timing_call.Answer.{Answer}
use Rattle.timing.specs.declared.timing_call.Answer.TheVariants.{Growing, Timed}

abbrev pub space : ℕ
space = code " "

abbrev pub feed : ℕ
feed = code "\n"

-- fields with one space before each
abbrev pub spaced : List (List ℕ) → List ℕ
spaced [] = []
spaced (field ∷ fields) = space ∷ (field ++ spaced fields)

-- a line: its first field, the others, a line feed
abbrev pub line : List ℕ → List (List ℕ) → List ℕ
line first fields = first ++ (spaced fields ++ (feed ∷ []))

-- the texts of 0 to n - 1, one after the other
unfoldable pub each : (ℕ → List ℕ) → ℕ → List ℕ
each text zero = []
each text (suc n) = each text n ++ text n

-- the line of one arc of the buffer
abbrev pub arc_line : List ℕ → ℕ → List ℕ
arc_line arcs i = line (digits (get_or arcs i 0)) []

-- the six results from a place on, each a field
abbrev pub six : List ℤ → ℕ → List (List ℕ)
six numbers first = map result_text (take 6 (drop first numbers))

-- the line of a synchronizer: its number and its six results
abbrev pub row : List ℤ → ℕ → List ℕ
row numbers i = line (digits i) (six numbers (6 * i))

-- the report of timing's answer about a circuit of l synchronizers, with the two buffers as timing left them
unfoldable pub text_of : ℕ → Result Answer Refusal → List ℤ → List ℕ → List ℕ
text_of l (Err why) numbers arcs = line (ascii "refused") (digits (number_of why.rule) ∷ digits why.«record» ∷ [])
text_of l (Ok (Growing count gain)) numbers arcs = line (ascii "loop") (digits count ∷ signed gain ∷ []) ++ each (arc_line arcs) count
text_of l (Ok (Timed setups holds)) numbers arcs = line (ascii "timed") (digits l ∷ digits setups ∷ digits holds ∷ []) ++ each (row numbers) l
