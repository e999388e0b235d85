-- How a text is read: by functions from a place in it to what stands there and the place behind, or to `None` where it does not. The grammar
-- says what may stand; these say how it is found, and the code follows them, with `?` for each step.
use Rattle.std.specs.Prelude.{Bool, ◌&&◌, if◌then◌else◌, List, [], ◌∷◌, ℕ, zero, suc, ◌+◌, ◌-◌, ◌*◌, min, max, ltb, leb, eqb, length}
use Rattle.std.specs.Prelude.{Option, None, Some}
use Prim.Native.Char.{code}
use Rattle.image.specs.Words.{byte_at}
use Rattle.grammar.specs.Numbers.{greatest, most_digits}
use Rattle.grammar.specs.Windows.{Join, series, parallel, Form, atom, row, expression, part, between, colon, opening, closing, deepest}
use Rattle.grammar.specs.Lines.{space, tc, phase, latch, flop, arc}
use Rattle.grammar.specs.Text.{line_feed, rank}
use Rattle.grammar.specs.declared.read.Number.{Number}
use Rattle.grammar.specs.declared.read.Span.{Span}
use Rattle.grammar.specs.declared.read.Line.{Line}
use Rattle.grammar.specs.declared.read.Line.TheVariants.{Cycle, Phase, Synchronizer, Arc}
use Rattle.grammar.specs.declared.read.Read.{Read}

-- One step, and what follows where it read something. It is std's `option_and_then`, but opened only where a proof names it, so that laws find a
-- step by its form.
unfoldable pub and_then : {A B : Type 0} → Option A → (A → Option B) → Option B
and_then None f = None
and_then (Some x) f = f x

infixl 10 ◌>>=◌
abbrev pub ◌>>=◌ : {A B : Type 0} → Option A → (A → Option B) → Option B
o >>= f = and_then o f

-- the place behind a byte that is asked for
unfoldable pub behind : List ℕ → ℕ → ℕ → Option ℕ
behind bytes at c = if ltb at (length bytes) && eqb (byte_at bytes at) c then Some (at + 1) else None

-- behind a word
abbrev pub behind_all : List ℕ → List ℕ → ℕ → Option ℕ
behind_all [] bytes at = Some at
behind_all (c ∷ word) bytes at = do
  next ← behind bytes at c
  behind_all word bytes next

-- ---- numbers
abbrev pub is_digit : ℕ → Bool
is_digit c = leb (code "0") c && leb c (code "9")

-- what a digit counts
unfoldable pub digit_at : List ℕ → ℕ → Option ℕ
digit_at bytes at = if is_digit (byte_at bytes at) then Some (byte_at bytes at - code "0") else None

-- v, with the digit c behind it
abbrev pub longer : ℕ → ℕ → ℕ
longer v c = 10 * v + (c - code "0")

-- at most so many digits more, behind those of v
unfoldable pub digits_at : ℕ → List ℕ → ℕ → ℕ → Option Number
digits_at zero bytes at v = Some (record { value = v; next = at })
digits_at (suc left) bytes at v =
    if is_digit (byte_at bytes at)
    then (if leb (longer v (byte_at bytes at)) greatest then digits_at left bytes (at + 1) (longer v (byte_at bytes at)) else None)
    else Some (record { value = v; next = at })

unfoldable pub number_at : List ℕ → ℕ → Option Number
number_at bytes at = if is_digit (byte_at bytes at) then digits_at most_digits bytes at 0 else None

-- a number and the byte behind it
unfoldable pub field_at : List ℕ → ℕ → ℕ → Option Number
field_at bytes at c = do
  n ← number_at bytes at
  next ← behind bytes n.next c
  Some (record { value = n.value; next = next })

-- ---- windows
-- LO:HI
unfoldable pub ends_at : List ℕ → ℕ → Option Span
ends_at bytes at = do
  lo ← field_at bytes at colon
  hi ← number_at bytes lo.next
  if leb lo.value hi.value then Some (record { low = lo.value; high = hi.value; next = hi.next }) else None

-- a window joined to the one before; a sum whose ends are too great is none
unfoldable pub joined_span : Join → Span → Span → Option Span
joined_span series v w =
    if leb (v.low + w.low) greatest && leb (v.high + w.high) greatest
    then Some (record { low = v.low + w.low; high = v.high + w.high; next = w.next })
    else None
joined_span parallel v w = Some (record { low = min v.low w.low; high = max v.high w.high; next = w.next })

-- a window, with the byte that must stand behind it
unfoldable pub closed_at : List ℕ → Span → ℕ → Option Span
closed_at bytes w c = do
  next ← behind bytes w.next c
  Some (record { low = w.low; high = w.high; next = next })

-- what has that form, with brackets at most so deep. The first number only makes the definition end: where it is large enough, it is not
-- used up (`enough`).
unfoldable mutual
  pub span_at : ℕ → Form → ℕ → List ℕ → ℕ → Option Span
  span_at zero form depth bytes at = None
  span_at (suc fuel) atom depth bytes at =
      if eqb (byte_at bytes at) opening
      then (if eqb depth 0 then None else (span_at fuel expression (depth - 1) bytes (at + 1) >>= λ w. closed_at bytes w closing))
      else ends_at bytes at
  span_at (suc fuel) (row j) depth bytes at = do
    w ← span_at fuel (part j) depth bytes at
    rest_at fuel j depth bytes w

  -- w, and the parts that follow
  pub rest_at : ℕ → Join → ℕ → List ℕ → Span → Option Span
  rest_at zero j depth bytes w = None
  rest_at (suc fuel) j depth bytes w =
      if eqb (byte_at bytes w.next) (between j)
      then (do
        next ← span_at fuel (part j) depth bytes (w.next + 1)
        joined ← joined_span j w next
        rest_at fuel j depth bytes joined)
      else Some w

-- each form calls the one below, and brackets take a byte
abbrev pub floor : Form → ℕ
floor atom = 1
floor (row series) = 2
floor (row parallel) = 3

abbrev pub enough : Form → List ℕ → ℕ → ℕ
enough form bytes at = 3 * (length bytes - at) + floor form

-- a window, to the end of its line
unfoldable pub window_at : List ℕ → ℕ → Option Span
window_at bytes at = do
  w ← span_at (enough expression bytes at) expression deepest bytes at
  closed_at bytes w line_feed

-- ---- lines
-- behind a word and its space
unfoldable pub word_at : List ℕ → List ℕ → ℕ → Option ℕ
word_at word bytes at = do
  next ← behind_all word bytes at
  behind bytes next space

unfoldable pub cycle_at : List ℕ → ℕ → Option Read
cycle_at bytes at = do
  next ← word_at tc bytes at
  n ← field_at bytes next line_feed
  Some (record { line = Cycle n.value; next = n.next })

unfoldable pub phase_at : List ℕ → ℕ → Option Read
phase_at bytes at = do
  next ← word_at phase bytes at
  e ← field_at bytes next space
  a ← field_at bytes e.next line_feed
  Some (record { line = Phase (record { closing = e.value; active = a.value }); next = a.next })

-- the fields behind the word for a kind
unfoldable pub synchronizer_at : ℕ → List ℕ → List ℕ → ℕ → Option Read
synchronizer_at kind word bytes at = do
  next ← word_at word bytes at
  p ← field_at bytes next space
  s ← field_at bytes p.next space
  h ← field_at bytes s.next space
  w ← window_at bytes h.next
  Some (record {
    line = Synchronizer (record { phase = p.value; kind = kind; setup = s.value; hold = h.value; least = w.low; greatest = w.high });
    next = w.next;
  })

unfoldable pub arc_at : List ℕ → ℕ → Option Read
arc_at bytes at = do
  next ← word_at arc bytes at
  f ← field_at bytes next space
  t ← field_at bytes f.next space
  w ← window_at bytes t.next
  Some (record { line = Arc (record { from = f.value; to = t.value; least = w.low; greatest = w.high }); next = w.next })

-- a line and its line feed: its first byte tells its kind
unfoldable pub line_at : List ℕ → ℕ → Option Read
line_at bytes at =
    if eqb (byte_at bytes at) (code "t") then cycle_at bytes at
    else (if eqb (byte_at bytes at) (code "p") then phase_at bytes at
    else (if eqb (byte_at bytes at) (code "l") then synchronizer_at 0 latch bytes at
    else (if eqb (byte_at bytes at) (code "f") then synchronizer_at 1 flop bytes at
    else (if eqb (byte_at bytes at) (code "a") then arc_at bytes at
    else None))))

-- may a line stand next? the test of `InPlace`
abbrev pub in_place : ℕ → Line → Bool
in_place stage line = if eqb stage 0 then eqb (rank line) 0 else leb stage (rank line)
