-- Texts that have a reading, and one that has not: the grammar's relations hold of something, brackets and all.
use mathlib.Core.Path.{◌≡◌, refl, ap}
use mathlib.Core.List.{List, [], ◌∷◌}
use mathlib.Core.Logic.{inl}
use Prim.Native.Char.{code}
use Prim.Native.Nat.{ℕ}
use Prim.Native.String.{String, [] as none, ◌∷◌ as ◌then◌}
use native.Mathlib.Omega.{arith}
use lib.Dec.{lit≤}
use lib.ListN.{length, drop}
use Rattle.std.specs.Prelude.{None}
use Rattle.grammar.specs.Text.{start, Reads, Fault, at_line}
use Rattle.grammar.specs.Inside.Reader.{line_at}
use Rattle.grammar.specs.declared.read.Line.TheVariants.{Cycle, Phase, Synchronizer}
use Rattle.grammar.specs.declared.read.Read.{Read}
use Rattle.grammar.proofs.Computed.{reading, said, Found, begun, none_stands}

abbrev bytes : String → List ℕ
bytes none = []
bytes (c then s) = code c ∷ bytes s

-- a flip-flop whose delays are a window in series with two in parallel
abbrev written : List ℕ
written = bytes "tc 10\nphase 10 5\nflop 0 1 1 (1:2|3:4)+0:1\n"

abbrev lines : List Read
lines =
    record { line = Cycle 10; next = 6 } ∷
    record { line = Phase (record { closing = 10; active = 5 }); next = 17 } ∷
    record { line = Synchronizer (record { phase = 0; kind = 1; setup = 1; hold = 1; least = 1; greatest = 5 }); next = 42 } ∷ []

found : Found written 0 lines
unfolding reading
found = (refl, (refl, (refl, tt)))

pub reads : Reads written (said lines)
reads = record { short = lit≤ tt; stage = 2; begun = lit≤ tt; whole = begun written lines 0 0 [] start found refl }

-- a phase without its second number
abbrev cut : List ℕ
cut = bytes "tc 10\nphase 10\n"

abbrev before : List Read
before = record { line = Cycle 10; next = 6 } ∷ []

cut_found : Found cut 0 before
unfolding reading
cut_found = (refl, tt)

cut_none : line_at cut 6 ≡ None
unfolding reading
cut_none = refl

pub fails : Fault cut 1
fails = at_line (record {
  short = lit≤ tt;
  stage = 1;
  lines = said before;
  rest = drop 6 cut;
  before = begun cut before 0 0 [] start cut_found refl;
  count = refl;
  unfinished = inl (λ e. let long = ap length e in omega (arith, long));
  stuck = none_stands cut 6 1 cut_none;
})
