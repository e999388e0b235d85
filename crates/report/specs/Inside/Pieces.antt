-- A report as the pieces that are written one after the other.
use Rattle.std.specs.Prelude.{List, [], ◌∷◌, ℕ, ℤ}
use Rattle.report.specs.Ascii.{ascii}
use Rattle.report.specs.Decimal.{digits, signed}
use Rattle.report.specs.Text.{space, feed, each, arc_line, row}

-- a space and a number
abbrev pub counted : ℕ → List ℕ
counted n = space ∷ digits n

abbrev pub gained : ℤ → List ℕ
gained z = space ∷ signed z

abbrev pub end : List ℕ
end = feed ∷ []

abbrev pub refused_pieces : ℕ → ℕ → List (List ℕ)
refused_pieces rule culprit = ascii "refused" ∷ counted rule ∷ counted culprit ∷ end ∷ []

abbrev pub loop_pieces : ℕ → ℤ → List ℕ → List (List ℕ)
loop_pieces count gain arcs = ascii "loop" ∷ counted count ∷ gained gain ∷ end ∷ each (arc_line arcs) count ∷ []

abbrev pub timed_pieces : ℕ → ℕ → ℕ → List ℤ → List (List ℕ)
timed_pieces l setups holds numbers = ascii "timed" ∷ counted l ∷ counted setups ∷ counted holds ∷ end ∷ each (row numbers) l ∷ []
