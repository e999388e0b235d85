-- The numbers of refusal of docs/RULES.md, and what a refusal is told in.
use Rattle.std.specs.Prelude.{List, ◌++◌, ℕ, codes}
use Rattle.std.specs.Fmt.{decimal}
use Rattle.image.specs.declared.refusal.Rule.{Rule}
use Rattle.image.specs.declared.refusal.Rule.TheVariants as by
use Rattle.image.specs.declared.refusal.Refusal.{Refusal}

abbrev pub number_of : Rule → ℕ
number_of by.Length = 1
number_of by.Version = 2
number_of by.Cycle = 3
number_of by.Counts = 4
number_of by.Layout = 5
number_of by.Phases = 6
number_of by.Synchronizers = 7
number_of by.Arcs = 8
number_of by.Order = 9
number_of by.ResultBuffer = 10
number_of by.ArcBuffer = 11
number_of by.NoSynchronizer = 12
number_of by.NothingEnters = 13
number_of by.GrowingLoop = 14
number_of by.Text = 15
number_of by.ImageBuffer = 16

-- by a rule, with the record at fault
abbrev pub refusal : Rule → ℕ → Refusal
refusal rule culprit = record { rule = rule; «record» = culprit }

abbrev pub refusal_text : Refusal → List ℕ
refusal_text given = codes "refused " ++ decimal (number_of given.rule) ++ codes " " ++ decimal given.«record»
