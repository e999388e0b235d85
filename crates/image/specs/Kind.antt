-- The numbers of the kinds of synchronizer (docs/RULES.md).
use Rattle.std.specs.Prelude.{ℕ, if◌then◌else◌, eqb, Result, Ok, Err}
use Rattle.image.specs.declared.kind.Kind.{Kind}
use Rattle.image.specs.declared.kind.Kind.TheVariants.{Latch, FlipFlop}
use Rattle.image.specs.declared.kind.NoKind.{NoKind}

abbrev pub kind_number : Kind → ℕ
kind_number Latch = 0
kind_number FlipFlop = 1

-- the kind that a number stands for, or the number, where it stands for none
abbrev pub kind_of : ℕ → Result Kind NoKind
kind_of n = if eqb n 0 then Ok Latch else if eqb n 1 then Ok FlipFlop else Err (record { 0 = n })
