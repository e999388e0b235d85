-- `arcs_good` holds each arc against what it kept of the one before: no arc before place i breaks rule 8 or rule 9.
use mathlib.Core.Path.{◌≡◌}
use mathlib.Core.Bool.{false}
use Prim.Native.Nat.{ℕ, ◌+◌, ◌-◌, ◌<◌}
use Rattle.image.specs.Records.{arc_at}
use Rattle.image.specs.Rules.{bad_arc, bad_order}
use Rattle.image.proofs.Keys.{key_of}
use Rattle.image.proofs.rules.arcs_good.Given as goal

abbrev pub invariant-loop-i : goal.invariant-loop-i
invariant-loop-i l =
    ((j : ℕ) → j < l.i → bad_arc l.bytes l.image j ≡ false)
    × ((j : ℕ) → j < l.i → bad_order l.bytes l.image j ≡ false)
    × (0 < l.i → l.next ≡ key_of (arc_at l.bytes l.image.layout (l.i - 1)) + 1)
