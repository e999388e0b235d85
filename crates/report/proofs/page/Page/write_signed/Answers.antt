-- `write_signed`: a dash and the distance from zero, or the number itself.
use mathlib.Core.Path.{ap}
use mathlib.Core.List.{[], ◌∷◌}
use native.Mathlib.Omega.{arith}
use lib.IntN.{nat_abs}
use lib.ListN.{length, length-drop}
use Rattle.ticks.proofs.Words.{worded}
use Rattle.report.specs.Decimal.{dash, digits}
use Rattle.report.specs.Inside.Page.{Sheet, sheet}
use Rattle.report.proofs.Signs.{below, above}
use Rattle.report.proofs.Writes.{sheet_then}
use Rattle.report.proofs.page.Page.write_signed.Goals as goal

pub write-requires : goal.write-requires
write-requires c = let room = rw (below c.args.z c.ranges.z c.if-z-lt0.true) at c.requires in omega (arith, room)

pub write_digits-requires : goal.write_digits-requires
write_digits-requires c =
    let room = rw (below c.args.z c.ranges.z c.if-z-lt0.true) at c.requires in
    let left = ap (λ (s : Sheet). length s.rest) c.write.ensures in
    rw c.unsigned_abs.ensures.value (omega (arith, room, left, length-drop 1 (sheet c.args.self.now).rest))

pub write_digits-requires-else-z-lt0 : goal.write_digits-requires-else-z-lt0
write_digits-requires-else-z-lt0 c = rw (above c.args.z c.ranges.z c.if-z-lt0.false) at c.requires

pub returns-then-z-lt0 : goal.returns-then-z-lt0
returns-then-z-lt0 c =
    let digits_are = rw c.unsigned_abs.ensures.value at c.write_digits.ensures in
    rw (below c.args.z c.ranges.z c.if-z-lt0.true)
    (sheet_then (sheet c.args.self.now) (dash ∷ []) (digits (nat_abs (worded c.args.z))) c.write.ensures digits_are)

pub returns-else-z-lt0 : goal.returns-else-z-lt0
returns-else-z-lt0 c = rw (above c.args.z c.ranges.z c.if-z-lt0.false) c.write_digits-else-z-lt0.ensures
