-- `read_lines` takes line after line, to the end of the text or to a line at fault.
use native.Mathlib.Omega.{arith}
use Rattle.std.proofs.lemmas.Grind.{common_steps}
use Rattle.text.specs.Inside.Tally.{at_fault}
use Rattle.text.proofs.Reading.{started, empty}
use Rattle.text.proofs.text_call.read_lines.Goals as goal

pub loop-t-init : goal.loop-t-init
loop-t-init c =
    let at = c.default.ensures in
    let lines = at.1 in
    let stage = lines.1 in
    let cycle = stage.1.1 in
    let phases = cycle.1 in
    let synchronizers = phases.1 in
    rw (c.requires.1, at.0, lines.0, stage.0, cycle.0, phases.0, synchronizers.0, synchronizers.1) (started c.args.text.now)

pub returns-then-eq : goal.returns-then-eq
returns-then-eq c =
    rw c.at-then-eq.ensures
    (at_fault (empty c.args.text.now c.requires.0 c.loop-t.t _ c.loop-t.invariant c.loop-t-test.false (grind (arith, common_steps, c.if-eq.ensures))))

pub returns-in_default : goal.returns-in_default
returns-in_default c = rw c.at.ensures (at_fault c.in_default.ensures.0)
