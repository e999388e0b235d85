-- `tell_loop` writes the pieces of a growing loop, one after the other.
use native.Mathlib.Omega.{arith}
use Rattle.std.proofs.Common.{rules, [], ◌∷◌}
use Rattle.report.specs.Ascii.{ascii}
use Rattle.report.specs.Inside.Pieces.{counted, gained, end}
use Rattle.report.specs.Inside.Page.{sheet}
use Rattle.report.proofs.Rows.{arcs_are}
use Rattle.report.proofs.Writes.{Steps, word_wrote, last, step, steps_room, steps_told}
use Rattle.report.proofs.report_call.tell_loop.Goals as goal

pub end_line-requires : goal.end_line-requires
end_line-requires c =
    let gain = word_wrote gained c.args.gain (sheet c.write_number.new.self) c.ranges.gain c.write_gain.ensures in
    let written : Steps (sheet c.new-page.result) (ascii "loop" ∷ counted c.args.count ∷ gained c.args.gain ∷ []) (sheet c.write_gain.new.self) =
    step c.write.ensures (step c.write_number.ensures (step gain last)) in
    omega (arith, c.requires.arcs_in_bounds, steps_room c.new-page.ensures written)

pub write_arcs-requires : goal.write_arcs-requires
write_arcs-requires c =
    let gain = word_wrote gained c.args.gain (sheet c.write_number.new.self) c.ranges.gain c.write_gain.ensures in
    let written : Steps (sheet c.new-page.result) (ascii "loop" ∷ counted c.args.count ∷ gained c.args.gain ∷ end ∷ []) (sheet c.end_line.new.self) =
    step c.write.ensures (step c.write_number.ensures (step gain (step c.end_line.ensures last))) in
    rw (arcs_are c.args.arcs.now c.args.count c.requires.count_in_bounds) (omega (arith, c.requires.arcs_in_bounds, steps_room c.new-page.ensures written))

pub returns : goal.returns
returns c =
    let gain = word_wrote gained c.args.gain (sheet c.write_number.new.self) c.ranges.gain c.write_gain.ensures in
    let arcs = rw (arcs_are c.args.arcs.now c.args.count c.requires.count_in_bounds) at c.write_arcs.ensures in
    let written = step c.write.ensures (step c.write_number.ensures (step gain (step c.end_line.ensures (step arcs last)))) in
    steps_told c.new-page.ensures written c.finish.ensures.sized c.finish.ensures.left (search rules)
