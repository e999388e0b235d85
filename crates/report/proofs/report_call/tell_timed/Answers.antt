-- `tell_timed` writes the pieces of a timed circuit, one after the other.
use native.Mathlib.Omega.{arith}
use Rattle.std.proofs.Common.{rules, [], ◌∷◌}
use Rattle.report.specs.Ascii.{ascii}
use Rattle.report.specs.Inside.Pieces.{counted, end}
use Rattle.report.specs.Inside.Page.{sheet}
use Rattle.report.proofs.Rows.{rows_are}
use Rattle.report.proofs.Writes.{Steps, last, step, steps_room, steps_told}
use Rattle.report.proofs.report_call.tell_timed.Goals as goal

pub write_number-requires-3 : goal.write_number-requires-3
write_number-requires-3 c =
    let written : Steps (sheet c.new-page.result) (ascii "timed" ∷ counted c.args.l ∷ counted c.args.setups ∷ []) (sheet c.write_number-2.new.self) =
    step c.write.ensures (step c.write_number.ensures (step c.write_number-2.ensures last)) in
    omega (arith, c.requires.numbers_in_bounds, steps_room c.new-page.ensures written)

pub end_line-requires : goal.end_line-requires
end_line-requires c =
    let written : Steps (sheet c.new-page.result) (ascii "timed" ∷ counted c.args.l ∷ counted c.args.setups ∷ counted c.args.holds ∷ []) (sheet c.write_number-3.new.self) =
    step c.write.ensures (step c.write_number.ensures (step c.write_number-2.ensures (step c.write_number-3.ensures last))) in
    omega (arith, c.requires.numbers_in_bounds, steps_room c.new-page.ensures written)

pub write_rows-requires : goal.write_rows-requires
write_rows-requires c =
    let written : Steps (sheet c.new-page.result) (ascii "timed" ∷ counted c.args.l ∷ counted c.args.setups ∷ counted c.args.holds ∷ end ∷ []) (sheet c.end_line.new.self) =
    step c.write.ensures (step c.write_number.ensures (step c.write_number-2.ensures (step c.write_number-3.ensures (step c.end_line.ensures last)))) in
    rw (rows_are c.args.numbers.now c.args.l c.requires.l_in_bounds) (omega (arith, c.requires.numbers_in_bounds, steps_room c.new-page.ensures written))

pub returns : goal.returns
returns c =
    let rows = rw (rows_are c.args.numbers.now c.args.l c.requires.l_in_bounds) at c.write_rows.ensures in
    let written = step c.write.ensures (step c.write_number.ensures (step c.write_number-2.ensures (step c.write_number-3.ensures (step c.end_line.ensures (step rows last))))) in
    steps_told c.new-page.ensures written c.finish.ensures.sized c.finish.ensures.left (search rules)
