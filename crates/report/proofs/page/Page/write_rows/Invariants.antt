-- `write_rows`: the lines of the synchronizers so far are written.
use Rattle.std.proofs.Common.{◌≡◌}
use Rattle.report.specs.Text.{each, row}
use Rattle.report.specs.Inside.Page.{sheet, ◌then◌}
use Rattle.report.proofs.page.Page.write_rows.Given as goal

abbrev pub invariant-loop-i : goal.invariant-loop-i
invariant-loop-i l = sheet l.self ≡ sheet l.initial.self then each (row l.numbers) l.i
