-- `write_arc`: the digits, then a line feed.
use Rattle.report.proofs.Writes.{sheet_then}
use Rattle.report.proofs.page.Page.write_arc.Goals as goal

pub returns : goal.returns
returns c = sheet_then _ _ _ (rw c.into.ensures at c.write_digits.ensures) c.end_line.ensures
