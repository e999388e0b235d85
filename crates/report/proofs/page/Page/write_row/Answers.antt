-- `write_row`: the number, the results, a line feed.
use Rattle.std.proofs.Common.{[], ◌∷◌, ◌++◌, map}
use Rattle.report.specs.Decimal.{digits, result_text}
use Rattle.report.specs.Text.{feed, spaced}
use Rattle.report.specs.Inside.Page.{sheet}
use Rattle.report.proofs.Writes.{sheet_then}
use Rattle.report.proofs.page.Page.write_row.Goals as goal

pub returns : goal.returns
returns c =
    let fields = spaced (map result_text c.args.times.now) in
    let rest = sheet_then (sheet c.write_digits.new.self) fields (feed ∷ []) c.write_times.ensures c.end_line.ensures in
    sheet_then (sheet c.args.self.now) (digits c.args.i) (fields ++ (feed ∷ [])) c.write_digits.ensures rest
