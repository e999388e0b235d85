-- `write_times`: the results so far are written.
use Rattle.std.proofs.Common.{◌≡◌}
use Rattle.report.specs.Text.{each}
use Rattle.report.specs.Inside.Page.{sheet, ◌then◌}
use Rattle.report.proofs.Rows.{field}
use Rattle.report.proofs.page.Page.write_times.Given as goal

abbrev pub invariant-loop-time : goal.invariant-loop-time
invariant-loop-time l = sheet l.self ≡ sheet l.initial.self then each (field l.times) l.time-index
