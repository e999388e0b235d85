-- `write_arcs`: the lines of the arcs so far are written.
use Rattle.std.proofs.Common.{◌≡◌}
use Rattle.report.specs.Text.{each, arc_line}
use Rattle.report.specs.Inside.Page.{sheet, ◌then◌}
use Rattle.report.proofs.page.Page.write_arcs.Given as goal

abbrev pub invariant-loop-arc : goal.invariant-loop-arc
invariant-loop-arc l = sheet l.self ≡ sheet l.initial.self then each (arc_line l.arcs) l.arc-index
