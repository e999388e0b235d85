-- `write_arcs`: the lines of the arcs so far are written. What the loop goes over is only known to be equal to the arcs, so that a loop over another
-- list of them is refused for what it tells, and not for its form.
use native.Mathlib.Numerals.{add-one}
use Rattle.std.proofs.Common.{rules}
use Rattle.report.specs.Text.{arc_line}
use Rattle.report.specs.Inside.Page.{sheet}
use Rattle.report.proofs.Writes.{each_none, arcs_room, arcs_more}
use Rattle.report.proofs.page.Page.write_arcs.Goals as goal

pub loop-arc-init : goal.loop-arc-init
loop-arc-init c = each_none (arc_line c.args.arcs.now) (sheet c.args.self.now)

pub write_arc-requires : goal.write_arc-requires
write_arc-requires c = arcs_room c.args.arcs.now (sheet c.args.self.now) c.loop-arc.arc-index (search rules) c.loop-arc-test.true c.requires c.loop-arc.invariant

pub loop-arc-preserved : goal.loop-arc-preserved
loop-arc-preserved c =
    rw (add-one c.loop-arc.arc-index) (arcs_more c.args.arcs.now (sheet c.args.self.now) c.loop-arc.arc-index (search rules) c.loop-arc.invariant c.write_arc.ensures)
