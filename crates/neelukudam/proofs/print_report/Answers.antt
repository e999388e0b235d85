-- The report stands within the buffer.
use mathlib.Core.Path.{sym}
use native.Mathlib.Omega.{arith}
use lib.Seq.{length-take-le}
use Rattle.neelukudam.proofs.Whole.{within}
use Rattle.neelukudam.proofs.print_report.Goals as goal

pub slice_bounds-text-end : goal.slice_bounds-text-end
slice_bounds-text-end g c = within (omega arith) c.report_all-told.ensures

pub slice_bounds-write_all-end : goal.slice_bounds-write_all-end
slice_bounds-write_all-end g c = sym (length-take-le _ _ (within (omega arith) c.report_all-told.ensures))
