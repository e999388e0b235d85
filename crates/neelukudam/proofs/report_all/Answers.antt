-- The report of what was read is the report of the whole input.
use native.Mathlib.Omega.{arith}
use Rattle.neelukudam.proofs.Whole.{whole}
use Rattle.neelukudam.proofs.report_all.Goals as goal

pub returns : goal.returns
returns c = whole _ _ (omega arith) c.report.ensures
