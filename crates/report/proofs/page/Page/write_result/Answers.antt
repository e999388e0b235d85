-- `write_result`: a dash for the mark, any other number as it is.
use Rattle.report.proofs.Signs.{result_mark, result_number}
use Rattle.report.proofs.page.Page.write_result.Goals as goal

pub write-requires : goal.write-requires
write-requires c = rw (result_mark c.args.z c.ranges.z c.if-z-eq-MARK.true) at c.requires

pub write_signed-requires : goal.write_signed-requires
write_signed-requires c = rw (← result_number c.args.z c.ranges.z c.if-z-eq-MARK.false) c.requires

pub returns-then-z-eq-MARK : goal.returns-then-z-eq-MARK
returns-then-z-eq-MARK c = rw (result_mark c.args.z c.ranges.z c.if-z-eq-MARK.true) c.write.ensures

pub returns-else-z-eq-MARK : goal.returns-else-z-eq-MARK
returns-else-z-eq-MARK c = rw (result_number c.args.z c.ranges.z c.if-z-eq-MARK.false) c.write_signed.ensures
