-- `neelukudam_report`: the report is made in a buffer that holds any, and copied if the one lent is long enough.
use Rattle.interface.proofs.Copying.{too_short, long_enough}
use Rattle.interface.proofs.calls.neelukudam_report.Goals as goal

pub returns-then-room-size : goal.returns-then-room-size
returns-then-room-size c = too_short c.report-size.ensures c.if-room-size.true

pub returns : goal.returns
returns c = long_enough c.report-size.ensures c.if-room-size.false (rw c.copy_from_slice.ensures.after)
