-- `write_digits`: the digits are put where the page ends.
use native.Mathlib.Omega.{arith}
use Prim.Native.Nat.{◌+◌}
use mathlib.Core.Path.{◌≡◌}
use lib.ListN.{length, length-drop}
use Rattle.report.specs.Inside.Page.{room}
use Rattle.report.proofs.Writes.{digits_fit, digits_placed}
use Rattle.report.proofs.page.Page.write_digits.Goals as goal

pub write_digits-requires : goal.write_digits-requires
write_digits-requires c =
    let page = c.args.self.now in
    let whole : page.end + room page ≡ length page.text.now = omega (arith, page.within, length-drop page.end page.text.now) in
    digits_fit c.args.n page.end c.ranges.n.fits c.digit_count.ensures c.requires whole (omega arith) (omega arith) (omega arith)

pub returns : goal.returns
returns c =
    let page = c.args.self.now in
    let wrote = c.write_digits.ensures in
    digits_placed c.args.n page.text.now c.write_digits.new.buf page.end c.digit_count.result c.write_digits.result page.text.ghost_name c.ranges.n.fits c.digit_count.ensures
    (omega (arith, c.requires, page.within, length-drop page.end page.text.now)) wrote.start wrote.written wrote.before (omega arith) (omega arith) (omega arith)
