-- `write_rows`: the lines of the synchronizers so far are written.
use Prim.Native.Nat.{◌/◌}
use native.Mathlib.Numerals.{add-one}
use lib.ListN.{length}
use Rattle.report.specs.Text.{row}
use Rattle.report.specs.Inside.Page.{sheet}
use Rattle.report.proofs.Rows.{chunk_is}
use Rattle.report.proofs.Writes.{each_none, each_room, each_more}
use Rattle.report.proofs.page.Page.write_rows.Goals as goal

pub loop-i-init : goal.loop-i-init
loop-i-init c = each_none (row c.args.numbers.now) (sheet c.args.self.now)

pub write_row-requires : goal.write_row-requires
write_row-requires c =
    let count = length c.args.numbers.now / 6 in
    let below = rw c.as_chunks.ensures.front_len at c.loop-i-test.true in
    rw (c.as_chunks.ensures.front, chunk_is count c.loop-i.i c.args.numbers.now below)
    (each_room (row c.args.numbers.now) (sheet c.args.self.now) c.loop-i.i count below c.requires c.loop-i.invariant)

pub loop-i-preserved : goal.loop-i-preserved
loop-i-preserved c =
    let count = length c.args.numbers.now / 6 in
    let below = rw c.as_chunks.ensures.front_len at c.loop-i-test.true in
    let wrote = rw (c.as_chunks.ensures.front, chunk_is count c.loop-i.i c.args.numbers.now below) at c.write_row.ensures in
    rw (add-one c.loop-i.i) (each_more (row c.args.numbers.now) (sheet c.args.self.now) c.loop-i.i c.loop-i.invariant wrote)
