-- `write_results` goes through the synchronizers: at synchronizer i the results of those before it are written and counted.
use mathlib.Core.Path.{◌≡◌, ◌∙◌}
use Prim.Native.Nat.{suc, ◌*◌, ◌≤◌}
use native.Mathlib.Numerals.{add-one}
use native.Mathlib.Omega.{arith}
use lib.ListN.{length}
use Rattle.timing.proofs.Writing.{count_few, written_none, written_more, written_all}
use Rattle.timing.proofs.results.write_results.Goals as goal

pub loop-i-init : goal.loop-i-init
loop-i-init c = written_none

pub write_one-missed-requires-clause-setups_le_i : goal.write_one-missed-requires-clause-setups_le_i
write_one-missed-requires-clause-setups_le_i c =
    let h = c.loop-i.invariant in
    (rw h.setups (count_few _ c.loop-i.i), rw h.holds (count_few _ c.loop-i.i))

pub loop-i-preserved : goal.loop-i-preserved
loop-i-preserved c =
    let room : 6 * suc c.loop-i.i ≤ length c.args.results.now = omega (arith, c.requires.room, c.loop-i-test.true) in
    rw (add-one c.loop-i.i) (written_more room c.loop-i.invariant c.write_one-missed.ensures)

pub returns : goal.returns
returns c =
    let e : c.loop-i.i ≡ c.args.sides.now.late.nodes = omega (arith, c.loop-i-test.false, c.loop-i.auto.i-end) in
    written_all (e ∙ c.requires.writable.nodes) c.loop-i.invariant
