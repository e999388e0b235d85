-- `write` stores an arc at a time: after x stores the buffer has the first x arcs.
use native.Mathlib.Omega.{arith}
use Rattle.tables.specs.Inside.Net.{times_of}
use Rattle.timing.proofs.WalkBackArcs.{written_more}
use Rattle.timing.proofs.ring.Walk.write.Goals as goal

pub loop-x-preserved : goal.loop-x-preserved
loop-x-preserved c =
    let a = c.args in
    rw c.loop-x.invariant (written_more (times_of a.self.now.trail) a.high c.loop-x.x a.at a.arcs.now c.from.result (omega arith) (omega (arith, c.requires)) c.from.ensures)
