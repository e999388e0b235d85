-- `put` meets its contract: the two parts of the ring stand one after the other.
use Rattle.tables.specs.Inside.Net.{times_of}
use Rattle.timing.proofs.WalkBackArcs.{turned_written}
use Rattle.timing.proofs.ring.Walk.put.Goals as goal

pub returns : goal.returns
returns c =
    let s = c.args.stretch.now in
    rw (c.write-2.ensures, c.write.ensures) (turned_written (times_of c.args.self.now.trail) s.first s.low s.second s.order.0 s.order.1 c.args.arcs.now)
