-- `nearest` walks the arcs: it holds the nearest of those before arc a.
use Rattle.tables.proofs.NearestArc.{nearest_stays, nearest_moves, tells_true, tells_false}
use Rattle.timing.proofs.trail.Ranking.nearest.Goals as goal
use Rattle.timing.proofs.trail.Ranking.nearest.Goals.{then-ahead, else-ahead}

pub loop-a-preserved : goal.loop-a-preserved
loop-a-preserved c = elim c.if-ahead.branch [
  | then-ahead w ↦ rw w.arc-is (nearest_moves c.loop-a.invariant (tells_true c.ahead.ensures w.if-ahead.true))
  | else-ahead w ↦ rw w.arc-is (nearest_stays c.loop-a.invariant (tells_false c.ahead.ensures w.if-ahead.false))
]
