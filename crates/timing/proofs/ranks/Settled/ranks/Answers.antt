-- `ranks` sweeps until a sweep finds none, or as often as there are nodes.
use native.Mathlib.Omega.{arith}
use Rattle.tables.proofs.Ranking.{ranks_end, ranks_top}
use Rattle.timing.proofs.ranks.Settled.ranks.Goals as goal

pub returns-then-not-sweep : goal.returns-then-not-sweep
returns-then-not-sweep c =
    ranks_end _ _ _ c.loop-rank.rank (omega (arith, c.loop-rank-test.true, c.args.self.now.web.shaped.nodes)) c.loop-rank.ranks _ c.loop-rank.invariant.1
    c.if-not-sweep.true c.sweep.ensures

pub returns : goal.returns
returns c = ranks_top _ _ _ c.loop-rank.rank c.loop-rank.ranks (omega (arith, c.loop-rank-test.false)) c.loop-rank.invariant.1
