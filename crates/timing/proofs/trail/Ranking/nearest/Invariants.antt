-- `nearest` walks the arcs: it holds the nearest of those before arc a.
use Rattle.tables.specs.Inside.Net.{times_of}
use Rattle.tables.specs.Inside.Trail.{Nearest}
use Rattle.timing.specs.Inside.Web.{arcs_in}
use Rattle.timing.proofs.trail.Ranking.nearest.Given as goal

abbrev pub invariant-loop-a : goal.invariant-loop-a
invariant-loop-a l = Nearest (arcs_in l.self.web) (times_of l.self.departs.now) (times_of l.self.ranks.now) l.from l.a l.arc
