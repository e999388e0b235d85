-- `back` calls itself with a synchronizer whose rank is one lower: the rank is the measure.
use Rattle.tables.specs.Inside.Net.{times_of}
use Rattle.timing.proofs.trail.Ranking.+back.Given as goal

abbrev pub decreases-back : goal.decreases-back
decreases-back l = times_of l.self.now.ranks.now l.i
