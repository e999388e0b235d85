-- `begin` fills the table from the front.
use Rattle.tables.specs.Inside.Net.{times_of}
use Rattle.tables.specs.Inside.Ranks.{first_rank}
use Rattle.tables.specs.Inside.Filled.{Filled}
use Rattle.tables.specs.Inside.Sizes.{NODES}
use Rattle.timing.proofs.ranks.Settled.begin.Given as goal

abbrev pub invariant-loop-i : goal.invariant-loop-i
invariant-loop-i l = Filled NODES (first_rank (times_of l.self.launch.now) (times_of l.self.departs.now)) l.ranks l.i
