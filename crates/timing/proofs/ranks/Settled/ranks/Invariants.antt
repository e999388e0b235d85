-- `ranks` sweeps until a sweep finds none, or as often as there are nodes.
use mathlib.Core.Path.{◌≡◌}
use Prim.Native.Nat.{ℕ, suc, ◌<◌}
use lib.ListN.{length, get_or}
use Rattle.tables.specs.Inside.Net.{times_of}
use Rattle.tables.specs.Inside.Ranks.{RankedTo}
use Rattle.tables.specs.Inside.Sizes.{NODES}
use Rattle.timing.specs.Inside.Web.{launched_in}
use Rattle.timing.proofs.ranks.Settled.ranks.Given as goal

abbrev pub invariant-loop-rank : goal.invariant-loop-rank
invariant-loop-rank l =
    (length l.ranks ≡ NODES)
    × ((j : ℕ) → j < l.self.web.nodes → RankedTo (launched_in l.self.web l.self.launch.now) (times_of l.self.departs.now) (suc l.rank) j (get_or l.ranks j 0))
