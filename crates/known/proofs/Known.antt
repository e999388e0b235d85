-- The known circuits hold: the list's check passes, by computation. A further circuit is a further entry of the list.
use lib.Dec.{T}
use Rattle.known.specs.Circuits.{known}
use Rattle.known.specs.Holds.{AllOf, Holds}
use Rattle.known.proofs.Outcomes.{holdings}
use Rattle.known.proofs.Computes.{computes}

passes : T (holdings known).test
unfolding computes
passes = tt

pub known_holds : AllOf Holds known
known_holds = (holdings known).sound passes
