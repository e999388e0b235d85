-- `arrange`: after synchronizer i all up to it are listed, so at the end all are.
use mathlib.Core.Path.{◌≡◌}
use Prim.Native.Nat.{ℕ, ◌<◌}
use Rattle.tables.specs.Inside.Net.{times_of}
use Rattle.tables.specs.Inside.Listing.{Listed}
use Rattle.timing.proofs.order.arrange.Given as goal

abbrev pub invariant-loop-i : goal.invariant-loop-i
invariant-loop-i l = (l.walk.web.nodes ≡ l.web.nodes) × ((j : ℕ) → j < l.i → Listed (times_of l.walk.list) l.walk.count j)
