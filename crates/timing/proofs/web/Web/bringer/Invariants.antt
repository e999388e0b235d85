-- `bringer` walks the arcs: none of those before arc a brings the time, and one does.
use mathlib.Core.Path.{◌≡◌}
use Prim.Native.Nat.{ℕ, ◌<◌, ◌≤◌}
use Rattle.tables.specs.Inside.Net.{times_of, brought}
use Rattle.timing.specs.Inside.Web.{arcs_in}
use Rattle.timing.proofs.web.Web.bringer.Given as goal

abbrev pub invariant-loop-a : goal.invariant-loop-a
invariant-loop-a l =
    (b : ℕ) → l.from ≤ b → b < l.a → brought (arcs_in l.self) (times_of l.departs) b ≡ l.time → ⊥
