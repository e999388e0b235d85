-- `arrival` walks the arcs: what it holds at arc a is, with a cycle added, the best of the arcs before it.
use mathlib.Core.Path.{◌≡◌}
use Prim.Native.Nat.{◌-◌, ◌≤◌, ◌<◌}
use Rattle.ticks.specs.Inside.Raised.{RAISE, SIGNED}
use Rattle.tables.specs.Inside.Net.{times_of}
use Rattle.tables.specs.Inside.Net as walked
use Rattle.timing.specs.Inside.Web.{side_in, arcs_in}
use Rattle.timing.proofs.web.Web.arrival.Given as goal

abbrev pub invariant-loop-a : goal.invariant-loop-a
invariant-loop-a l = record {
  value : l.best - l.self.cycle ≡ walked.best (side_in l.self) (arcs_in l.self) (times_of l.departs) l.from (l.a - l.from);
  raised : (RAISE ≤ l.best) × (l.best < SIGNED);
}
