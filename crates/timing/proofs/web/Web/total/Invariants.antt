-- `total` adds a lead at a time: at place d it has the sum of the arcs from `from` up to d.
use mathlib.Core.Path.{◌≡◌}
use Prim.Native.Nat.{◌≤◌, ◌-◌, ◌*◌}
use Rattle.tables.specs.Inside.Net.{times_of}
use Rattle.timing.specs.Inside.Ring.{leads, route_back}
use Rattle.timing.proofs.web.Web.total.Given as goal

abbrev pub invariant-loop-d : goal.invariant-loop-d
invariant-loop-d l = record {
  value : l.sum ≡ leads (times_of l.self.lead.now) (route_back (times_of l.walk.trail) l.d (l.d - l.from));
  upper_bound : l.sum ≤ (l.d - l.from) * 4294967296;
}
