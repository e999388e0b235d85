-- `total` adds a lead at a time: at place d it has the sum of the arcs from `from` up to d.
use mathlib.Core.Path.{◌≡◌}
use native.Mathlib.Omega.{arith}
use Rattle.tables.specs.Inside.Net.{times_of}
use Rattle.timing.proofs.WalkBackArcs.{leads_more}
use Rattle.timing.proofs.web.Web.total.Goals as goal

pub loop-d-preserved : goal.loop-d-preserved
loop-d-preserved c =
    let lead = times_of c.args.self.now.lead.now in
    let arc = times_of c.args.walk.now.trail in
    let e : c.from-sum.result ≡ lead (arc c.loop-d.d) = rw c.from.ensures at c.from-sum.ensures in
    record {
      value = omega (arith, leads_more arc lead c.args.from c.loop-d.d c.loop-d.auto.d, e, c.loop-d.invariant.value);
      upper_bound = omega arith;
    }
