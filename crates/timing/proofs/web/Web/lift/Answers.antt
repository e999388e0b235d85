-- `lift`: a synchronizer that rises is a latch that an arc enters, and one of its arcs brings the time.
use Prim.Native.Nat.{◌<◌}
use mathlib.Core.Path.{◌∙◌}
use native.Mathlib.Omega.{arith}
use Rattle.tables.specs.Inside.Net.{times_of}
use Rattle.tables.specs.Inside.Raise.{raised, stays, rises}
use Rattle.tables.proofs.Raising.{raised_above}
use Rattle.tables.proofs.Stamping.{rising}
use Rattle.tables.proofs.Trying.{arrival_given}
use Rattle.timing.specs.Inside.Web.{side_in, net_in}
use Rattle.timing.proofs.Sweepable.{sweepable}
use Rattle.timing.proofs.web.Web.lift.Goals as goal
use Rattle.timing.proofs.web.Web.lift.Goals.{Else-time-departs}

-- past the test, the synchronizer rises
rose : (c : goal.Else-time-departs) →
    times_of c.args.departs.now c.args.i < raised (side_in c.args.self.now) (net_in c.args.self.now) (times_of c.args.departs.now) c.args.i
rose c = omega (arith, c.rises_to-time.ensures, c.if-time-departs.false)

pub returns-then-time-departs : goal.returns-then-time-departs
returns-then-time-departs c =
    let a = c.args in
    stays (omega (arith, c.if-time-departs.true, c.rises_to-time.ensures, raised_above (side_in a.self.now) a.self.now.shaped (times_of a.departs.now) a.i c.requires.here))

pub bringer-arc-requires : goal.bringer-arc-requires
bringer-arc-requires c =
    let w = c.args.self.now in
    let D = times_of c.args.departs.now in
    let i = c.args.i in
    let r = rising (side_in w) (net_in w) D i (rose (goal.at.bringer-arc-requires c).Else-time-departs) in
    record {
      here = omega (arith, c.from-to.ensures, w.shaped.ends i c.requires.here);
      ranged = c.requires.ranged;
      given = rw (c.from-from.ensures, c.from-to.ensures, c.rises_to-time.ensures ∙ r.2) (arrival_given (side_in w) (sweepable w) c.requires.ranged i c.requires.here r.1);
    }

pub returns : goal.returns
returns c =
    let w = c.args.self.now in
    let up = rose (goal.at.returns c).Else-time-departs in
    let r = rising (side_in w) (net_in w) (times_of c.args.departs.now) c.args.i up in
    let brings = rw (c.from-from.ensures, c.from-to.ensures, c.rises_to-time.ensures ∙ r.2) at c.bringer-arc.ensures in
    rw c.rises_to-time.ensures (rises c.bringer-arc.result up brings)
