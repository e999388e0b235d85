-- `rises_to` goes by what the synchronizer is: only a latch that an arc enters is raised to its arrival.
use mathlib.Core.Path.{◌≡◌, sym}
use native.Mathlib.Omega.{arith}
use Rattle.tables.specs.Inside.Net.{times_of, arrival_n}
use Rattle.tables.proofs.Trying.{raised_arc, raised_bare, raised_flop}
use Rattle.timing.specs.Inside.Web.{side_in, net_in}
use Rattle.timing.proofs.web.Web.rises_to.Goals as goal

pub returns-then-not-self-i : goal.returns-then-not-self-i
returns-then-not-self-i c = sym (raised_flop _ _ _ _ c.if-not-self-i.true)

pub returns-then-to-from : goal.returns-then-to-from
returns-then-to-from c = sym (raised_bare _ _ _ _ (omega (arith, c.if-to-from.true, c.from-from.ensures, c.from-to.ensures)))

pub returns : goal.returns
returns c =
    let s = side_in c.args.self.now in
    let n = net_in c.args.self.now in
    let D = times_of c.args.departs.now in
    let a = raised_arc s n D c.args.i c.if-not-self-i.false (omega (arith, c.if-to-from.false, c.from-from.ensures, c.from-to.ensures)) in
    let t : c.arrival.result ≡ arrival_n s n D c.args.i = rw (c.from-from.ensures, c.from-to.ensures) at c.arrival.ensures in
    rw (a, ← t) c.max.ensures
