-- `arrivals_of` walks the arcs into a synchronizer twice, once for each side. Where they begin before they end, there is one.
use mathlib.Core.Path.{◌≡◌}
use Prim.Native.Nat.{◌+◌, ◌<◌, ◌≤◌}
use native.Mathlib.Omega.{arith}
use borrow.Author.Tests.{eq-eqb, ne_eqb}
use Rattle.flow.specs.Flow.{late, early}
use Rattle.tables.specs.Inside.Net.{times_of, degree, arrival_n}
use Rattle.timing.specs.Inside.Web.{net_in}
use Rattle.timing.specs.Inside.Results.{arrivals_of}
use Rattle.timing.proofs.Entering.{arrival_below, tellable}
use Rattle.timing.proofs.results.arrivals_of.Goals as goal

pub returns-then-from-to-clause-value : goal.returns-then-from-to-clause-value
unfolding arrivals_of
returns-then-from-to-clause-value c =
    rw (eq-eqb (degree (net_in c.args.sides.now.late) c.args.i) 0 (omega (arith, c.from-from.ensures, c.from-to.ensures, c.if-from-to.true)))

pub returns-clause-value : goal.returns-clause-value
unfolding arrivals_of
returns-clause-value c =
    let s = c.args.sides.now in
    let n = net_in s.late in
    let some : n.first c.args.i < n.first (c.args.i + 1) = omega (arith, s.late.shaped.rises c.args.i c.requires, c.from-from.ensures, c.from-to.ensures, c.if-from-to.false) in
    let last : c.arrival.result ≡ arrival_n late n (times_of s.later.now) c.args.i =
    rw (s.sides.0, c.from-from.ensures, c.from-to.ensures) at c.arrival.ensures in
    let first : c.arrival-2.result ≡ arrival_n early (net_in s.early) (times_of s.sooner.now) c.args.i =
    rw (s.sides.1, c.from-from.ensures, c.from-to.ensures, ← s.same.0) at c.arrival-2.ensures in
    rw (ne_eqb (degree n c.args.i) 0 (λ z. omega arith), ← last, ← first)

pub returns-clause-tellable : goal.returns-clause-tellable
returns-clause-tellable c =
    let s = c.args.sides.now in
    let i = c.args.i in
    let some : c.from-from.result < c.from-to.result =
    omega (arith, s.late.shaped.rises i c.requires, c.from-from.ensures, c.from-to.ensures, c.if-from-to.false) in
    let late_ends : c.from-to.result ≤ s.late.arcs = rw c.from-to.ensures (s.late.shaped.ends i c.requires) in
    let early_ends : c.from-to.result ≤ s.early.arcs = rw (c.from-to.ensures, ← s.same.0) (s.early.shaped.ends i (rw s.same.1 c.requires)) in
    tellable (rw c.arrival.ensures (arrival_below _ s.late s.ranged.0 _ _ some late_ends))
    (rw c.arrival-2.ensures (arrival_below _ s.early s.ranged.1 _ _ some early_ends))
