-- `seek`: no arc leads in, or a ring grows, or the path is traced.
use mathlib.Core.Path.{◌≡◌, sym, ◌∙◌}
use mathlib.Core.Bool.{false}
use mathlib.Core.List.{List}
use Prim.Native.Nat.{ℕ}
use native.Mathlib.Omega.{arith}
use Rattle.std.specs.Prelude.{Option, is_some}
use Rattle.timing.specs.declared.ring.Ring.{Ring}
use Rattle.timing.specs.Inside.Ring.{count_of, gain_of}
use Rattle.timing.proofs.RecordsRead.{Accepted, accepted}
use Rattle.flow.specs.Flow.{late}
use Rattle.circuit.specs.Circuit.{circuit_of}
use Rattle.tables.specs.Inside.Net.{times_of}
use Rattle.tables.specs.Inside.Passing.{Ended}
use Rattle.timing.specs.Inside.Told.{LeastTable}
use Rattle.timing.specs.Inside.Web.{side_in, net_in}
use Rattle.timing.specs.PathPromise.{unentered, growing}
use Rattle.timing.proofs.LoadedTables.{Held, shape, leads_small, held, room}
use Rattle.timing.proofs.LoadedTimes.{risen_known, risen_ring, some_arcs, no_arcs}
use Rattle.timing.proofs.LoadedPaths.{none_in, some_in, first_in, low, steps, path_found}
use Rattle.timing.proofs.path_call.seek.Goals as goal
use Rattle.timing.proofs.path_call.seek.Goals.{After-side-web}

-- of the tables of the late side
module _ (c : goal.After-side-web) where
  ok : Accepted c.args.good.now.bytes.now c.args.good.now.image
  ok = accepted c.args.good.now.good

  holds : Held late (circuit_of c.args.good.now.bytes.now) c.args.tables.now.launch c.side-web.result
  holds = held ok c.requires.loaded c.side-web.ensures

  known : (r : Option Ring) {D before after : List ℕ} →
      Ended (side_in c.side-web.result) (net_in c.side-web.result) c.side-web.result.nodes (times_of c.args.tables.now.launch) D (count_of r) (gain_of r) before
      after → is_some r ≡ false → LeastTable late (circuit_of c.args.good.now.bytes.now) D
  known r e none = (risen_known ok.valid holds e (no_arcs r none) tt).0

pub side-web-requires-clause-shaped : goal.side-web-requires-clause-shaped
side-web-requires-clause-shaped c = shape (accepted c.args.good.now.good) c.requires.loaded late

pub side-web-requires-clause-leads : goal.side-web-requires-clause-leads
side-web-requires-clause-leads c = leads_small (accepted c.args.good.now.good) c.requires.loaded late

pub bounds-web-i : goal.bounds-web-i
bounds-web-i c =
    let h = holds (goal.at.bounds-web-i c).After-side-web in
    omega (arith, h.nodes, c.side-web.result.shaped.nodes, c.requires.asked.inside)

pub bounds-web-i-2 : goal.bounds-web-i-2
bounds-web-i-2 c =
    let h = holds (goal.at.bounds-web-i-2 c).After-side-web in
    omega (arith, h.nodes, c.side-web.result.shaped.nodes, c.requires.asked.inside)

pub returns-then-web-i : goal.returns-then-web-i
returns-then-web-i c =
    let k = (goal.at.returns-then-web-i c).After-side-web in
    rw c.into.ensures (unentered c.requires.asked (none_in (ok k).valid (holds k) c.requires.asked.inside c.if-web-i.true))

pub rise-requires-clause-room : goal.rise-requires-clause-room
rise-requires-clause-room c =
    let k = (goal.at.rise-requires-clause-room c).After-side-web in
    room (ok k).valid (holds k)

pub returns-then-is_some : goal.returns-then-is_some
returns-then-is_some c =
    let k = (goal.at.returns-then-is_some c).After-side-web in
    let i = c.requires.asked.inside in
    let a = first_in (ok k).valid (holds k) i (some_in (ok k).valid (holds k) i c.if-web-i.false) in
    let some = some_arcs _ (sym c.is_some.ensures ∙ c.if-is_some.true) c.rise.ensures.counted in
    rw c.into-then-is_some.ensures (growing _ c.requires.asked a.0 a.1 ((risen_ring (ok k).valid (holds k) c.rise.ensures.ended some).grows))

pub invariant_of-settled : goal.invariant_of-settled
invariant_of-settled c =
    let k = (goal.at.invariant_of-settled c).After-side-web in
    let e = known k _ c.rise.ensures.ended (sym c.is_some.ensures ∙ c.if-is_some.false) in
    record { ranged = rw (holds k).nodes e.ranged }

pub invariant_of-ranking : goal.invariant_of-ranking
invariant_of-ranking c =
    let k = (goal.at.invariant_of-ranking c).After-side-web in
    let e = known k _ c.rise.ensures.ended (sym c.is_some.ensures ∙ c.if-is_some.false) in
    record {
      ranged = rw (holds k).nodes e.ranged;
      low = low (ok k).valid (holds k) e c.ranks-ranks.ensures;
      stepping = steps (ok k).valid (holds k) e c.ranks-ranks.ensures;
    }

pub trace-requires-clause-here : goal.trace-requires-clause-here
trace-requires-clause-here c =
    let n = (holds (goal.at.trace-requires-clause-here c).After-side-web).nodes in
    (rw n c.requires.asked.inside, omega (arith, n, c.requires.asked.arcs_fit))

pub returns : goal.returns
returns c =
    let k = (goal.at.returns c).After-side-web in
    let e = known k _ c.rise.ensures.ended (sym c.is_some.ensures ∙ c.if-is_some.false) in
    path_found (ok k).valid (holds k) e c.ranks-ranks.ensures c.requires.asked c.trace.ensures
