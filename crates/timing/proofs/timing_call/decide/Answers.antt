-- `decide`: a ring is shown, which grows; or the passes of both sides settled, and the results are written.
use mathlib.Core.Path.{◌≡◌, refl, sym, ◌∙◌}
use native.Mathlib.Omega.{arith}
use borrow.Author.Rules.{rules}
use Rattle.flow.specs.Flow.{late, early}
use Rattle.circuit.specs.Circuit.{circuit_of}
use Rattle.timing.specs.TimingPromise.{growing, timed}
use Rattle.timing.specs.Inside.Told.{LeastTable}
use Rattle.timing.proofs.Slack.{out_of_word}
use Rattle.timing.proofs.RecordsRead.{Accepted, accepted}
use Rattle.timing.proofs.LoadedTables.{Held, shape, leads_small, held, room}
use Rattle.timing.proofs.LoadedTimes.{risen_known, risen_ring, risen_early}
use Rattle.timing.proofs.timing_call.decide.Goals as goal
use Rattle.timing.proofs.timing_call.decide.Goals.{After-rise-2}

-- where no ring is shown
module _ (c : goal.After-rise-2) where
  ok : Accepted c.args.good.now.bytes.now c.args.good.now.image
  ok = accepted c.args.good.now.good

  late_held : Held late (circuit_of c.args.good.now.bytes.now) c.args.tables.now.launch c.side-late.result
  late_held = held ok c.requires.loaded c.side-late.ensures

  early_held : Held early (circuit_of c.args.good.now.bytes.now) c.args.tables.now.launch c.side-early.result
  early_held = held ok c.requires.loaded c.side-early.ensures

  late_known : LeastTable late (circuit_of c.args.good.now.bytes.now) c.rise.new.departs × (c.rise.new.arcs ≡ c.args.arcs.now)
  late_known = risen_known ok.valid late_held c.in_default.ensures.ended refl tt

  early_known : LeastTable early (circuit_of c.args.good.now.bytes.now) c.rise-2.new.departs × (c.rise-2.new.arcs ≡ c.rise.new.arcs)
  early_known = risen_early ok.valid late_known.0 early_held c.rise-2.ensures.ended

pub side-late-requires-clause-shaped : goal.side-late-requires-clause-shaped
side-late-requires-clause-shaped c = shape (accepted c.args.good.now.good) c.requires.loaded late

pub side-late-requires-clause-leads : goal.side-late-requires-clause-leads
side-late-requires-clause-leads c = leads_small (accepted c.args.good.now.good) c.requires.loaded late

pub rise-requires-clause-room : goal.rise-requires-clause-room
rise-requires-clause-room c =
    let a = accepted c.args.good.now.good in
    room a.valid (held a c.requires.loaded c.side-late.ensures)

pub rise-requires-clause-buffer : goal.rise-requires-clause-buffer
rise-requires-clause-buffer c =
    omega (arith, c.side-late.ensures.nodes, (accepted c.args.good.now.good).counts.synchronizers, c.requires.served.arcs_fit)

pub returns-in-Some : goal.returns-in-Some
returns-in-Some c =
    let a = accepted c.args.good.now.good in
    rw (out_of_word c.in-Some.ring.gain (search rules))
    (growing c.requires.served (risen_ring a.valid (held a c.requires.loaded c.side-late.ensures) c.in-Some.ensures.ended c.in-Some.ensures.counted))

pub side-early-requires-clause-leads : goal.side-early-requires-clause-leads
side-early-requires-clause-leads c = leads_small (accepted c.args.good.now.good) c.requires.loaded early

pub rise-requires-2-clause-room : goal.rise-requires-2-clause-room
rise-requires-2-clause-room c =
    let a = accepted c.args.good.now.good in
    room a.valid (held a c.requires.loaded c.side-early.ensures)

pub rise-requires-2-clause-buffer : goal.rise-requires-2-clause-buffer
rise-requires-2-clause-buffer c =
    omega (arith, c.side-early.ensures.nodes, (accepted c.args.good.now.good).counts.synchronizers, c.requires.served.arcs_fit, c.rise.auto.arcs)

pub invariant_of-sides : goal.invariant_of-sides
invariant_of-sides c =
    let k = (goal.at.invariant_of-sides c).After-rise-2 in
    let l = c.side-late.ensures in
    let e = c.side-early.ensures in
    record {
      sides = (l.late, e.late);
      same = (e.first ∙ sym l.first, e.nodes ∙ sym l.nodes);
      ranged = (rw (late_held k).nodes (late_known k).0.ranged, rw (early_held k).nodes (early_known k).0.ranged);
    }

pub write_results-missed-requires-clause-writable : goal.write_results-missed-requires-clause-writable
write_results-missed-requires-clause-writable c =
    let k = (goal.at.write_results-missed-requires-clause-writable c).After-rise-2 in
    record { late = (late_held k).arcs; early = (early_held k).arcs; nodes = (late_held k).nodes }

pub write_results-missed-requires-clause-room : goal.write_results-missed-requires-clause-room
write_results-missed-requires-clause-room c =
    omega (arith, c.side-late.ensures.nodes, (accepted c.args.good.now.good).counts.synchronizers, c.requires.served.numbers_fit)

pub returns : goal.returns
returns c =
    let k = (goal.at.returns c).After-rise-2 in
    let w = c.write_results-missed.ensures in
    rw (w.setups, w.holds, w.list, (early_known k).1, (late_known k).1)
    (timed _ _ c.requires.served (record { early = (early_known k).0.least; late = (late_known k).0.least }))
