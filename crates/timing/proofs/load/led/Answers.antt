-- `led` gives an arc's ends and its two leads: no sum leaves 32 bits, and no shift exceeds the cycle.
use Prim.Native.Nat.{◌≤◌}
use native.Mathlib.Omega.{arith}
use lib.ListN.{get_or}
use Rattle.timing.proofs.RecordsRead.{accepted}
use Rattle.timing.proofs.Leading.{Ends, ends_known, target_known, back_known, led_known}
use Rattle.timing.proofs.load.led.Goals as goal
use Rattle.timing.proofs.load.led.Goals.{After-of-arc, After-shift}

-- the phases of the arc's two ends, the tick at which the first closes, and the delays of the synchronizer that it leaves
ends : (c : goal.After-of-arc) →
    let notes = c.args.notes.now in
    let p = get_or notes.phase c.of-arc.result.from 0 in
    Ends c.args.good.now.image.cycle c.of-arc.result p (get_or notes.phase c.of-arc.result.to 0) (get_or notes.ticks p 0)
    (get_or notes.least c.of-arc.result.from 0) (get_or notes.greatest c.of-arc.result.from 0)
ends c = let a = accepted c.args.good.now.good in ends_known a.valid a.same c.requires.a_lt_arcs c.of-arc.ensures c.requires.noted

back : (c : goal.After-shift) → (c.shift.result ≤ c.args.good.now.image.cycle) × (c.args.good.now.image.cycle ≤ 1000000000)
back c = let a = accepted c.args.good.now.good in back_known a.valid a.same c.requires.a_lt_arcs c.of-arc.ensures c.requires.noted c.shift.ensures

pub bounds-notes-from : goal.bounds-notes-from
bounds-notes-from c = (ends (goal.at.bounds-notes-from c).After-of-arc).from

pub bounds-notes-to : goal.bounds-notes-to
bounds-notes-to c = (ends (goal.at.bounds-notes-to c).After-of-arc).to

pub bounds-notes-p : goal.bounds-notes-p
bounds-notes-p c = (ends (goal.at.bounds-notes-p c).After-of-arc).phases.0

pub bounds-notes-q : goal.bounds-notes-q
bounds-notes-q c = (ends (goal.at.bounds-notes-q c).After-of-arc).phases.1

pub bounds-notes-from-2 : goal.bounds-notes-from-2
bounds-notes-from-2 c = (ends (goal.at.bounds-notes-from-2 c).After-of-arc).from

pub bounds-notes-from-3 : goal.bounds-notes-from-3
bounds-notes-from-3 c = (ends (goal.at.bounds-notes-from-3 c).After-of-arc).from

pub overflow_cast-result : goal.overflow_cast-result
overflow_cast-result c = omega (arith, (ends (goal.at.overflow_cast-result c).After-of-arc).from)

pub shift-requires : goal.shift-requires
shift-requires c = (ends (goal.at.shift-requires c).After-of-arc).left

pub overflow_sub-back : goal.overflow_sub-back
overflow_sub-back c = (back (goal.at.overflow_sub-back c).After-shift).0

pub overflow_add-result : goal.overflow_add-result
overflow_add-result c = omega (arith, (ends (goal.at.overflow_add-result c).After-of-arc).late)

pub overflow_add-result-2 : goal.overflow_add-result-2
overflow_add-result-2 c = omega (arith, (ends (goal.at.overflow_add-result-2 c).After-of-arc).late, back (goal.at.overflow_add-result-2 c).After-shift)

pub overflow_add-result-3 : goal.overflow_add-result-3
overflow_add-result-3 c = omega (arith, (ends (goal.at.overflow_add-result-3 c).After-of-arc).early)

pub overflow_add-result-4 : goal.overflow_add-result-4
overflow_add-result-4 c = omega (arith, (ends (goal.at.overflow_add-result-4 c).After-of-arc).early, back (goal.at.overflow_add-result-4 c).After-shift)

pub returns : goal.returns
returns c =
    let a = accepted c.args.good.now.good in
    record {
      loaded_arc = led_known a.valid a.same c.requires.a_lt_arcs c.of-arc.ensures c.requires.noted c.shift.ensures;
      target_value = target_known a.valid a.same c.requires.a_lt_arcs c.of-arc.ensures c.requires.noted;
    }
