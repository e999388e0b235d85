-- `load_arcs` loads the arcs one by one, and enters the synchronizer of each. Past the last arc it enters all that are left.
use Prim.Native.Nat.{◌<◌}
use mathlib.Core.Path.{◌≡◌}
use native.Mathlib.Omega.{arith}
use Rattle.circuit.specs.Circuit.{circuit_of}
use Rattle.circuit.proofs.Sound.{sound}
use Rattle.timing.proofs.RecordsRead.{accepted}
use Rattle.timing.proofs.OneMoreLoaded.{arcs_more}
use Rattle.timing.proofs.Splitting.{entered_more, entered_all}
use Rattle.timing.proofs.load.load_arcs.Goals as goal
use Rattle.timing.proofs.load.load_arcs.Goals.{In-loop-a}

-- the next arc is one of the circuit's
here : (c : goal.In-loop-a) → c.loop-a.a < (circuit_of c.args.good.now.bytes.now).arcs
here c = omega (arith, (accepted c.args.good.now.good).counts.arcs, c.loop-a-test.true)

pub enter-requires : goal.enter-requires
enter-requires c =
    let v = sound _ (accepted c.args.good.now.good).valid in
    omega (arith, c.led-lead.ensures.target_value, v.to _ (here (goal.at.enter-requires c).In-loop-a), v.synchronizers)

pub loop-a-preserved : goal.loop-a-preserved
loop-a-preserved c =
    let v = sound _ (accepted c.args.good.now.good).valid in (
      arcs_more c.loop-a.invariant.0 (omega arith) c.led-lead.ensures.loaded_arc,
      entered_more v c.loop-a.invariant.1 c.enter.ensures (here (goal.at.loop-a-preserved c).In-loop-a) c.led-lead.ensures.target_value,
      c.loop-a.invariant.2,
    )

pub returns : goal.returns
returns c =
    let a = accepted c.args.good.now.good in
    let all : c.loop-a.a ≡ (circuit_of c.args.good.now.bytes.now).arcs = omega (arith, a.counts.arcs) in
    let s = rw (let e : c.args.good.now.image.arcs ≡ c.loop-a.a = omega arith in e) at c.enter-2.ensures in
    record {
      nodes = c.loop-a.invariant.2;
      arcs = rw all at c.loop-a.invariant.0;
      firsts = entered_all (sound _ a.valid) c.loop-a.invariant.1 s all a.counts.synchronizers;
    }
