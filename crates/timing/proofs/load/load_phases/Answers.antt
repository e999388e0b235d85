-- `load_phases` loads the phases one by one.
use mathlib.Core.Bool.{cond}
use mathlib.Core.Path.{◌≡◌, ◌∙◌}
use Prim.Native.Nat.{ℕ}
use native.Mathlib.Omega.{arith}
use lib.Dec.{eqb}
use Rattle.circuit.specs.Circuit.{Circuit, circuit_of}
use Rattle.circuit.specs.Clock.{tick}
use Rattle.timing.proofs.RecordsRead.{accepted, of_phase}
use Rattle.timing.proofs.OneMoreLoaded.{filled_more}
use Rattle.timing.proofs.load.load_phases.Goals as goal

-- the tick of a phase, from what was read of it
tick-read : (c : Circuit) (p : ℕ) {closing cycle : ℕ} → cycle ≡ c.cycle → closing ≡ c.closing p → cond (eqb closing cycle) 0 closing ≡ tick c p
unfolding tick
tick-read c p n e = rw (n, e)

pub loop-p-preserved : goal.loop-p-preserved
loop-p-preserved c =
    let a = accepted c.args.good.now.good in
    let h = of_phase _ _ a.same c.read-phase.ensures in (
      filled_more c.loop-p.invariant.0 (omega arith) (c.tick.ensures ∙ tick-read _ _ a.counts.cycle h.closing),
      filled_more c.loop-p.invariant.1 (omega arith) h.active,
    )

pub returns : goal.returns
returns c =
    let n : c.loop-p.p ≡ (circuit_of c.args.good.now.bytes.now).phases = omega (arith, (accepted c.args.good.now.good).counts.phases) in
    record { ticks_filled = rw n at c.loop-p.invariant.0; active_filled = rw n at c.loop-p.invariant.1 }
