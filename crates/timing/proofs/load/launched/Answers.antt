-- `launched` gives a synchronizer's launch and kind: the opening for a latch, the cycle for a flip-flop.
use mathlib.Core.Path.{sym, ◌∙◌}
use native.Mathlib.Omega.{arith}
use Rattle.circuit.specs.Circuit.{circuit_of}
use Rattle.timing.specs.Inside.Loaded.{Launched}
use Rattle.timing.proofs.RecordsRead.{accepted}
use Rattle.timing.proofs.Launches.{phase_known, noted_known, launched_latch, launched_flop}
use Rattle.timing.proofs.load.launched.Goals as goal
use Rattle.timing.proofs.load.launched.Goals.{then-s-number, else-s-number}

pub bounds-notes-s : goal.bounds-notes-s
bounds-notes-s c = let a = accepted c.args.good.now.good in (phase_known a.valid a.same c.requires.i_lt_synchronizers c.of-s.ensures).1

pub overflow_cast-result : goal.overflow_cast-result
overflow_cast-result c =
    let a = accepted c.args.good.now.good in
    let k = (phase_known a.valid a.same c.requires.i_lt_synchronizers c.of-s.ensures).1 in record { fits = omega arith }

pub returns : goal.returns
returns c =
    let a = accepted c.args.good.now.good in
    let h = c.requires.i_lt_synchronizers in
    let launched : Launched (circuit_of c.args.good.now.bytes.now) c.args.i c.if-s-number.launch.0 c.if-s-number.launch.1 =
    elim c.if-s-number.branch [
      | then-s-number w ↦ rw w.launch-is (launched_latch a.valid a.same h c.of-s.ensures (w.if-s-number.true ∙ c.number.ensures) (c.requires.active_filled.holds _ (phase_known a.valid a.same h c.of-s.ensures).0))
      | else-s-number w ↦ rw w.launch-is (launched_flop a.valid a.same h c.of-s.ensures (λ z. w.if-s-number.false (z ∙ sym c.number.ensures)))
    ] in
    record { launched = launched; phase_value = noted_known a.valid a.same h c.of-s.ensures }
