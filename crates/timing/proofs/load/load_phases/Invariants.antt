-- `load_phases` loads the phases one by one.
use Rattle.circuit.specs.Circuit.{circuit_of}
use Rattle.circuit.specs.Clock.{tick}
use Rattle.tables.specs.Inside.Filled.{Filled}
use Rattle.tables.specs.Inside.Sizes.{PHASES}
use Rattle.timing.proofs.load.load_phases.Given as goal

abbrev pub invariant-loop-p : goal.invariant-loop-p
invariant-loop-p l =
    let c = circuit_of l.good.bytes.now in
    Filled PHASES (tick c) l.notes.ticks l.p × Filled PHASES c.active l.notes.active l.p
