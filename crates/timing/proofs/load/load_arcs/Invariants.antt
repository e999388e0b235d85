-- `load_arcs` loads the arcs one by one, and enters the synchronizer of each. Past the last arc it enters all that are left.
use Rattle.circuit.specs.Circuit.{circuit_of}
use Rattle.timing.specs.Inside.Loaded.{ArcsUpTo, LoadedNodes}
use Rattle.timing.proofs.Splitting.{Entered}
use Rattle.timing.proofs.load.load_arcs.Given as goal

-- the first a arcs are loaded, and all synchronizers
abbrev pub invariant-loop-a : goal.invariant-loop-a
invariant-loop-a l =
    let c = circuit_of l.good.bytes.now in
    let t = l.tables in
    ArcsUpTo l.a c t.source t.late t.early × Entered c l.a l.entered t.first × LoadedNodes c t.launch t.latch
