-- `load_nodes` loads the synchronizers one by one.
use Rattle.circuit.specs.Circuit.{circuit_of}
use Rattle.tables.specs.Inside.Filled.{Filled}
use Rattle.timing.specs.Inside.Loaded.{NodesUpTo, NotedUpTo}
use Rattle.tables.specs.Inside.Sizes.{PHASES}
use Rattle.timing.proofs.load.load_nodes.Given as goal

abbrev pub invariant-loop-i : goal.invariant-loop-i
invariant-loop-i l =
    let c = circuit_of l.good.bytes.now in
    NodesUpTo l.i c l.tables.launch l.tables.latch × NotedUpTo l.i c l.notes × Filled PHASES c.active l.notes.active c.phases
