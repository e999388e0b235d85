-- `write_results` goes through the synchronizers: at synchronizer i the results of those before it are written and counted.
use Rattle.circuit.specs.Circuit.{circuit_of}
use Rattle.tables.specs.Inside.Net.{times_of}
use Rattle.tables.specs.Inside.Models.{lowered}
use Rattle.timing.proofs.Writing.{WrittenTo}
use Rattle.timing.proofs.results.write_results.Given as goal

abbrev pub invariant-loop-i : goal.invariant-loop-i
invariant-loop-i l = WrittenTo (circuit_of l.good.bytes.now) (lowered (times_of l.sides.later.now)) (lowered (times_of l.sides.sooner.now)) l.i l.initial.results l.results l.missed
