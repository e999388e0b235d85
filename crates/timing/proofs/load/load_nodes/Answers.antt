-- `load_nodes` loads the synchronizers one by one.
use mathlib.Core.Path.{◌≡◌}
use native.Mathlib.Omega.{arith}
use Rattle.circuit.specs.Circuit.{circuit_of}
use Rattle.timing.proofs.RecordsRead.{accepted}
use Rattle.timing.proofs.load.load_nodes.Goals as goal

pub returns : goal.returns
returns c =
    let n : c.loop-i.i ≡ (circuit_of c.args.good.now.bytes.now).synchronizers = omega (arith, (accepted c.args.good.now.good).counts.synchronizers) in
    record { loaded_nodes = rw n at c.loop-i.invariant.0; noted = rw n at c.loop-i.invariant.1 }
