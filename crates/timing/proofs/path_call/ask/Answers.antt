-- `ask` looks at the buffer's length, then at the number, in the order of the rules 11 and 12.
use native.Mathlib.Omega.{arith}
use Rattle.timing.specs.PathPromise.{few_arcs, no_such}
use Rattle.timing.proofs.RecordsRead.{accepted}
use Rattle.timing.proofs.path_call.ask.Goals as goal

pub returns-then-arcs-good : goal.returns-then-arcs-good
returns-then-arcs-good c = let a = accepted c.args.good.now.good in rw c.into.ensures (few_arcs a.good (omega (arith, a.counts.synchronizers, c.if-arcs-good.true)))

pub returns-then-synchronizer-good : goal.returns-then-synchronizer-good
returns-then-synchronizer-good c =
    let a = accepted c.args.good.now.good in
    let n = a.counts.synchronizers in
    rw c.into-then-synchronizer-good.ensures (no_such a.good (omega (arith, n, c.if-arcs-good.false)) (omega (arith, n, c.if-synchronizer-good.true)))

pub open-requires : goal.open-requires
open-requires c =
    let a = accepted c.args.good.now.good in
    let n = a.counts.synchronizers in
    record { good = a.good; arcs_fit = omega (arith, n, c.if-arcs-good.false); inside = omega (arith, n, c.if-synchronizer-good.false) }
