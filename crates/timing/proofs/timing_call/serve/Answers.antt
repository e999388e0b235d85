-- `serve` asks for the lengths of the buffers, in the order of the rules 10 and 11.
use native.Mathlib.Omega.{arith}
use Rattle.timing.specs.TimingPromise.{few_numbers, few_arcs}
use Rattle.timing.proofs.RecordsRead.{accepted}
use Rattle.timing.proofs.timing_call.serve.Goals as goal

pub returns-then-results-l : goal.returns-then-results-l
returns-then-results-l c = let a = accepted c.args.good.now.good in rw c.into.ensures (few_numbers a.good (omega (arith, a.counts.synchronizers, c.if-results-l.true)))

pub returns-then-arcs-l : goal.returns-then-arcs-l
returns-then-arcs-l c =
    let a = accepted c.args.good.now.good in
    let n = a.counts.synchronizers in
    rw c.into-then-arcs-l.ensures (few_arcs a.good (omega (arith, n, c.if-results-l.false)) (omega (arith, n, c.if-arcs-l.true)))

pub work-requires : goal.work-requires
work-requires c =
    let a = accepted c.args.good.now.good in
    let n = a.counts.synchronizers in
    record { good = a.good; numbers_fit = omega (arith, n, c.if-results-l.false); arcs_fit = omega (arith, n, c.if-arcs-l.false) }
