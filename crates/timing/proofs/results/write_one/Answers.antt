-- `write_one` reads a synchronizer, walks the arcs into it, and stores and counts what that gives.
use native.Mathlib.Omega.{arith}
use borrow.Author.Rules.{rules}
use Rattle.timing.proofs.RecordsRead.{accepted}
use Rattle.timing.proofs.Writing.{added}
use Rattle.timing.proofs.results.write_one.Goals as goal

pub returns : goal.returns
returns c =
    let i = c.args.i in
    let h = c.requires in
    rw c.copy_from_slice.ensures.after (added (accepted c.args.good.now.good) h.writable i h.here c.read-s.ensures c.arrivals_of-arrivals.ensures.value (search rules) (search rules)
    c.six-numbers.ensures (omega arith) (omega (arith, h.room, h.here)) (search rules) (search rules))
