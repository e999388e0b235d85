-- `close`: where the walk goes on for as many arcs as there are synchronizers, its first closed stretch is shown.
use Rattle.timing.specs.Inside.Ring.{short, ring}
use Rattle.timing.proofs.ring.Raised.close.Goals as goal

pub returns-then-not-due : goal.returns-then-not-due
returns-then-not-due c = short (λ e. absurd (c.due.ensures c.if-not-due.true e))

pub returns-in_err-walk : goal.returns-in_err-walk
returns-in_err-walk c = rw c.from_residual.ensures (short (λ q. c.in_err-walk.ensures))

pub returns : goal.returns
returns c =
    let o = c.in_ok-walk.ensures in
    ring (record { nodes = _; trail = _; walk = o.1; turned = rw o.0 at c.show.ensures })
