-- `look` asks whether the rank is open, whether it is a latch, and whether an arc gives its departure.
use native.Mathlib.Numerals.{add-one}
use Rattle.tables.specs.Inside.Ranks.{next, known, none}
use Rattle.tables.proofs.NearestArc.{tells_true, tells_false}
use Rattle.timing.proofs.ranks.Settled.look.Goals as goal
use Rattle.timing.proofs.ranks.Settled.look.Goals.{then-ranks-i-via-then-ranks-i, then-ranks-i-via-else-ranks-i+then-not-web-i}

pub returns-then-ranks-i : goal.returns-then-ranks-i
returns-then-ranks-i c = elim c.then-ranks-i.branch [
  | then-ranks-i-via-then-ranks-i w ↦ known w.if-ranks-i.true
  | then-ranks-i-via-else-ranks-i+then-not-web-i w ↦ none w.if-ranks-i.false (λ e g. let f = w.if-not-web-i.true in cc)
]

pub returns-then-not-gives : goal.returns-then-not-gives
returns-then-not-gives c =
    let g = rw (c.from-from.ensures, c.from-to.ensures) at c.gives.ensures in
    none c.if-ranks-i.false (λ e h. tells_false g c.if-not-gives.true h)

pub returns : goal.returns
returns c =
    let g = rw (c.from-from.ensures, c.from-to.ensures) at c.gives.ensures in
    rw add-one (next c.if-ranks-i.false c.if-not-web-i.false (tells_true g c.if-not-gives.false))
