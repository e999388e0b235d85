-- `sweep` looks at the nodes one after the other; one that has its rank stays.
use mathlib.Core.Path.{◌≡◌, refl}
use native.Mathlib.Omega.{arith}
use Rattle.std.specs.Prelude.{Bool, true, false, ◌||◌}
use Rattle.tables.specs.Inside.Ranks.{known}
use Rattle.tables.proofs.Ranking.{sweeping_more}
use Rattle.timing.proofs.WebShape.{launched_shape}
use Rattle.timing.proofs.ranks.Settled.sweep.Goals as goal
use Rattle.timing.proofs.ranks.Settled.sweep.Goals.{then-ranks-i, else-ranks-i}

or_none : (found : Bool) → (found || false) ≡ found
or_none true = refl
or_none false = refl

pub loop-i-preserved : goal.loop-i-preserved
loop-i-preserved c =
    let s = c.args.self.now in
    let shaped = launched_shape s.web s.launch.now in
    let small = c.requires.rank_bound in
    elim c.if-ranks-i.branch [
      | then-ranks-i w ↦ rw (w.found-is, w.ranks-is) (sweeping_more shaped small c.requires.ranked c.loop-i.invariant c.loop-i-test.true
          (omega (arith, s.web.shaped.nodes, c.loop-i-test.true, c.told-ranks)) w.look-found.ensures)
      | else-ranks-i w ↦ rw (w.found-is, w.ranks-is) (rw (or_none c.loop-i.found) at (sweeping_more shaped small c.requires.ranked
          c.loop-i.invariant c.loop-i-test.true (omega (arith, s.web.shaped.nodes, c.loop-i-test.true, c.told-ranks)) (known w.if-ranks-i.false)))
    ]
