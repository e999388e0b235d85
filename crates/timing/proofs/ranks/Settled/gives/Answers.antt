-- `gives` walks the arcs: none of those before arc a is asked for.
use mathlib.Core.Path.{◌≡◌, sym, ◌∙◌}
use native.Mathlib.Omega.{arith}
use Rattle.tables.specs.Inside.Trail.{is, not}
use Rattle.tables.proofs.Ranking.{asked}
use Rattle.timing.proofs.ranks.Settled.gives.Goals as goal

pub returns-then-hits : goal.returns-then-hits
returns-then-hits c =
    let h = asked _ _ _ _ (sym c.hits.ensures ∙ c.if-hits.true) in
    is (c.loop-a.a, c.loop-a.auto.a, c.loop-a-test.true, h.0, h.1)

pub returns : goal.returns
returns c =
    let e : c.loop-a.a ≡ c.args.to = omega (arith, c.requires.from_le_to) in
    not (rw e at c.loop-a.invariant)
