-- `repeat` notes place after place. A node that is noted already is the repeat; the others differ, so it stops before their number is used up.
use mathlib.Core.Path.{◌≡◌}
use Prim.Native.Nat.{◌+◌, ◌<◌}
use native.Mathlib.Omega.{arith}
use Rattle.tables.specs.Inside.Net.{times_of}
use Rattle.tables.specs.Inside.Sizes.{NODES}
use Rattle.timing.proofs.WalkBackPlaces.{fresh_few, placed_none, placed_fresh, placed_twice, placed_more}
use Rattle.timing.proofs.ring.Walk.repeat.Goals as goal
use Rattle.timing.proofs.ring.Walk.repeat.Goals.{else-loop-d-test, then-loop-d-test+in_default+else-d-d-end}

pub loop-d-init : goal.loop-d-init
loop-d-init c = placed_none

pub returns-in-Some : goal.returns-in-Some
returns-in-Some c = rw c.from.ensures (placed_twice c.loop-d.invariant (omega arith) (rw (← c.from-node.ensures) c.in-Some.is))

pub loop-d-preserved : goal.loop-d-preserved
loop-d-preserved c =
    let w = c.args.self.now in
    let few : times_of w.nodes c.loop-d.d < NODES = omega (arith, w.few, w.below c.loop-d.d (omega arith)) in
    rw c.from-node.ensures (placed_more c.loop-d.invariant few (rw (← c.from-node.ensures) c.in_default.is))

pub unreachable-requires : goal.unreachable-requires
unreachable-requires c = elim c.loop-d-test.branch [
  | else-loop-d-test k ↦ omega arith
  | then-loop-d-test+in_default+else-d-d-end k ↦ (
      let w = c.args.self.now in
      let few : times_of w.nodes c.loop-d.d < NODES = omega (arith, w.few, w.below c.loop-d.d k.loop-d-test.true) in
      let p = placed_more c.loop-d.invariant few (rw (← k.from-node.ensures) k.in_default.is) in
      let e : c.loop-d.d + 1 ≡ w.length + 1 = omega arith in
      fresh_few (times_of w.nodes) w.length w.below (placed_fresh (rw e at p)))
]
