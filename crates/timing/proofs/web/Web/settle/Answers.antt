-- `settle`: passes go on from one another, and each takes its share of the room.
use Prim.Native.Nat.{◌+◌, ◌-◌, ◌*◌}
use native.Mathlib.Omega.{arith}
use Rattle.tables.proofs.Orders.{order_all, order_turned}
use Rattle.tables.proofs.Raising.{room_less}
use Rattle.tables.proofs.Passes.{sweep_still, sweep_back}
use Rattle.tables.specs.Inside.Sizes.{GROWS, NODES, RAISES}
use Rattle.timing.proofs.Sweepable.{sweepable}
use Rattle.timing.proofs.web.Web.settle.Goals as goal

pub returns-in-None : goal.returns-in-None
returns-in-None c =
    let w = c.args.self.now in
    let o = c.in-None.ensures.swept in
    record {
      long = o.swept.long;
      onward = λ launch k. o.swept.onward launch (c.loop-n.invariant.onward launch k);
      room = o.swept.room GROWS (room_less (GROWS + w.nodes) (omega (arith, w.shaped.nodes, c.loop-n-test.true)) c.loop-n.invariant.room);
      still = λ e. sweep_still (sweepable w) (order_turned c.loop-n.forth (order_all w.nodes)) o.swept (o.same (omega arith));
    }

pub loop-n-preserved : goal.loop-n-preserved
loop-n-preserved c =
    let w = c.args.self.now in
    let o = c.in-Some.ensures.swept in
    let b = RAISES - (c.loop-n._n + 1) * NODES in
    record {
      long = o.swept.long;
      onward = λ launch k. o.swept.onward launch (c.loop-n.invariant.onward launch k);
      room = o.swept.room b (room_less (b + w.nodes) (omega (arith, w.shaped.nodes, c.loop-n-test.true)) c.loop-n.invariant.room);
      few = omega arith;
      rested = sweep_back (sweepable w) c.loop-n.forth c.in-Some.ensures.below o;
    }
