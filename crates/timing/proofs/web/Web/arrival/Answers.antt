-- `arrival` walks the arcs: what it holds at arc a is, with a cycle added, the best of the arcs before it.
use mathlib.Core.Path.{◌≡◌, sym, ap, ◌∙◌}
use Prim.Native.Nat.{ℕ, ◌-◌}
use native.Mathlib.Omega.{arith}
use Rattle.tables.specs.Inside.Net.{times_of, brought}
use Rattle.timing.specs.Inside.Web.{side_in, arcs_in}
use Rattle.tables.proofs.WalksOverArcs.{best_one, best_more, better_less, better_low, better_high}
use Rattle.timing.proofs.web.Web.arrival.Goals as goal

pub loop-a-init : goal.loop-a-init
loop-a-init c =
    let s = side_in c.args.self.now in
    let g = arcs_in c.args.self.now in
    let D = times_of c.args.departs.now in
    let e : c.laden-best.result - g.cycle ≡ brought g D c.args.from = ap (λ (y : ℕ). y - g.cycle) c.laden-best.ensures.value in
    record {
      value = e ∙ sym (best_one s g D c.args.from (omega (arith, e, c.laden-best.ensures.within)));
      raised = c.laden-best.ensures.within;
    }

pub loop-a-preserved : goal.loop-a-preserved
loop-a-preserved c =
    let s = side_in c.args.self.now in
    let g = arcs_in c.args.self.now in
    let D = times_of c.args.departs.now in
    let e : c.laden.result - g.cycle ≡ brought g D c.loop-a.a = ap (λ (y : ℕ). y - g.cycle) c.laden.ensures.value in
    record {
      value = rw (c.better-best.ensures, best_more s g D c.args.from c.loop-a.a (omega arith), ← c.loop-a.invariant.value, ← e) (better_less s _ _ g.cycle);
      raised = rw c.better-best.ensures (
        better_low s c.loop-a.invariant.raised.0 c.laden.ensures.within.0,
        better_high s c.loop-a.invariant.raised.1 c.laden.ensures.within.1,
      );
    }
