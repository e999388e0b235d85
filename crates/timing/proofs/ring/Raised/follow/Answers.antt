-- `follow` walks back: d arcs are noted, and the node after them.
use mathlib.Core.Path.{refl, ◌∙◌}
use Prim.Native.Nat.{◌<◌}
use native.Mathlib.Omega.{arith}
use lib.ListN.{length, length-set}
use lib.Seq.{get_or-set_same, get_or-set_other}
use borrow.Author.Count.{below_more}
use Rattle.tables.specs.Inside.Net.{times_of}
use Rattle.timing.proofs.WalkBack.{climbs_end, climbs_more}
use Rattle.timing.proofs.ring.Raised.follow.Goals as goal

pub returns-then-self-i : goal.returns-then-self-i
returns-then-self-i c =
    let p = c.loop-d.invariant in
    let room : c.loop-d.d < length c.loop-d.nodes = omega arith in
    let spot = get_or-set_same c.loop-d.nodes c.loop-d.d c.loop-d.node 0 room in
    record {
      length = c.loop-d.d;
      nodes = times_of _;
      trail = times_of _;
      walk = record {
        walk = climbs_end c.loop-d.nodes c.loop-d.trail p.climbs room;
        ends = λ h. rw spot (rw c.from-i.ensures at c.if-self-i.true);
      };
      ends = c.loop-d-test.true;
    }

pub loop-d-preserved : goal.loop-d-preserved
loop-d-preserved c =
    let p = c.loop-d.invariant in
    let room : c.loop-d.d < length c.loop-d.nodes = omega arith in
    let space : c.loop-d.d < length c.loop-d.trail = omega arith in
    let up = rw c.from-i.ensures at c.if-self-i.false in
    let parent = c.args.self.now.parents_in c.loop-d.node p.climbs.here up in
    record {
      nodes_long = length-set _ _ _ ∙ p.nodes_long;
      trail_long = length-set _ _ _ ∙ p.trail_long;
      climbs = rw (c.from.ensures, c.from-i.ensures) (climbs_more c.loop-d.nodes c.loop-d.trail p.climbs room space c.loop-d-test.true up refl parent.1);
      arcs = rw c.from-i.ensures (below_more _ c.loop-d.d
          (λ x k. rw (get_or-set_other c.loop-d.trail c.loop-d.d x _ 0 (λ q. omega arith)) (p.arcs x k))
          (rw (get_or-set_same c.loop-d.trail c.loop-d.d _ 0 space) parent.0));
    }
