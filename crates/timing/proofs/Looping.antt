-- What is shown of a growing ring holds of every flow that the tables hold. The walk back over parents is never short after pass l: one that came to
-- its base would give no more than a round that is already passed, in the flow whose launches are the base. Its first closed stretch is a ring of
-- parents, which grows; the leads less a cycle for each arc are the flow's weights.
use mathlib.Core.Path.{◌≡◌, refl, sym, ap, ◌∙◌}
use mathlib.Core.List.{List, [], ◌∷◌}
use Prim.Native.Nat.{ℕ, zero, suc, ◌+◌, ◌-◌, ◌*◌, ◌<◌, ◌≤◌}
use native.Mathlib.Nat.{zero-mul, suc-mul}
use native.Mathlib.Omega.{arith}
use lib.IntN.{ℤ, sub_ℕ}
use lib.ListN.{length}
use Rattle.ticks.specs.Inside.Raised.{lower}
use Rattle.ticks.proofs.Ints.{ints, sum, apart}
use Rattle.ticks.proofs.Raised.{lower-lt}
use Rattle.flow.specs.Flow.{Flow, Good, Side, late, early}
use Rattle.flow.specs.Walk.{Walk, gain, Shown}
use Rattle.flow.proofs.Rounds.{rises_by}
use Rattle.flow.proofs.Closing.{ring_every}
use Rattle.flow.proofs.Parents.{Line, line_steps, line_ring, line_round}
use Rattle.tables.specs.Inside.Net.{Net, times_of, launching, Ranged}
use Rattle.tables.specs.Inside.Models.{Models, lowered}
use Rattle.tables.specs.Inside.Raise.{Passed, Sweepable}
use Rattle.tables.specs.Inside.Parents.{Course, noted}
use Rattle.tables.specs.Inside.Listing.{Order}
use Rattle.tables.specs.Inside.Passing.{Onward, Passing, Climbing, OfFlows, Never, Ended, ringed}
use Rattle.tables.proofs.Raising.{passed_round, room_ranged}
use Rattle.tables.proofs.Climbing.{climb_more, climb_calm}
use Rattle.std.specs.Prelude.{Option, None, Some}
use Rattle.timing.specs.declared.ring.Ring.{Ring}
use Rattle.timing.specs.Inside.Ring.{leads, turned, Climbs, Looped, Short, Closed, short, ring}
use Rattle.timing.proofs.WalkBackArcs.{turned_length}
use Rattle.timing.proofs.WalkBack.{walk_line}

module _ {n : Net} {l : ℕ} (t : Sweepable n l) {base D P : ℕ → ℕ} (course : Course n l base D P) (ranged : Ranged l D) where
  module _ {launch : ℕ → ℕ} {f : Flow} (good : Good f) (models : Models (launching n launch) f) (same : f.nodes ≡ l) where
    line : {u d : ℕ} {nodes trail : ℕ → ℕ} → Climbs (noted n P base D) l u d nodes trail (nodes d) →
        Line f (lowered D) course.stamps d nodes trail
    line = walk_line t.shaped good models same ranged course.parented

    -- the leads of a walk, less a cycle for each arc, are its gain
    gain_leads : (p : List ℕ) (i j : ℕ) → Walk f i p j → gain f p ≡ sub_ℕ (leads n.arcs.lead p) (length p * n.arcs.cycle)
    gain_leads [] i j w = rw zero-mul
    gain_leads (a ∷ p) i j w =
        let h = gain_leads p (f.target a) j w.1 in
        let lead = n.arcs.lead in
        let cycle = n.arcs.cycle in
        rw (← models.arcs.weight a w.0.here, h, suc-mul)
        (omega (
          ints,
          apart (lead a) cycle,
          apart (leads lead p) (length p * cycle),
          apart (lead a + leads lead p) (length p * cycle + cycle),
          sum (sub_ℕ (lead a) cycle) (sub_ℕ (leads lead p) (length p * cycle)),
        ))

    pub looped_shown : {u count : ℕ} {total : ℤ} {before after : List ℕ} →
        Looped (noted n P base D) n.arcs.lead n.arcs.cycle l u count total before after → Shown f count total before after
    looped_shown o =
        let node = o.nodes in
        let arc = o.trail in
        let r = o.turned in
        let a = r.first in
        let b = r.second in
        let low = r.low in
        let path = turned arc a low b in
        let h = r.lowest.above in
        let k = r.lowest.below in
        let q = r.repeats in
        let size = turned_length arc a low b h k in
        let t = line o.walk in
        let E = lowered D in
        let grows = line_ring f E course.stamps l node arc t a b low h k q.bound q.same q.fresh in
        record {
          grows = grows;
          lowest = ring_every f l node arc (line_steps f E course.stamps l node arc t) a b low h k q.bound q.same q.fresh (λ i. node low ≤ i) r.lowest.lowest;
          counted = r.counted ∙ sym size;
          gains = r.gains
              ∙ ap (λ (x : ℕ). sub_ℕ (leads n.arcs.lead path) (x * n.arcs.cycle)) (sym size)
              ∙ sym (gain_leads path (node low) (node low) grows.ring.closed);
          written = rw size r.written;
        }

  -- the flow whose launches are the base
  abbrev based : Flow → Flow
  based f = record { nodes = f.nodes; arcs = f.arcs; source = f.source; target = f.target; weight = f.weight; launch = lowered base; latch = f.latch }

  -- after pass l, which still raised u, the walk is never short
  never_short : {k : ℕ} (u : ℕ) {E : ℕ → ℕ} → l ≡ suc k → Passed late n l base k E → u < l → E u < D u → Short (noted n P base D) l u →
      OfFlows n l (λ f launch. ⊥)
  never_short {k} u e passed here up o launch f good models same =
      let g = based f in
      let held : Models (launching n base) g = record {
        arcs = (let h = models.arcs in record { source = h.source; weight = h.weight; small = h.small; cycle = h.cycle; into = h.into });
        launch = λ i h. refl;
        latch = models.latch;
      } in
      let sound : Good g = record { leaves = good.leaves; enters = good.enters } in
      let d = o.length in
      let w = o.walk.walk in
      let z = first d w in
      let j : u < f.nodes = rw same here in
      let most = rw z at (line_round g (lowered D) course.stamps d o.nodes o.trail (line sound held same w) (ap lower (o.walk.ends o.ends)) d 0 (omega arith)) in
      let on = rises_by late g sound (k - d) d k (omega (arith, o.ends)) u j in
      let low = passed_round late t.shaped sound held same passed u j in
      omega (ints, most, on, low, lower-lt up)
    where
      first : (d : ℕ) → Climbs (noted n P base D) l u d o.nodes o.trail (o.nodes d) → o.nodes 0 ≡ u
      first zero w = w.start refl
      first (suc d) w = w.begin (omega arith)

-- what the search after a pass comes to
module _ {s : Side} {n : Net} {l : ℕ} (t : Sweepable n l) {base : ℕ → ℕ} {departs parents after parents' : List ℕ} {k last : ℕ} {node : ℕ → ℕ}
    (c : Climbing s n l base departs parents k) (more : k < l) (order : Order l node)
    (p : Passing s n l (times_of departs) (times_of parents) node l after parents' last) (here : last < l)
  where
    now_at : Climbing s n l base after parents' (k + 1)
    now_at = climb_more t c more order p

    ranged : Ranged l (times_of after)
    ranged = room_ranged now_at.room

    -- the search, from the node that was raised last
    abbrev Searched : Option Ring → List ℕ → List ℕ → Type 0
    Searched = Closed (noted n (times_of parents') base (times_of after)) n.arcs.lead n.arcs.cycle l last (k + 1)

    -- a ring was found
    pub closed_ringed : {r : Ring} {lent left : List ℕ} → Searched (Some r) lent left → Ended s n l base after r.count r.gain lent left
    closed_ringed (ring o) =
        ringed (omega (arith, o.turned.counted, o.turned.repeats.order)) (λ launch f good models same. looped_shown t now_at.course ranged good models same o)

    -- none was: the buffer stays, and after pass l that cannot be
    pub closed_open : {lent left : List ℕ} → Searched None lent left → (left ≡ lent) × (k + 1 ≡ l → Never s n l base)
    closed_open (short h) = (refl, λ q. never s c.passed now_at.onward (omega arith) (h q))
      where
        never : (s : Side) → Passed s n l base k (times_of departs) → Onward s n l base (times_of after) → l ≡ suc k →
            Short (noted n (times_of parents') base (times_of after)) l last → Never s n l base
        never late passed on q h launch f good models same risen calm =
            never_short t now_at.course ranged last q passed here (p.rose here) h launch f good models same
        never early passed on q h launch f good models same risen calm =
            climb_calm t last q passed on here (p.rose here) launch f good models same risen calm
