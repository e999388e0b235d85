-- The path question on the tables is the flow's. Of the arcs into a node the nearest is the last arc of a path to it; where the node has a
-- rank above 0, it is also the step back, for the arrival is then the departure.
use mathlib.Core.Path.{◌≡◌, refl, sym, ◌∙◌}
use mathlib.Core.List.{List, [], ◌∷◌, ◌++◌}
use Prim.Native.Nat.{ℕ, zero, suc, ◌<◌, ◌≤◌}
use native.Mathlib.Omega.{arith}
use lib.ListN.{length, length-append}
use Rattle.ticks.specs.Inside.Raised.{lower}
use Rattle.ticks.proofs.Order.{≤ℤ_antisym}
use Rattle.ticks.proofs.Raised.{lower-le, lower_injective}
use Rattle.flow.specs.Flow.{Flow, Good, late, brings, Fits}
use Rattle.flow.specs.Rank.{Lowest, Rank, Tight}
use Rattle.flow.specs.Path.{Brought, Last, Back, PathTo}
use Rattle.flow.proofs.Arrival.{arrival_by}
use Rattle.flow.proofs.Rank.{lowest_unique, rank_back, rank_above}
use Rattle.flow.proofs.Walks.{fits_holds}
use Rattle.tables.specs.Inside.Net.{Arcs, Net, brought, Ranged}
use Rattle.tables.specs.Inside.Models.{Models, lowered}
use Rattle.tables.specs.Inside.Trail.{Via, Trail, Stepping}
use Rattle.tables.proofs.Models.{brought_lower}

-- a trail has as many arcs as it is said to have
pub trail_length : (g : Arcs) (first D R : ℕ → ℕ) (d i s : ℕ) (p : List ℕ) → Trail g first D R s d p i → length p ≡ d
trail_length g first D R zero i s p h = rw h.1
trail_length g first D R (suc d) i s p h =
    rw h.4 (length-append h.1 (h.0 ∷ []) ∙ omega (arith, trail_length g first D R d (g.source h.0) s h.1 h.3))

module _ {n : Net} {f : Flow} (good : Good f) (models : Models n f) {D : ℕ → ℕ} (R : ℕ → ℕ) (ranged : Ranged f.nodes D)
    (fits : Fits late f (lowered D)) (ranks : (i : ℕ) → i < f.nodes → Rank f (lowered D) i (R i)) where
  lowers_to : (a : ℕ) → a < f.arcs → lower (brought n.arcs D a) ≡ brings f (lowered D) a
  lowers_to = brought_lower late n good models.arcs D ranged

  -- the rank in the table is the rank
  rank_is : (a r : ℕ) → a < f.arcs → Rank f (lowered D) (f.source a) r → R (n.arcs.source a) ≡ r
  rank_is a r l h = rw (models.arcs.source a l) (lowest_unique _ _ r (ranks (f.source a) (good.leaves a l)) h)

  module _ (i : ℕ) (here : i < f.nodes) (a : ℕ) (via : Via n.arcs n.first D R i a) where
    inside : a < f.arcs
    inside = omega (arith, via.below, models.arcs.into.within i here)

    enters : f.target a ≡ i
    enters = models.arcs.into.inside i a here via.above via.below

    latest : (b : ℕ) → b < f.arcs → f.target b ≡ i → brought n.arcs D b ≤ brought n.arcs D a
    latest b l e = let k = models.arcs.into.outside i b here l e in via.latest b k.0 k.1

    -- an arc that brings as much: its time on the tables
    level : (r b : ℕ) → Brought f (lowered D) i (brings f (lowered D) a) r b → brought n.arcs D b ≡ brought n.arcs D a
    level r b h = lower_injective _ _ (lowers_to b h.here ∙ h.gives ∙ sym (lowers_to a inside))

    via_brought : Brought f (lowered D) i (brings f (lowered D) a) (R (n.arcs.source a)) a
    via_brought = record {
      here = inside;
      enters = enters;
      gives = refl;
      from = rw (models.arcs.source a inside) (ranks (f.source a) (good.leaves a inside));
    }

    via_lowest : Lowest (Brought f (lowered D) i (brings f (lowered D) a) (R (n.arcs.source a))) a
    via_lowest = record {
      holds = via_brought;
      lowest = λ b l h.
          let k = models.arcs.into.outside i b here h.here h.enters in
          omega (arith, rank_is b (R (n.arcs.source a)) h.here h.from, via.first b k.0 l (level (R (n.arcs.source a)) b h));
    }

    pub via_last : Last f (lowered D) i (R (n.arcs.source a)) a
    via_last = record {
      time = brings f (lowered D) a;
      arrives = arrival_by late f (lowered D) i a inside enters
          (λ b l e. rw (← lowers_to b l, ← lowers_to a inside) (lower-le (latest b l e)));
      least = record {
        holds = (a, via_brought);
        lowest = λ r l h.
            let b = h.0 in
            let k = models.arcs.into.outside i b here h.1.here h.1.enters in
            omega (arith, rank_is b r h.1.here h.1.from, via.least b k.0 k.1 (level r b h.1));
      };
      lowest = via_lowest;
    }

    -- from a node of rank r + 1
    module _ (r : ℕ) (higher : R i ≡ suc r) where
      rank : Rank f (lowered D) i (suc r)
      rank = rw higher at (ranks i here)

      -- the arrival is the departure: some arc gives the departure, and none gives more
      departs : brings f (lowered D) a ≡ lowered D i
      departs =
          let k = rank_back f (lowered D) i r rank in
          let t = k.1 in
          ≤ℤ_antisym
          (rw enters at (fits_holds f good (lowered D) fits a inside (rw enters t.holds)))
          (rw (← t.carries, ← lowers_to k.0 t.here, ← lowers_to a inside) (lower-le (latest k.0 t.here t.enters)))

      tight : Tight f (lowered D) i a
      tight = record { here = inside; enters = enters; holds = (rank_back f (lowered D) i r rank).1.holds; carries = departs }

      pub via_lowers : R (n.arcs.source a) ≡ r
      via_lowers =
          let k = rank_back f (lowered D) i r rank in
          let t = k.1 in
          let o = models.arcs.into.outside i k.0 here t.here t.enters in
          let e = lower_injective (brought n.arcs D k.0) (brought n.arcs D a) (lowers_to k.0 t.here ∙ t.carries ∙ sym departs ∙ sym (lowers_to a inside)) in
          omega (
            arith,
            rank_is k.0 r t.here k.2,
            via.least k.0 o.0 o.1 e,
            rank_above f (lowered D) i r rank a tight (R (n.arcs.source a)) via_brought.from.holds,
          )

      via_step : Lowest (Brought f (lowered D) i (lowered D i) r) a
      via_step = rw (departs, via_lowers) at via_lowest

  pub stepping : Stepping n.arcs n.first D R f.nodes
  stepping = record {
    entered = λ i r l e.
        let t = rank_back f (lowered D) i r (rw e at (ranks i l)) in
        let k = models.arcs.into.outside i t.0 l t.1.here t.1.enters in
        omega (arith, k.0, k.1);
    lowers = λ i r a l e via. via_lowers i l a via r e;
  }

  trail_back : (r i s : ℕ) (p : List ℕ) → i < f.nodes → R i ≡ r → Trail n.arcs n.first D R s r p i → Back f (lowered D) s r p i
  trail_back zero i s p l e h = (rw e at (ranks i l), h.0, h.1)
  trail_back (suc r) i s p l e h =
      let a = h.0 in
      let m = inside i l a h.2 in
      let x = models.arcs.source a m in (
        a,
        h.1,
        rw e at (ranks i l),
        via_step i l a h.2 r e,
        trail_back r (f.source a) s h.1 (good.leaves a m) (rw x at (via_lowers i l a h.2 r e)) (rw x at h.3),
        h.4,
      )

  -- the nearest arc into i, behind a trail to its source that is as long as the source's rank, makes the path
  pub trail_path : {i s a : ℕ} (q : List ℕ) → i < f.nodes → Via n.arcs n.first D R i a →
      Trail n.arcs n.first D R s (R (n.arcs.source a)) q (n.arcs.source a) → PathTo f (lowered D) i s (q ++ (a ∷ []))
  trail_path {i} {s} {a} q l via h =
      let m = inside i l a via in
      let x = models.arcs.source a m in
      record {
        rank = R (f.source a);
        last = a;
        before = q;
        ends = rw x at (via_last i l a via);
        back = trail_back (R (f.source a)) (f.source a) s q (good.leaves a m) refl (rw x at h);
        whole = refl;
      }
