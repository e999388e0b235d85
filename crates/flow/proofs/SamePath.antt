-- Paths depend only on what a flow says of its nodes and arcs, and on the departures of the nodes: so two least solutions have the
-- same paths.
use mathlib.Core.Path.{◌≡◌, ◌∙◌}
use mathlib.Core.List.{List}
use Prim.Native.Nat.{ℕ, zero, suc, ◌<◌}
use lib.IntN.{ℤ}
use Rattle.flow.specs.Flow.{Flow, Good, late, Least}
use Rattle.flow.specs.Inside.Within.{Agree}
use Rattle.flow.specs.Inside.Same.{Same}
use Rattle.flow.specs.Path.{Brought, Last, Back, PathTo}
use Rattle.flow.proofs.Rounds.{least_unique}
use Rattle.flow.proofs.Agree.{agree_self, agree_back, same_self, same_sym, same_good, lowest_same, rank_same}
use Rattle.flow.proofs.Arrival.{brings_same, arrival_same}
use Rattle.flow.proofs.Path.{path_unique}

brought_agree : (f g : Flow) → Good f → Same f g → (D E : ℕ → ℤ) → Agree f D E →
    (i : ℕ) (t : ℤ) (r a : ℕ) → Brought f D i t r a → Brought g E i t r a
brought_agree f g good same D E agree i t r a h =
    let from = rank_same f g good same D E agree (f.source a) (good.leaves a h.here) r h.from in
    record {
      here = rw same.arcs h.here;
      enters = same.target a h.here ∙ h.enters;
      gives = brings_same f g good same D E agree a h.here ∙ h.gives;
      from = rw (same.source a h.here) from;
    }

module _ (f g : Flow) (good : Good f) (same : Same f g) (D E : ℕ → ℤ) (agree : Agree f D E) where
  to : (i : ℕ) (t : ℤ) (r a : ℕ) → Brought f D i t r a → Brought g E i t r a
  to = brought_agree f g good same D E agree

  from : (i : ℕ) (t : ℤ) (r a : ℕ) → Brought g E i t r a → Brought f D i t r a
  from = brought_agree g f (same_good f g good same) (same_sym f g same) E D (agree_back f g same D E agree)

  last_agree : (i r a : ℕ) → Last f D i r a → Last g E i r a
  last_agree i r a h =
      let t = h.time in
      record {
        time = t;
        arrives = arrival_same f g good same D E agree late i ∙ h.arrives;
        least = lowest_same _ _ r (λ m x. (x.0, to i t m x.0 x.1)) (λ m x. (x.0, from i t m x.0 x.1)) h.least;
        lowest = lowest_same _ _ a (to i t r) (from i t r) h.lowest;
      }

  back_agree : (r i s : ℕ) (p : List ℕ) → i < f.nodes → Back f D s r p i → Back g E s r p i
  back_agree zero i s p l h = (rank_same f g good same D E agree i l zero h.0, h.1, h.2)
  back_agree (suc r) i s p l h =
      let a = h.0 in
      let low = lowest_same _ _ a (to i (D i) r) (from i (D i) r) h.3 in
      let k = h.3.holds.here in
      let back = back_agree r (f.source a) s h.1 (good.leaves a k) h.4 in
      (a, h.1, rank_same f g good same D E agree i l (suc r) h.2, rw (agree i l) at low, rw (same.source a k) back, h.5)

  path_agree : (i s : ℕ) (p : List ℕ) → PathTo f D i s p → PathTo g E i s p
  path_agree i s p h =
      let a = h.last in
      let k = h.ends.lowest.holds.here in
      let back = back_agree h.rank (f.source a) s h.before (good.leaves a k) h.back in
      record {
        rank = h.rank;
        last = a;
        before = h.before;
        ends = last_agree i h.rank a h.ends;
        back = rw (same.source a k) back;
        whole = h.whole;
      }

-- a path of f is one of each flow that is the same at f's nodes and arcs
pub path_carried : (f g : Flow) → Good f → Same f g → (D : ℕ → ℤ) (i s : ℕ) (p : List ℕ) → PathTo f D i s p → PathTo g D i s p
path_carried f g good same D = path_agree f g good same D D (agree_self f D)

pub path_same : (f : Flow) → Good f → (D E : ℕ → ℤ) → Least late f D → Least late f E → (i s t : ℕ) (p q : List ℕ) →
    PathTo f D i s p → PathTo f E i t q → (s ≡ t) × (p ≡ q)
path_same f good D E h k i s t p q x y =
    path_unique f E i s t p q (path_agree f f good (same_self f) D E (least_unique late f D E h k) i s p x) y
