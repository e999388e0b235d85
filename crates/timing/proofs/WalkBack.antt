-- The walk back over parents, one arc more, and its end.
use mathlib.Core.Path.{◌≡◌, sym, ap, ◌∙◌}
use mathlib.Core.List.{List}
use Prim.Native.Nat.{ℕ, suc, ◌+◌, ◌<◌}
use native.Mathlib.Omega.{arith}
use native.Mathlib.Decide.{ℕ_discrete}
use lib.ListN.{length, get_or, set}
use lib.Seq.{get_or-set_same, get_or-set_other}
use Rattle.flow.specs.Flow.{Flow, Good}
use Rattle.flow.proofs.Parents.{Parent, Line}
use Rattle.tables.specs.Inside.Net.{Net, times_of, launching, Shaped, Ranged}
use Rattle.tables.specs.Inside.Models.{Models, lowered}
use Rattle.tables.specs.Inside.Parents.{Parented, Notes, noted}
use Rattle.tables.proofs.Rooting.{raised_flow}
use Rattle.timing.specs.Inside.Ring.{Climbs}

module _ {k : Notes} {l u : ℕ} where
  module _ (nodes trail : List ℕ) {d node : ℕ} (c : Climbs k l u d (times_of nodes) (times_of trail) node)
      (room : d < length nodes) where
    spot : get_or (set nodes d node) d 0 ≡ node
    spot = get_or-set_same nodes d node 0 room

    old : (x : ℕ) → x < d → get_or (set nodes d node) x 0 ≡ get_or nodes x 0
    old x k = get_or-set_other nodes d x node 0 (λ q. omega arith)

    -- the node is noted
    pub climbs_end : Climbs k l u d (times_of (set nodes d node)) (times_of trail) (get_or (set nodes d node) d 0)
    climbs_end = rw spot (record {
      few = c.few;
      here = c.here;
      start = c.start;
      begin = λ k. old 0 k ∙ c.begin k;
      small = λ x k. rw (old x k) (c.small x k);
      raised = λ x k. rw (old x k) (c.raised x k);
      arc = λ x k. rw (old x k) (c.arc x k);
      onto = λ x k. rw (old (suc x) k) (c.onto x k);
      last = c.last;
    })

    -- and so is its parent
    module _ {a : ℕ} (space : d < length trail) (more : d < l) (up : k.departs node ≡ k.base node → ⊥) (parent : a ≡ k.parents node) (inside : k.source a < l) where
      top : get_or (set trail d a) d 0 ≡ a
      top = get_or-set_same trail d a 0 space

      kept : (x : ℕ) → x < d → get_or (set trail d a) x 0 ≡ get_or trail x 0
      kept x k = get_or-set_other trail d x a 0 (λ q. omega arith)

      pub climbs_more : Climbs k l u (d + 1) (times_of (set nodes d node)) (times_of (set trail d a)) (k.source a)
      climbs_more = record {
        few = omega arith;
        here = inside;
        start = λ e. let z : ⊥ = omega arith in absurd z;
        begin = λ k. elim (ℕ_discrete d 0) [ yes q ↦ at_front q | no q ↦ old 0 (omega arith) ∙ c.begin (omega arith) ];
        small = λ x k. elim (ℕ_discrete x d) [ yes q ↦ rw (q, spot) c.here | no q ↦ rw (old x (omega arith)) (c.small x (omega arith)) ];
        raised = λ x k. elim (ℕ_discrete x d) [ yes q ↦ rw (q, spot) up | no q ↦ rw (old x (omega arith)) (c.raised x (omega arith)) ];
        arc = λ x k. elim (ℕ_discrete x d) [
          | yes q ↦ rw (q, spot, top) parent
          | no q ↦ rw (old x (omega arith), kept x (omega arith)) (c.arc x (omega arith))
        ];
        onto = λ x k. elim (ℕ_discrete (suc x) d) [
          | yes q ↦ rw (q, spot, kept x (omega arith)) (c.last x q)
          | no q ↦ rw (old (suc x) (omega arith), kept x (omega arith)) (c.onto x (omega arith))
        ];
        last = λ x k. let q : x ≡ d = omega arith in rw (q, top);
      }
        where
          at_front : d ≡ 0 → get_or (set nodes d node) 0 0 ≡ u
          at_front q = ap (λ (x : ℕ). get_or (set nodes d node) x 0) (sym q) ∙ spot ∙ c.start q

-- the walk on the tables is one of every flow that they hold
module _ {n : Net} {l m : ℕ} (shaped : Shaped n l m) {f : Flow} (good : Good f) {launch : ℕ → ℕ}
    (models : Models (launching n launch) f) (same : f.nodes ≡ l) {base D P T : ℕ → ℕ} {p : ℕ} (ranged : Ranged l D) (parented : Parented n l base D P T p) where
  pub walk_line : {u d : ℕ} {nodes trail : ℕ → ℕ} → Climbs (noted n P base D) l u d nodes trail (nodes d) →
      Line f (lowered D) T d nodes trail
  walk_line {d = d} {nodes} {trail} c = record {
    small = λ x k. elim (ℕ_discrete x d) [ yes q ↦ rw (q, same) c.here | no q ↦ rw same (c.small x (omega arith)) ];
    parent = parent;
    next = λ x k. sym (models.arcs.source (trail x) (parent x k).here)
        ∙ elim (ℕ_discrete (suc x) d) [ yes o ↦ rw o (c.last x o) | no o ↦ c.onto x (omega arith) ];
  }
    where
      parent : (x : ℕ) → x < d → Parent f (lowered D) T (nodes x) (trail x)
      parent x k = rw (c.arc x k) (raised_flow shaped good models same ranged parented (nodes x) (c.small x k) (c.raised x k))
