-- Places of a walk back: the table that notes each node's place, with one place more.
use Rattle.std.specs.Prelude.{Option, None, Some}
use mathlib.Core.Path.{◌≡◌, sym, ap, ◌∙◌}
use mathlib.Core.List.{List}
use mathlib.Core.Logic.{◌≢◌}
use Prim.Native.Nat.{ℕ, suc, ◌+◌, ◌<◌, ◌≤◌}
use native.Mathlib.Omega.{arith}
use native.Mathlib.Decide.{ℕ_discrete}
use lib.ListN.{get_or, set, length-set, replicate, length-replicate}
use lib.Seq.{get_or-set_same, get_or-set_other}
use borrow.Author.Count.{below_none, below_more}
use Rattle.flow.proofs.Pigeonhole.{Fresh, pigeons}
use Rattle.timing.specs.Inside.Ring.{Repeats, Placed}
use Rattle.timing.proofs.Zeros.{blank_reads}
use Rattle.tables.specs.Inside.Sizes.{NODES}

module _ (node : ℕ → ℕ) where
  -- l + 1 nodes below l do not all differ
  pub fresh_few : (l : ℕ) → ((d : ℕ) → d ≤ l → node d < l) → Fresh node (l + 1) → ⊥
  fresh_few l h k =
      let t = pigeons l (suc l) node (λ i m. h i (omega arith)) (omega arith) in
      k t.second (omega (arith, t.bound)) t.first t.order t.same

module _ {node : ℕ → ℕ} where
  pub placed_none : Placed node 0 (replicate NODES None)
  placed_none = record {
    long = length-replicate {A = Option ℕ} NODES None;
    noted = below_none _;
    real = λ i x e. let blank : get_or {A = Option ℕ} (replicate NODES None) i None ≡ None = blank_reads None NODES i in let z : ⊥ = cc in absurd z;
  }

  module _ {d : ℕ} {places : List (Option ℕ)} (h : Placed node d places) where
    -- one table notes one place for a node
    pub placed_fresh : Fresh node d
    placed_fresh y l x k e =
        let o = h.noted x (omega arith) in
        let q = h.noted y l in
        let z : x ≡ y = cc (ap (λ (i : ℕ). get_or places i None) e) in
        omega arith

    -- a node that is noted comes a second time
    pub placed_twice : {l first : ℕ} → d ≤ l → get_or places (node d) None ≡ Some first → Repeats node l first d
    placed_twice {first = first} few e = let q = h.real (node d) first e in record { order = q.0; bound = few; same = q.1; fresh = placed_fresh }

    -- one that is not noted is new
    module _ (small : node d < NODES) (new : get_or places (node d) None ≡ None) where
      spot : get_or (set places (node d) (Some d)) (node d) None ≡ Some d
      spot = get_or-set_same places (node d) (Some d) None (omega (arith, h.long, small))

      kept : (i : ℕ) → i ≢ node d → get_or (set places (node d) (Some d)) i None ≡ get_or places i None
      kept i q = get_or-set_other places (node d) i (Some d) None q

      pub placed_more : Placed node (d + 1) (set places (node d) (Some d))
      placed_more = record {
        long = length-set places (node d) (Some d) ∙ h.long;
        noted = below_more _ d (λ x k. kept (node x) (λ q. let o = h.noted x k in let z : ⊥ = cc (ap (λ (i : ℕ). get_or places i None) q) in z) ∙ h.noted x k) spot;
        real = λ i x e. elim (ℕ_discrete i (node d)) [
          | yes q ↦ let z : x ≡ d = cc (spot, ap (λ (j : ℕ). get_or (set places (node d) (Some d)) j None) q) in (omega arith, rw (z, q))
          | no q ↦ let r = h.real i x (sym (kept i q) ∙ e) in (omega (arith, r.0), r.1)
        ];
      }
