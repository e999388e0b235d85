-- Parents are kept up: a raised node gets the arc that raised it and a stamp above all others. Arcs that leave it then give more than they
-- did, so none of them gives exactly a departure.
use mathlib.Core.Path.{◌≡◌, refl, sym, ◌∙◌}
use mathlib.Core.Bool.{Bool, true, false, cond}
use mathlib.Core.List.{List}
use mathlib.Core.Logic.{◌⊎◌, inl, inr}
use Prim.Native.Nat.{ℕ, suc, ◌+◌, ◌<◌, ◌≤◌, max}
use native.Mathlib.Omega.{arith}
use native.Mathlib.Decide.{ℕ_discrete}
use lib.Dec.{eqb}
use lib.ListN.{length, set}
use lib.Seq.{get_or-set_same, get_or-set_other}
use borrow.Author.Tests.{eqb-false, eq-eqb, ne_eqb}
use Rattle.flow.specs.Flow.{Side}
use Rattle.tables.specs.Inside.Net.{Net, times_of, brought, degree, arrival_n, Shaped, Ranged}
use Rattle.tables.specs.Inside.Raise.{raised, Raise}
use Rattle.tables.specs.Inside.Parents.{ParentN, Parented, Course}

pub course_none : (n : Net) (l : ℕ) (D P : ℕ → ℕ) → Course n l D D P
course_none n l D P = record { raises = 0; stamps = λ i. 0; parented = record { each = λ i k. inl refl; stamps = λ i k. omega arith } }

-- a node that rises is a latch that an arc enters, and rises to its arrival
pub rising : (s : Side) (n : Net) (D : ℕ → ℕ) (i : ℕ) → D i < raised s n D i →
    (n.latch i ≡ true) × (n.first i < n.first (i + 1)) × (raised s n D i ≡ arrival_n s n D i)
unfolding raised
rising s n D i h = go (n.latch i) refl (eqb (degree n i) 0) refl h
  where
    go : (b : Bool) → n.latch i ≡ b → (z : Bool) → eqb (degree n i) 0 ≡ z →
        D i < cond b (cond z (D i) (max (arrival_n s n D i) (D i))) (D i) →
        (n.latch i ≡ true) × (n.first i < n.first (i + 1)) ×
        (cond b (cond z (D i) (max (arrival_n s n D i) (D i))) (D i) ≡ arrival_n s n D i)
    go false e z q h = let k : ⊥ = omega arith in absurd k
    go true e true q h = let k : ⊥ = omega arith in absurd k
    go true e false q h = (e, omega (arith, eqb-false (degree n i) 0 q), omega arith)

module _ {s : Side} {n : Net} {l m : ℕ} (shaped : Shaped n l m) {i : ℕ} {D E : ℕ → ℕ} (T : ℕ → ℕ) (p : ℕ) (parents : List ℕ) (a : ℕ) (r : Raise s n l i D E)
    (rose : D i < raised s n D i) (above : n.first i ≤ a) (below : a < n.first (i + 1))
    (gave : brought n.arcs D a ≡ arrival_n s n D i) (ranged : Ranged l D) (room : i < length parents) where
  -- the new stamps
  abbrev pub stamped : ℕ → ℕ
  stamped j = cond (eqb j i) (suc p) (T j)

  stamp_here : stamped i ≡ suc p
  stamp_here = rw (eq-eqb i i refl)

  stamp_other : (j : ℕ) → (j ≡ i → ⊥) → stamped j ≡ T j
  stamp_other j d = rw (ne_eqb j i d)

  -- what an arc of the first m brings: more where its source rose, else the same
  brings_more : (b : ℕ) → b < m → n.arcs.source b ≡ i → brought n.arcs D b < brought n.arcs E b
  brings_more b k e = rw e (omega (arith, rose, r.new, ranged.low i r.here, shaped.cycle))

  brings_same : (b : ℕ) → b < m → (n.arcs.source b ≡ i → ⊥) → brought n.arcs E b ≡ brought n.arcs D b
  brings_same b k d = rw (r.rest (n.arcs.source b) (shaped.sources b k) d)

  brings_least : (b : ℕ) → b < m → brought n.arcs D b ≤ brought n.arcs E b
  brings_least b k = elim (ℕ_discrete (n.arcs.source b) i) [
    | yes q ↦ omega (arith, brings_more b k q)
    | no q ↦ omega (arith, brings_same b k q)
  ]

  pub parented_more : {base : ℕ → ℕ} → Parented n l base D (times_of parents) T p → Parented n l base E (times_of (set parents i a)) stamped (suc p)
  parented_more {base} h = record {
    each = λ j here. elim (ℕ_discrete j i) [ yes q ↦ rw q (inr mine) | no q ↦ theirs j here q (h.each j here) ];
    stamps = λ j here. elim (ℕ_discrete j i) [
      | yes q ↦ rw (q, stamp_here) (omega arith)
      | no q ↦ rw (stamp_other j q) (omega (arith, h.stamps j here))
    ];
  }
    where
      new : times_of (set parents i a) i ≡ a
      new = get_or-set_same parents i a 0 room

      few : a < m
      few = omega (arith, shaped.ends i r.here)

      tops : (n.latch i ≡ true) × (n.first i < n.first (i + 1)) × (raised s n D i ≡ arrival_n s n D i)
      tops = rising s n D i rose

      mine : ParentN n E stamped i (times_of (set parents i a) i)
      mine = rw new (record {
        above = above;
        below = below;
        holds = tops.0;
        gives = rw (r.new, tops.2, ← gave) (brings_least a few);
        older = λ e. elim (ℕ_discrete (n.arcs.source a) i) [
          | yes q ↦ (let z : ⊥ = omega (arith, brings_more a few q, gave, tops.2, r.new, e) in absurd z)
          | no q ↦ rw (stamp_other (n.arcs.source a) q, stamp_here) (omega (arith, h.stamps (n.arcs.source a) (shaped.sources a few)))
        ];
      })

      theirs : (j : ℕ) → j < l → (j ≡ i → ⊥) → (D j ≡ base j) ⊎ ParentN n D T j (times_of parents j) →
          (E j ≡ base j) ⊎ ParentN n E stamped j (times_of (set parents i a) j)
      theirs j here d (inl e) = inl (r.rest j here d ∙ e)
      theirs j here d (inr q) =
          let b = times_of parents j in
          let k : b < m = omega (arith, q.below, shaped.ends j here) in
          rw (get_or-set_other parents i j a 0 d) (inr (record {
            above = q.above;
            below = q.below;
            holds = q.holds;
            gives = rw (r.rest j here d) (omega (arith, q.gives, brings_least b k));
            older = λ e. elim (ℕ_discrete (n.arcs.source b) i) [
              | yes o ↦ (let z : ⊥ = omega (arith, brings_more b k o, q.gives, r.rest j here d, e) in absurd z)
              | no o ↦ rw (stamp_other (n.arcs.source b) o, stamp_other j d)
                  (q.older (sym (r.rest j here d) ∙ e ∙ brings_same b k o))
            ];
          }))
