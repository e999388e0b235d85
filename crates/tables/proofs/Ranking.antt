-- Sweeps find ranks: a node without a rank below r has rank r exactly where an arc from a node of rank r - 1 gives its departure. Where a sweep
-- finds none, no node has a higher rank, for ranks go down one by one.
use mathlib.Core.Path.{◌≡◌, refl, sym, ap, ◌∙◌}
use mathlib.Core.Bool.{Bool, true, false, cond, ◌||◌, ◌&&◌}
use mathlib.Core.List.{List}
use mathlib.Core.Logic.{◌⊎◌, inl, inr}
use Prim.Native.Nat.{ℕ, zero, suc, ◌+◌, ◌<◌, ◌≤◌}
use native.Mathlib.Omega.{arith}
use native.Mathlib.Decide.{dec_lt, ℕ_discrete}
use lib.Dec.{eqb}
use lib.ListN.{length, get_or, set, length-set}
use borrow.Author.Tests.{eqb-true, eqb-false, eq-eqb}
use lib.Seq.{get_or-set_same, get_or-set_other}
use Rattle.ticks.specs.Inside.Raised.{lower}
use Rattle.ticks.proofs.Raised.{lower_injective}
use Rattle.flow.specs.Flow.{Flow, Good, late, brings, Least}
use Rattle.flow.specs.Rank.{Reaches, Lowest, Rank}
use Rattle.flow.proofs.Rank.{lowest_unique, rank, rank_back}
use Rattle.tables.specs.Inside.Net.{Net, times_of, brought, Shaped, Ranged}
use Rattle.tables.specs.Inside.Models.{Models, lowered}
use Rattle.tables.specs.Inside.Ranks.{ReachesN, GivenBy, NONE, RankedTo, Ranked, next, known, none, Sweeping, first_rank, RanksUpTo}
use Rattle.tables.proofs.Models.{brought_lower}

or_first : (a b : Bool) → (a || b) ≡ false → a ≡ false
or_first false b e = refl
or_first true b e = e

or_second : (a b : Bool) → (a || b) ≡ false → b ≡ false
or_second false b e = e
or_second true b e = let z : ◌≡◌ {A = ℕ} 0 1 = cc in let y : ⊥ = omega arith in absurd y

module _ {n : Net} {l m : ℕ} (shaped : Shaped n l m) (D : ℕ → ℕ) where
  module _ (R : ℕ → ℕ) (r : ℕ) (few : r < 65535) (all : (j : ℕ) → j < l → RankedTo n D (suc r) j (R j)) (i : ℕ) (here : i < l) where
    -- a rank that is known stays
    pub sweep_known : (R i ≡ NONE → ⊥) → RankedTo n D (suc (suc r)) i (R i)
    sweep_known d = elim (all i here) [ inl h ↦ inl (omega (arith, h.0), h.1) | inr h ↦ absurd (d h.0) ]

    -- one that is given its departure has the next rank
    pub sweep_new : R i ≡ NONE → n.latch i ≡ true → GivenBy n.arcs D R (D i) r (n.first i) (n.first (i + 1)) → RankedTo n D (suc (suc r)) i (suc r)
    sweep_new e latch g = elim (all i here) [
      | inl h ↦ (let z : ⊥ = omega (arith, h.0, e) in absurd z)
      | inr h ↦ inl (omega arith, record { holds = (g.0, g.1, g.2, latch, g.3, from); lowest = h.1 })
    ]
      where
        from : ReachesN n D (n.arcs.source g.0) r
        from = elim (all (n.arcs.source g.0) (shaped.sources g.0 (omega (arith, g.2, shaped.ends i here)))) [
          | inl h ↦ rw g.4 at h.1.holds
          | inr h ↦ (let z : ⊥ = omega (arith, h.0, g.4) in absurd z)
        ]

    -- the others have none
    pub sweep_none : R i ≡ NONE → (n.latch i ≡ true → GivenBy n.arcs D R (D i) r (n.first i) (n.first (i + 1)) → ⊥) → RankedTo n D (suc (suc r)) i (R i)
    sweep_none e d = elim (all i here) [
      | inl h ↦ (let z : ⊥ = omega (arith, h.0, e) in absurd z)
      | inr h ↦ inr (e, λ q k o. elim (ℕ_discrete q (suc r)) [ yes s ↦ none h (rw s at o) | no s ↦ h.1 q (omega arith) o ])
    ]
      where
        none : (R i ≡ NONE) × ((q : ℕ) → q < suc r → ReachesN n D i q → ⊥) → ReachesN n D i (suc r) → ⊥
        none h o =
            let a = o.0 in
            let j = n.arcs.source a in
            elim (all j (shaped.sources a (omega (arith, o.2, shaped.ends i here)))) [
              | inr k ↦ k.1 r (omega arith) o.5
              | inl k ↦ elim (ℕ_discrete (R j) r) [
                | yes s ↦ d o.3 (a, o.1, o.2, o.4, s)
                | no s ↦ h.1 (suc (R j)) (omega (arith, k.0, s)) (a, o.1, o.2, o.3, o.4, k.1.holds)
              ]
            ]

-- the ranks of a flow that the tables hold
module _ {n : Net} {l m : ℕ} (shaped : Shaped n l m) {f : Flow} (good : Good f) (models : Models n f) (same : f.nodes ≡ l) {D : ℕ → ℕ}
    (ranged : Ranged l D) where
  given : (a : ℕ) → a < f.arcs → lower (brought n.arcs D a) ≡ brings f (lowered D) a
  given = brought_lower late n good models.arcs D (rw same ranged)

  reaches_to : (k i : ℕ) → i < l → ReachesN n D i k → Reaches f (lowered D) i k
  reaches_to zero i h e = ap lower e ∙ models.launch i (rw same h)
  reaches_to (suc k) i h o =
      let a = o.0 in
      let j : i < f.nodes = rw same h in
      let q : a < f.arcs = omega (arith, o.2, models.arcs.into.within i j) in
      let s = models.arcs.source a q in (
        a,
        record { here = q; enters = models.arcs.into.inside i a j o.1 o.2; holds = sym (models.latch i j) ∙ o.3; carries = sym (given a q) ∙ ap lower o.4 },
        rw s at (reaches_to k (n.arcs.source a) (rw (s, ← same) (good.leaves a q)) o.5),
      )

  reaches_from : (k i : ℕ) → i < l → Reaches f (lowered D) i k → ReachesN n D i k
  reaches_from zero i h e = lower_injective _ _ (e ∙ sym (models.launch i (rw same h)))
  reaches_from (suc k) i h o =
      let a = o.0 in
      let t = o.1 in
      let j : i < f.nodes = rw same h in
      let q = t.here in
      let w = models.arcs.into.outside i a j q t.enters in
      let s = models.arcs.source a q in (
        a,
        w.0,
        w.1,
        models.latch i j ∙ t.holds,
        lower_injective _ _ (given a q ∙ t.carries),
        rw s (reaches_from k (f.source a) (rw (← same) (good.leaves a q)) o.2),
      )

  pub rank_to : (i r : ℕ) → i < l → Lowest (ReachesN n D i) r → Rank f (lowered D) i r
  rank_to i r h o = record { holds = reaches_to r i h o.holds; lowest = λ k q e. o.lowest k q (reaches_from k i h e) }

  -- no node has the rank r: then none has a higher one
  module _ (least : Least late f (lowered D)) (R : ℕ → ℕ) (r : ℕ) (all : (j : ℕ) → j < l → RankedTo n D r j (R j)) where
    module _ (none : (j : ℕ) → j < l → Lowest (ReachesN n D j) r → ⊥) where
      at_level : (i : ℕ) → i < l → Rank f (lowered D) i r → ⊥
      at_level i here h = none i here (record { holds = reaches_from r i here h.holds; lowest = λ k o e. h.lowest k o (reaches_to k i here e) })

      -- a rank that is not below r leads down to r
      down : (q i : ℕ) → i < l → Rank f (lowered D) i q → (q < r → ⊥) → ⊥
      down zero i here h d = elim (ℕ_discrete 0 r) [ yes e ↦ at_level i here (rw e at h) | no e ↦ d (omega arith) ]
      down (suc q) i here h d = elim (ℕ_discrete (suc q) r) [
        | yes e ↦ at_level i here (rw e at h)
        | no e ↦ (
            let b = rank_back f (lowered D) i q h in
            let more : r ≤ q = elim (dec_lt (suc q) r) [ yes k ↦ absurd (d k) | no k ↦ omega arith ] in
            down q (f.source b.0) (rw (← same) (good.leaves b.0 b.1.here)) b.2 (λ o. omega arith))
      ]

      pub ranks_all : (i : ℕ) → i < l → Rank f (lowered D) i (R i)
      ranks_all i here = elim (all i here) [
        | inl h ↦ rank_to i (R i) here h.1
        | inr h ↦ (
            let q = rank f good (lowered D) least i (rw same here) in
            absurd (down q.0 i here q.2 (λ k. h.1 q.0 k (reaches_from q.0 i here q.2.holds))))
      ]

  pub ranks_found : Least late f (lowered D) → (R : ℕ → ℕ) → RanksUpTo n l D R → (i : ℕ) → i < l → Rank f (lowered D) i (R i)
  ranks_found least R h = ranks_all least R h.level h.all (empty h.top)
    where
      empty : (l < h.level) ⊎ ((j : ℕ) → j < l → Lowest (ReachesN n D j) h.level → ⊥) → (j : ℕ) → j < l → Lowest (ReachesN n D j) h.level → ⊥
      empty (inr d) j here o = d j here o
      empty (inl k) j here o =
          let q = rank f good (lowered D) least j (rw same here) in
          omega (arith, q.1, same, lowest_unique _ q.0 h.level q.2 (rank_to j h.level here o))

-- one node more in a sweep
module _ {n : Net} {l m : ℕ} (shaped : Shaped n l m) {D : ℕ → ℕ} {r : ℕ} (few : r < 65534) {before : List ℕ}
    (all : (j : ℕ) → j < l → RankedTo n D (suc r) j (get_or before j 0)) where
  pub sweeping_none : Sweeping n D r before before 0 false
  sweeping_none = record {
    long = refl;
    done = λ j k. let z : ⊥ = omega arith in absurd z;
    rest = λ j k. refl;
    each = λ j. inl refl;
    still = λ e j k. refl;
  }

  module _ {after : List ℕ} {i : ℕ} {found : Bool} (s : Sweeping n D r before after i found) (here : i < l) (room : i < length before) where
    -- ranks of r are the same in both tables
    level_back : (j : ℕ) → get_or after j 0 ≡ r → get_or before j 0 ≡ r
    level_back j e = elim (s.each j) [ inl q ↦ sym q ∙ e | inr q ↦ (let z : ⊥ = omega (arith, q.1, e) in absurd z) ]

    level_on : (j : ℕ) → get_or before j 0 ≡ r → get_or after j 0 ≡ r
    level_on j e = elim (s.each j) [ inl q ↦ q ∙ e | inr q ↦ (let z : ⊥ = omega (arith, q.0, e) in absurd z) ]

    own : get_or after i 0 ≡ get_or before i 0
    own = s.rest i (omega arith)

    stays : RankedTo n D (suc (suc r)) i (get_or before i 0) → (found' : Bool) → (found' ≡ false → found ≡ false) → Sweeping n D r before after (i + 1) found'
    stays h found' f = record {
      long = s.long;
      done = λ j k. elim (ℕ_discrete j i) [ yes q ↦ rw (q, own) h | no q ↦ s.done j (omega arith) ];
      rest = λ j k. s.rest j (omega arith);
      each = s.each;
      still = λ e j k. elim (ℕ_discrete j i) [ yes q ↦ rw q own | no q ↦ s.still (f e) j (omega arith) ];
    }

    pub sweeping_more : {b : Bool} {after' : List ℕ} → Ranked n D i r after b after' → Sweeping n D r before after' (i + 1) (found || b)
    sweeping_more (known d) = stays (sweep_known shaped D (times_of before) r (omega arith) all i here (λ e. d (own ∙ e))) (found || false) (or_first found false)
    sweeping_more (none e d) = stays (sweep_none shaped D (times_of before) r (omega arith) all i here (sym own ∙ e)
        (λ t g. d t (g.0, g.1, g.2, g.3, level_on (n.arcs.source g.0) g.4))) (found || false) (or_first found false)
    sweeping_more (next e t g) = record {
      long = length-set after i (suc r) ∙ s.long;
      done = λ j k. elim (ℕ_discrete j i) [
        | yes q ↦ rw (q, spot) (sweep_new shaped D (times_of before) r (omega arith) all i here (sym own ∙ e) t
            (g.0, g.1, g.2, g.3, level_back (n.arcs.source g.0) g.4))
        | no q ↦ rw (get_or-set_other after i j (suc r) 0 q) (s.done j (omega arith))
      ];
      rest = λ j k. get_or-set_other after i j (suc r) 0 (λ q. omega arith) ∙ s.rest j (omega arith);
      each = λ j. elim (ℕ_discrete j i) [ yes q ↦ inr (rw q (sym own ∙ e), rw q spot) | no q ↦ rw (get_or-set_other after i j (suc r) 0 q) (s.each j) ];
      still = λ f. let z = or_second found true f in let y : ◌≡◌ {A = ℕ} 0 1 = cc in let o : ⊥ = omega arith in absurd o;
    }
      where
        spot : get_or (set after i (suc r)) i 0 ≡ suc r
        spot = get_or-set_same after i (suc r) 0 (rw s.long room)

-- an arc that is asked for
both : (a b : Bool) → (a && b) ≡ true → (a ≡ true) × (b ≡ true)
both true b e = (refl, e)
both false b e = let z : ◌≡◌ {A = ℕ} 0 1 = cc in let y : ⊥ = omega arith in absurd y

pub asked : (x t y r : ℕ) → (eqb x t && eqb y r) ≡ true → (x ≡ t) × (y ≡ r)
asked x t y r e = let h = both (eqb x t) (eqb y r) e in (eqb-true x t h.0, eqb-true y r h.1)

pub not_asked : (x t y r : ℕ) → (eqb x t && eqb y r) ≡ false → x ≡ t → y ≡ r → ⊥
not_asked x t y r e p q =
    let h = rw (eq-eqb x t p, eq-eqb y r q) at e in
    let z : ◌≡◌ {A = ℕ} 0 1 = cc in omega arith

-- sweeps one after the other
module _ (n : Net) (l : ℕ) (D : ℕ → ℕ) where
  pub ranks_begin : (ranks : List ℕ) → ((j : ℕ) → j < l → get_or ranks j 0 ≡ first_rank n.launch D j) → (j : ℕ) → j < l → RankedTo n D 1 j (get_or ranks j 0)
  ranks_begin ranks h j here = rw (h j here) (go (eqb (D j) (n.launch j)) refl)
    where
      go : (b : Bool) → eqb (D j) (n.launch j) ≡ b → RankedTo n D 1 j (cond b 0 NONE)
      go true e = inl (omega arith, record { holds = eqb-true _ _ e; lowest = λ q k o. omega arith })
      go false e = inr (refl, λ q k o. let z : q ≡ 0 = omega arith in eqb-false _ _ e (rw z at o))

  module _ (r : ℕ) (few : r < 65534) (before after : List ℕ) (all : (j : ℕ) → j < l → RankedTo n D (suc r) j (get_or before j 0)) where
    pub ranks_end : {b : Bool} → b ≡ false → Sweeping n D r before after l b → RanksUpTo n l D (times_of after)
    ranks_end {b} e s = record {
      level = suc r;
      all = λ j h. rw (s.still e j h) (all j h);
      top = inr (λ j h o. elim (s.done j h) [
        | inr k ↦ k.1 (suc r) (omega arith) o.holds
        | inl k ↦ (
            let q' = lowest_unique _ (get_or after j 0) (suc r) k.1 o in
            elim (all j h) [ inl q ↦ omega (arith, q.0, s.still e j h, q') | inr q ↦ omega (arith, q.0, s.still e j h, q') ])
      ]);
    }

  pub ranks_top : (r : ℕ) (ranks : List ℕ) → l ≤ r → ((j : ℕ) → j < l → RankedTo n D (suc r) j (get_or ranks j 0)) → RanksUpTo n l D (times_of ranks)
  ranks_top r ranks h all = record { level = suc r; all = all; top = inl (omega arith) }
