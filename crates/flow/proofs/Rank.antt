-- A node's rank is the first round that reaches its departure, so every node has one; stepping back over an arc lowers it by one.
use mathlib.Core.Path.{◌≡◌, sym, ◌∙◌}
use mathlib.Core.Logic.{inl, inr, ◌↔◌}
use Prim.Native.Nat.{ℕ, zero, suc, ◌-◌, ◌<◌, ◌≤◌}
use native.Mathlib.Omega.{arith}
use native.Mathlib.Decide.{dec_lt}
use lib.IntN.{ℤ, ℤ_discrete}
use Rattle.ticks.proofs.Ints.{ints, sum}
use Rattle.ticks.proofs.Order.{≤ℤ_antisym}
use Rattle.flow.specs.Flow.{Flow, Good, late, Fits, Least}
use Rattle.flow.specs.Inside.Rounds.{round}
use Rattle.flow.specs.Inside.Within.{Bounded}
use Rattle.flow.specs.Rank.{Tight, Reaches, Lowest, Rank}
use Rattle.flow.proofs.OneRound.{arc_next, set_by}
use Rattle.flow.proofs.Rounds.{rounds_fits, least_unique}
use Rattle.flow.proofs.Walks.{fits_holds, fits_calm}
use Rattle.flow.proofs.Settles.{settles_least}

-- a rank is unique
pub lowest_unique : (P : ℕ → Type 0) (m n : ℕ) → Lowest P m → Lowest P n → m ≡ n
lowest_unique P m n h k = elim (dec_lt m n) [
  | yes l ↦ absurd (k.lowest m l h.holds)
  | no l ↦ elim (dec_lt n m) [ yes r ↦ absurd (h.lowest n r k.holds) | no r ↦ omega arith ]
]

-- the lowest number of a decided property, found from below
pub lowest : (P : ℕ → Type 0) → ((n : ℕ) → Dec (P n)) → (n : ℕ) → P n → (m : ℕ) × (m ≤ n) × Lowest P m
lowest P dec zero h = (zero, omega arith, record { holds = h; lowest = λ m k p. omega arith })
lowest P dec (suc n) h = go (dec zero) (lowest (λ m. P (suc m)) (λ m. dec (suc m)) n h)
  where
    go : Dec (P zero) → (m : ℕ) × (m ≤ n) × Lowest (λ m. P (suc m)) m → (m : ℕ) × (m ≤ suc n) × Lowest P m
    go (yes k) r = (zero, omega arith, record { holds = k; lowest = λ m l p. omega arith })
    go (no d) r = (suc r.0, omega arith, record { holds = r.2.holds; lowest = down })
      where
        down : (m : ℕ) → m < suc r.0 → P m → ⊥
        down zero l p = d p
        down (suc m) l p = r.2.lowest m (omega arith) p

module _ (f : Flow) (good : Good f) (D : ℕ → ℤ) (fits : Fits late f D) where
  below : (n : ℕ) → Bounded late f (round late f n) D
  below = rounds_fits late f good D fits

  reaches_round : (n i : ℕ) → i < f.nodes → Reaches f D i n → round late f n i ≡ D i
  unfolding round
  reaches_round zero i l e = sym e
  reaches_round (suc n) i l h =
      let a = h.0 in
      let t = h.1 in
      let k = reaches_round n (f.source a) (good.leaves a t.here) h.2 in
      let m = rw t.enters at (arc_next f (round late f n) a t.here (rw t.enters t.holds)) in
      ≤ℤ_antisym (below (suc n) i l) (rw (← t.carries, ← k) m)

  round_reaches : (n i : ℕ) → i < f.nodes → round late f n i ≡ D i → (m : ℕ) × (m ≤ n) × Reaches f D i m
  unfolding round
  round_reaches zero i l e = (zero, omega arith, sym e)
  round_reaches (suc n) i l e = elim (set_by late f (round late f n) i) [
    | inl h ↦ (zero, omega arith, sym e ∙ h)
    | inr h ↦ let a = h.0 in
        let k = h.1 in
        let j = f.source a in
        let w = f.weight a in
        let x = good.leaves a k.here in
        let y = rw k.enters at (fits_holds f good D fits a k.here (rw k.enters k.holds)) in
        let z : round late f n j ≡ D j = omega (ints, k.carries, e, y, below n j x, sum (D j) w, sum (round late f n j) w) in
        let t : Tight f D i a = record { here = k.here; enters = k.enters; holds = k.holds; carries = rw (← z) (k.carries ∙ e) } in
        let r = round_reaches n j x z in
        (suc r.0, omega arith, (a, t, r.2))
  ]

  pub rank_round : (n i : ℕ) → i < f.nodes → Rank f D i n ↔ Lowest (λ m. round late f m i ≡ D i) n
  rank_round n i l = (to, from)
    where
      to : Rank f D i n → Lowest (λ m. round late f m i ≡ D i) n
      to h = record {
        holds = reaches_round n i l h.holds;
        lowest = λ m k e. let r = round_reaches m i l e in h.lowest r.0 (omega arith) r.2;
      }

      from : Lowest (λ m. round late f m i ≡ D i) n → Rank f D i n
      from h = let r = round_reaches n i l h.holds in record {
        holds = elim (dec_lt r.0 n) [
          | yes k ↦ absurd (h.lowest r.0 k (reaches_round r.0 i l r.2))
          | no k ↦ (let e : r.0 ≡ n = omega arith in rw e at r.2)
        ];
        lowest = λ m k e. h.lowest m k (reaches_round m i l e);
      }

-- every node of a least solution has a rank, below the number of nodes
pub rank : (f : Flow) → Good f → (D : ℕ → ℤ) → Least late f D →
    (i : ℕ) → i < f.nodes → (n : ℕ) × (n < f.nodes) × Rank f D i n
rank f good D h i l =
    let m = f.nodes - 1 in
    let top = settles_least late f good m (omega arith) (fits_calm f good D h.fits) in
    let e = least_unique late f (round late f m) D top h i l in
    let r = lowest (λ n. round late f n i ≡ D i) (λ n. ℤ_discrete (round late f n i) (D i)) m e in
    (r.0, omega arith, (rank_round f good D h.fits r.0 i l).1 r.2)

-- stepping back: some arc that gives the departure has a source of rank one less, and none has a source of lower rank
module _ (f : Flow) (D : ℕ → ℤ) (i n : ℕ) (h : Rank f D i (suc n)) where
  pub rank_above : (a : ℕ) → Tight f D i a → (m : ℕ) → Reaches f D (f.source a) m → n ≤ m
  rank_above a t m k = elim (dec_lt m n) [ yes l ↦ absurd (h.lowest (suc m) (omega arith) (a, t, k)) | no l ↦ omega arith ]

  pub rank_back : (a : ℕ) × Tight f D i a × Rank f D (f.source a) n
  rank_back =
      let a = h.holds.0 in
      let t = h.holds.1 in
      (a, t, record { holds = h.holds.2; lowest = λ m l k. omega (arith, rank_above a t m k) })
