-- A ring may be read from any of its nodes on, and only one of these readings starts at the lowest-numbered.
use mathlib.Core.Path.{◌≡◌, refl, sym, ap}
use mathlib.Core.List.{List, [], ◌∷◌, ◌++◌, append-nil}
use mathlib.Core.Logic.{◌≢◌}
use Prim.Native.Nat.{ℕ, ◌≤◌, ◌<◌}
use native.Mathlib.Omega.{arith}
use native.Mathlib.Decide.{dec_lt}
use lib.IntN.{pos}
use lib.ListN.{length}
use lib.Signed.{◌<ℤ◌}
use Rattle.ticks.proofs.Ints.{ints, sum}
use Rattle.flow.specs.Flow.{Flow}
use Rattle.flow.specs.Walk.{Walk, gain, sources, Every, Distinct, GrowingRing}
use Rattle.flow.proofs.Joined.{every_join, distinct_join, sources_join, walk_join, gain_join}
use Rattle.flow.proofs.Chain.{grows_some}

every_map : (P Q : ℕ → Type 0) (xs : List ℕ) → ((x : ℕ) → P x → Q x) → Every P xs → Every Q xs
every_map P Q [] h k = tt
every_map P Q (x ∷ xs) h k = (h x k.0, every_map P Q xs h k.1)

every_split : (P : ℕ → Type 0) (xs ys : List ℕ) → Every P (xs ++ ys) → Every P xs × Every P ys
every_split P [] ys h = (tt, h)
every_split P (x ∷ xs) ys h = let k = every_split P xs ys h.1 in ((h.0, k.0), k.1)

-- what holds between two lists, seen from the second
every_swap : (R : ℕ → ℕ → Type 0) (xs ys : List ℕ) → Every (λ x. Every (λ y. R x y) ys) xs → Every (λ y. Every (λ x. R x y) xs) ys
every_swap R xs [] h = tt
every_swap R xs (y ∷ ys) h = (
  every_map (λ x. R x y × Every (λ z. R x z) ys) (λ x. R x y) xs (λ x k. k.0) h,
  every_swap R xs ys (every_map (λ x. R x y × Every (λ z. R x z) ys) (λ x. Every (λ z. R x z) ys) xs (λ x k. k.1) h),
)

distinct_split : (xs ys : List ℕ) → Distinct (xs ++ ys) → Distinct xs × Distinct ys × Every (λ x. Every (λ y. x ≢ y) ys) xs
distinct_split [] ys h = (tt, h, tt)
distinct_split (x ∷ xs) ys h =
    let e = every_split (λ y. x ≢ y) xs ys h.0 in
    let k = distinct_split xs ys h.1 in
    ((e.0, k.0), k.1, (e.1, k.2))

walk_split : (f : Flow) (p q : List ℕ) (i k : ℕ) → Walk f i (p ++ q) k → (j : ℕ) × Walk f i p j × Walk f j q k
walk_split f [] q i k w = (i, refl, w)
walk_split f (a ∷ p) q i k w = let h = walk_split f p q (f.target a) k w.1 in (h.0, (w.0, h.1), h.2)

module _ (f : Flow) (x y : List ℕ) where
  turn_every : (P : ℕ → Type 0) → Every P (sources f (x ++ y)) → Every P (sources f (y ++ x))
  turn_every P h =
      let k = every_split P (sources f x) (sources f y) (rw (sources_join f x y) at h) in
      rw (sources_join f y x) (every_join P (sources f y) (sources f x) k.1 k.0)

  apart : Distinct (sources f (x ++ y)) → Distinct (sources f x) × Distinct (sources f y) × Every (λ i. Every (λ j. i ≢ j) (sources f y)) (sources f x)
  apart h = distinct_split (sources f x) (sources f y) (rw (sources_join f x y) at h)

  turn_distinct : Distinct (sources f (x ++ y)) → Distinct (sources f (y ++ x))
  turn_distinct h =
      let k = apart h in
      let other = every_swap (λ i j. j ≢ i) (sources f x) (sources f y)
      (every_map _ _ (sources f x) (λ i g. every_map (λ j. i ≢ j) (λ j. j ≢ i) (sources f y) (λ j d e. d (sym e)) g) k.2) in
      rw (sources_join f y x) (distinct_join (sources f y) (sources f x) k.1 k.0 other)

  turn_gain : gain f (y ++ x) ≡ gain f (x ++ y)
  turn_gain = rw (gain_join f x y, gain_join f y x) (omega (ints, sum (gain f x) (gain f y), sum (gain f y) (gain f x)))

-- two readings of one ring that both start at the lowest-numbered node are the same
pub one_reading : (f : Flow) (x y : List ℕ) (i j : ℕ) → Walk f i (x ++ y) i → Walk f j (y ++ x) j →
    Every (λ s. i ≤ s) (sources f (x ++ y)) → Every (λ s. j ≤ s) (sources f (y ++ x)) → Distinct (sources f (x ++ y)) → x ++ y ≡ y ++ x
one_reading f [] y i j v w l m d = sym (append-nil y)
one_reading f (a ∷ x) [] i j v w l m d = append-nil (a ∷ x)
one_reading f (a ∷ x) (b ∷ y) i j v w l m d =
    let p = turn_every f (a ∷ x) (b ∷ y) (λ s. i ≤ s) l in
    let q = turn_every f (b ∷ y) (a ∷ x) (λ s. j ≤ s) m in
    let same : f.source a ≡ f.source b = omega (arith, v.0.from, w.0.from, p.0, q.0) in
    absurd ((apart f (a ∷ x) (b ∷ y) d).2.0.0 same)

-- where a list of arcs leaves its lowest-numbered node
record LowestArc (f : Flow) (p : List ℕ) : Type 0 where
  front : List ℕ
  arc : ℕ
  back : List ℕ
  whole : p ≡ front ++ (arc ∷ back)
  lowest : Every (λ s. f.source arc ≤ s) (sources f p)

lowest : (f : Flow) (a : ℕ) (p : List ℕ) → LowestArc f (a ∷ p)
lowest f a [] = record { front = []; arc = a; back = []; whole = refl; lowest = (omega arith, tt) }
lowest f a (b ∷ p) =
    let h = lowest f b p in
    elim (dec_lt (f.source h.arc) (f.source a)) [
      | yes l ↦ record {
        front = a ∷ h.front;
        arc = h.arc;
        back = h.back;
        whole = ap (λ (l : List ℕ). a ∷ l) h.whole;
        lowest = (omega arith, h.lowest);
      }
      | no l ↦ record {
        front = [];
        arc = a;
        back = b ∷ p;
        whole = refl;
        lowest = (omega arith, every_map (λ s. f.source h.arc ≤ s) (λ s. f.source a ≤ s) (sources f (b ∷ p)) (λ s k. omega arith) h.lowest);
      }
    ]

-- a growing ring that starts at its lowest-numbered node
abbrev pub FromLowest : Flow → Type 0
FromLowest f = (r : GrowingRing f) × Every (λ i. r.ring.start ≤ i) (sources f r.ring.path)

turned : (f : Flow) (i a : ℕ) (x y : List ℕ) → Walk f i (x ++ (a ∷ y)) i → Distinct (sources f (x ++ (a ∷ y))) →
    pos 0 <ℤ gain f (x ++ (a ∷ y)) → Every (λ s. f.source a ≤ s) (sources f (x ++ (a ∷ y))) → FromLowest f
turned f i a x y w d g l =
    let s = walk_split f x (a ∷ y) i i w in
    let e = s.2.0.from in
    let grows : pos 0 <ℤ gain f ((a ∷ y) ++ x) = rw (turn_gain f x (a ∷ y)) g in (
      record {
        ring = record {
          start = s.0;
          path = (a ∷ y) ++ x;
          some = grows_some f ((a ∷ y) ++ x) grows;
          closed = walk_join f (a ∷ y) x s.0 i s.0 s.2 s.1;
          distinct = turn_distinct f x (a ∷ y) d;
        };
        grows = grows;
      },
      turn_every f x (a ∷ y) (λ j. s.0 ≤ j) (every_map (λ j. f.source a ≤ j) (λ j. s.0 ≤ j) (sources f (x ++ (a ∷ y))) (λ j k. omega arith) l),
    )

-- every growing ring has such a reading
turn : (f : Flow) (i : ℕ) (p : List ℕ) → Walk f i p i → Distinct (sources f p) → pos 0 <ℤ gain f p → LowestArc f p → FromLowest f
turn f i p w d g h =
    let e = h.whole in
    turned f i h.arc h.front h.back (rw e at w) (rw e at d) (rw e at g) (rw e at h.lowest)

pub told : (f : Flow) → GrowingRing f → FromLowest f
told f r = turn f r.ring.start r.ring.path r.ring.closed r.ring.distinct r.grows (go r.ring.path r.ring.some)
  where
    go : (p : List ℕ) → 0 < length p → LowestArc f p
    go [] n = let z : ⊥ = omega arith in absurd z
    go (a ∷ p) n = lowest f a p
