-- A growing ring is small: its sources differ, so it has no more arcs than there are synchronizers; each arc is one of the circuit's, and
-- adds no more to the gain than the greatest weight.
use mathlib.Core.Path.{◌≡◌, refl, ap}
use mathlib.Core.Bool.{Bool, true, false}
use mathlib.Core.List.{List, [], ◌∷◌}
use mathlib.Core.Logic.{◌≢◌}
use Prim.Native.Nat.{ℕ, zero, suc, ◌*◌, ◌^◌, ◌≤◌, ◌<◌}
use native.Mathlib.Omega.{arith}
use lib.Dec.{ltb}
use lib.IntN.{ℤ, pos, negsuc, nat_abs}
use lib.ListN.{length, drop, get_or, length-append, get_or-append}
use lib.Signed.{◌≤ℤ◌, ◌<ℤ◌}
use borrow.Author.Tests.{ltb-true, ltb-false}
use Rattle.image.specs.Header.{most_synchronizers}
use Rattle.ticks.proofs.Ints.{ints, sum}
use Rattle.flow.specs.Flow.{Flow, Good, late}
use Rattle.flow.specs.Walk.{Walk, gain, sources, Every, Distinct, Shown}
use Rattle.flow.proofs.Pigeonhole.{pigeons}
use Rattle.circuit.specs.Circuit.{Circuit}
use Rattle.circuit.specs.Clock.{flow}
use Rattle.circuit.proofs.Sound.{Sound, good}
use Rattle.circuit.proofs.Ranges.{weight_high}

every_at : (P : ℕ → Type 0) (xs : List ℕ) (i : ℕ) → Every P xs → i < length xs → P (get_or xs i 0)
every_at P [] i h l = let z : ⊥ = omega arith in absurd z
every_at P (x ∷ xs) zero h l = h.0
every_at P (x ∷ xs) (suc i) h l = every_at P xs i h.1 (omega arith)

distinct_apart : (xs : List ℕ) (i j : ℕ) → Distinct xs → i < j → j < length xs → get_or xs i 0 ≢ get_or xs j 0
distinct_apart [] i j d l m = let z : ⊥ = omega arith in absurd z
distinct_apart (x ∷ xs) i zero d l m = let z : ⊥ = omega arith in absurd z
distinct_apart (x ∷ xs) zero (suc j) d l m = every_at (λ y. x ≢ y) xs j d.0 (omega arith)
distinct_apart (x ∷ xs) (suc i) (suc j) d l m = distinct_apart xs i j d.1 (omega arith) (omega arith)

-- numbers below m that differ are no more than m
distinct_few : (xs : List ℕ) (m : ℕ) → Distinct xs → Every (λ x. x < m) xs → length xs ≤ m
distinct_few xs m d h = go (ltb m (length xs)) refl
  where
    go : (b : Bool) → ltb m (length xs) ≡ b → length xs ≤ m
    go false e = ltb-false m (length xs) e
    go true e =
        let t = pigeons m (length xs) (λ i. get_or xs i 0) (λ i l. every_at (λ x. x < m) xs i h l) (ltb-true m (length xs) e) in
        absurd (distinct_apart xs t.first t.second d t.order t.bound t.same)

module _ (f : Flow) where
  sources_long : (p : List ℕ) → length (sources f p) ≡ length p
  sources_long [] = refl
  sources_long (a ∷ p) = ap suc (sources_long p)

  arcs_below : (p : List ℕ) (i j : ℕ) → Walk f i p j → Every (λ a. a < f.arcs) p
  arcs_below [] i j w = tt
  arcs_below (a ∷ p) i j w = (w.0.here, arcs_below p (f.target a) j w.1)

  sources_below : Good f → (p : List ℕ) (i j : ℕ) → Walk f i p j → Every (λ s. s < f.nodes) (sources f p)
  sources_below g [] i j w = tt
  sources_below g (a ∷ p) i j w = (g.leaves a w.0.here, sources_below g p (f.target a) j w.1)

  gain_high : ((a : ℕ) → a < f.arcs → f.weight a ≤ℤ pos 2000000000) → (p : List ℕ) (i j : ℕ) → Walk f i p j →
      gain f p ≤ℤ pos (2000000000 * length p)
  gain_high h [] i j w = omega ints
  gain_high h (a ∷ p) i j w =
      omega (ints, h a w.0.here, gain_high h p (f.target a) j w.1, sum (f.weight a) (gain f p))

above_few : (z : ℤ) (n : ℕ) → pos 0 <ℤ z → z ≤ℤ pos n → nat_abs z ≤ n
above_few (pos k) n h l = omega ints
above_few (negsuc k) n h l = omega ints

module _ (c : Circuit) (v : Sound c) {count : ℕ} {total : ℤ} {before after : List ℕ} (s : Shown (flow late c) count total before after) where
  abbrev path : List ℕ
  path = s.grows.ring.path

  path_few : length path ≤ most_synchronizers
  path_few =
      let f = flow late c in
      let r = s.grows.ring in
      let few = distinct_few (sources f path) c.synchronizers r.distinct (sources_below f (good late c v) path r.start r.start r.closed) in
      omega (arith, few, sources_long f path, v.synchronizers)

  pub count_few : count ≤ most_synchronizers
  count_few = omega (arith, s.counted, path_few)

  pub gain_few : nat_abs total < 10 ^ 13
  gain_few =
      let f = flow late c in
      let r = s.grows.ring in
      let high = gain_high f (weight_high c v late) path r.start r.start r.closed in
      rw s.gains (omega (arith, above_few (gain f path) (2000000000 * length path) s.grows.grows high, path_few))

  pub arcs_few : (i : ℕ) → i < count → get_or after i 0 < 10000
  arcs_few i l =
      let f = flow late c in
      let r = s.grows.ring in
      let here : i < length path = omega (arith, s.counted) in
      let e = get_or-append path (drop (length path) before) 0 i here in
      let small = every_at (λ a. a < c.arcs) path i (arcs_below f path r.start r.start r.closed) here in
      rw (s.written, e) (omega (arith, small, v.arcs))

  -- the ring stands in the buffer
  pub count_fits : count ≤ length after
  count_fits = rw (s.written, length-append path (drop (length path) before)) (omega (arith, s.counted))
