-- A path is unique, and it is what its name says: arcs that meet, from a launch, over ranks that rise by one, bringing the late
-- arrival. All of it by recursion over the rank.
use mathlib.Core.Path.{◌≡◌, refl, sym, ap, ◌∙◌}
use mathlib.Core.List.{List, [], ◌∷◌, ◌++◌}
use Prim.Native.Nat.{ℕ, zero, suc, ◌+◌, ◌<◌}
use native.Mathlib.Omega.{arith}
use lib.IntN.{ℤ, pos, ◌+ℤ◌}
use lib.ListN.{length, length-append}
use Rattle.ticks.proofs.Ints.{ints, sum}
use Rattle.flow.specs.Flow.{Flow, late, at, arrival}
use Rattle.flow.specs.Walk.{Walk, gain}
use Rattle.flow.specs.Rank.{Rank}
use Rattle.flow.specs.Path.{Last, Back, PathTo}
use Rattle.flow.proofs.Rank.{lowest_unique}
use Rattle.flow.proofs.Joined.{walk_join, gain_join}

-- one path
module _ (f : Flow) (D : ℕ → ℤ) where
  back_unique : (r i s t : ℕ) (p q : List ℕ) → Back f D s r p i → Back f D t r q i → (s ≡ t) × (p ≡ q)
  back_unique zero i s t p q h k = (h.1 ∙ sym k.1, h.2 ∙ sym k.2)
  back_unique (suc r) i s t p q h k =
      let e = lowest_unique _ h.0 k.0 h.3 k.3 in
      let g = back_unique r (f.source k.0) s t h.1 k.1 (rw e at h.4) k.4 in
      (g.0, h.5 ∙ rw (e, g.1) (sym k.5))

  last_unique : (i r m a b : ℕ) → Last f D i r a → Last f D i m b → (r ≡ m) × (a ≡ b)
  last_unique i r m a b h k =
      let x = h.arrives in
      let y = k.arrives in
      let t : h.time ≡ k.time = cc in
      let e = lowest_unique _ r m (rw t at h.least) k.least in
      (e, lowest_unique _ a b (rw (t, e) at h.lowest) k.lowest)

  pub path_unique : (i s t : ℕ) (p q : List ℕ) → PathTo f D i s p → PathTo f D i t q → (s ≡ t) × (p ≡ q)
  path_unique i s t p q h k =
      let e = last_unique i h.rank k.rank h.last k.last h.ends k.ends in
      let g = back_unique k.rank (f.source k.last) s t h.before k.before (rw (e.0, e.1) at h.back) k.back in
      (g.0, h.whole ∙ rw (e.1, g.1) (sym k.whole))

length_on : (p : List ℕ) (a : ℕ) → length (p ++ (a ∷ [])) ≡ suc (length p)
length_on p a = simp length-append (omega arith)

-- the sources have the ranks k, k + 1, .. in order of travel
abbrev pub RanksRise : Flow → (ℕ → ℤ) → ℕ → List ℕ → Type 0
RanksRise f D k [] = Unit {0}
RanksRise f D k (a ∷ p) = Rank f D (f.source a) k × RanksRise f D (suc k) p

module _ (f : Flow) (D : ℕ → ℤ) where
  -- one arc more
  climbs_on : (p : List ℕ) (k n a : ℕ) → length p + k ≡ n → RanksRise f D k p → Rank f D (f.source a) n → RanksRise f D k (p ++ (a ∷ []))
  climbs_on [] k n a e h x = let z : n ≡ k = omega arith in (rw z at x, tt)
  climbs_on (b ∷ p) k n a e h x = (h.0, climbs_on p (suc k) n a (omega arith) h.1 x)

  gain_on : (x y z : ℤ) (p : List ℕ) (a : ℕ) → (x +ℤ gain f p) ≡ y → (y +ℤ f.weight a) ≡ z → (x +ℤ gain f (p ++ (a ∷ []))) ≡ z
  gain_on x y z p a h k =
      let w = f.weight a in
      let g = gain f p in
      rw (gain_join f p (a ∷ [])) (omega (ints, sum x (g +ℤ (w +ℤ pos 0)), sum g (w +ℤ pos 0), sum w (pos 0), sum x g, sum y w))

  back_launch : (r i s : ℕ) (p : List ℕ) → Back f D s r p i → Rank f D s 0
  back_launch zero i s p h = rw h.1 h.0
  back_launch (suc r) i s p h = back_launch r (f.source h.0) s h.1 h.4

  back_length : (r i s : ℕ) (p : List ℕ) → Back f D s r p i → length p ≡ r
  back_length zero i s p h = rw h.2
  back_length (suc r) i s p h = rw h.5 (length_on h.1 h.0 ∙ ap suc (back_length r (f.source h.0) s h.1 h.4))

  back_climbs : (r i s : ℕ) (p : List ℕ) → Back f D s r p i → RanksRise f D 0 p
  back_climbs zero i s p h = rw h.2 tt
  back_climbs (suc r) i s p h =
      let j = f.source h.0 in
      let e = back_length r j s h.1 h.4 in
      rw h.5 (climbs_on h.1 0 r h.0 (omega arith) (back_climbs r j s h.1 h.4) h.3.holds.from)

  back_walk : (r i s : ℕ) (p : List ℕ) → Back f D s r p i → Walk f s p i
  back_walk zero i s p h = rw h.2 h.1
  back_walk (suc r) i s p h =
      let a = h.0 in
      let b = h.3.holds in
      let latch = h.2.holds.1.holds in
      let w : Walk f (f.source a) (a ∷ []) i = (record { here = b.here; from = refl; holds = rw b.enters latch }, b.enters) in
      rw h.5 (walk_join f h.1 (a ∷ []) s (f.source a) i (back_walk r (f.source a) s h.1 h.4) w)

  back_time : (r i s : ℕ) (p : List ℕ) → Back f D s r p i → (f.launch s +ℤ gain f p) ≡ D i
  back_time zero i s p h = rw (h.2, h.1) (omega (ints, h.0.holds, sum (f.launch i) (pos 0)))
  back_time (suc r) i s p h =
      let a = h.0 in
      let j = f.source a in
      rw h.5 (gain_on (f.launch s) (D j) (D i) h.1 a (back_time r j s h.1 h.4) h.3.holds.gives)

  module _ (i s : ℕ) (p : List ℕ) (h : PathTo f D i s p) where
    -- one arc more than the rank of the last one's source
    pub path_length : length p ≡ suc h.rank
    path_length =
        let e = back_length h.rank (f.source h.last) s h.before h.back in
        rw h.whole (length_on h.before h.last ∙ ap suc e)

    -- the launching node has rank 0, and so departs at its launch; stepping back lowers the rank by one each time
    pub path_launch : Rank f D s 0
    path_launch = back_launch h.rank (f.source h.last) s h.before h.back

    pub path_climbs : RanksRise f D 0 p
    path_climbs =
        let j = f.source h.last in
        let e = back_length h.rank j s h.before h.back in
        rw h.whole (climbs_on h.before 0 h.rank h.last (omega arith)
        (back_climbs h.rank j s h.before h.back) h.ends.lowest.holds.from)

    -- it goes from latch to latch, from the launching node to the last arc's source; the last arc enters i, which need be no latch
    pub path_walk : Walk f s h.before (f.source h.last) × (h.last < f.arcs) × (f.target h.last ≡ i)
    path_walk =
        let b = h.ends.lowest.holds in
        (back_walk h.rank (f.source h.last) s h.before h.back, b.here, b.enters)

    -- and brings the late arrival
    pub path_time : arrival late f D i ≡ at (f.launch s +ℤ gain f p)
    path_time =
        let j = f.source h.last in
        let e = gain_on (f.launch s) (D j) h.ends.time h.before h.last
        (back_time h.rank j s h.before h.back) h.ends.lowest.holds.gives in
        rw (h.whole, e) h.ends.arrives
