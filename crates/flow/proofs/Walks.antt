-- Departures that fit are no sooner than what any walk brings. So nothing fits a flow with a closed walk of gain above zero.
use mathlib.Core.Path.{◌≡◌, sym, ◌∙◌}
use mathlib.Core.Bool.{true}
use mathlib.Core.List.{List, [], ◌∷◌}
use Prim.Native.Nat.{ℕ, ◌<◌}
use lib.IntN.{ℤ, pos, ◌+ℤ◌}
use lib.Signed.{◌≤ℤ◌, ◌<ℤ◌, ≤ℤ_refl}
use Rattle.ticks.proofs.Ints.{ints, sum}
use Rattle.ticks.proofs.Order.{≤ℤ_trans, plus_mono}
use Rattle.flow.specs.Flow.{Flow, Good, late, brings, Fits}
use Rattle.flow.specs.Inside.Within.{Within}
use Rattle.flow.specs.Walk.{Walk, gain, sources, Every, Ring, GrowingRing}
use Rattle.flow.proofs.OneRound.{arc_next}

-- no arc brings a latch more than its departure
abbrev pub Carried : Flow → (ℕ → ℤ) → Type 0
Carried f D = (a : ℕ) → a < f.arcs → f.latch (f.target a) ≡ true → brings f D a ≤ℤ D (f.target a)

pub fits_holds : (f : Flow) → Good f → (D : ℕ → ℤ) → Fits late f D → Carried f D
fits_holds f good D fits a h e = rw (fits (f.target a) (good.enters a h)) (arc_next f D a h e)

pub within_holds : (g f : Flow) → Good g → Within late g f → (D : ℕ → ℤ) → Carried f D → Carried g D
within_holds g f good w D holds a h e =
    let c = (w.cover a h).1 in
    let k : f.latch (g.target a) ≡ true = sym (w.latch (g.target a) (good.enters a h)) ∙ e in
    let x = rw (c.source, c.target) at (holds (w.cover a h).0 c.here (rw c.target k)) in
    ≤ℤ_trans (plus_mono (≤ℤ_refl (D (g.source a))) c.weight) x

module _ (f : Flow) (D : ℕ → ℤ) (holds : Carried f D) where
  walk_holds : (p : List ℕ) (i j : ℕ) → Walk f i p j → (D i +ℤ gain f p) ≤ℤ D j
  walk_holds [] i j e = rw e (omega (ints, sum (D j) (pos 0)))
  walk_holds (a ∷ p) i j w =
      let k = walk_holds p (f.target a) j w.1 in
      let h : (D i +ℤ f.weight a) ≤ℤ D (f.target a) = rw w.0.from at (holds a w.0.here w.0.holds) in
      let v = f.weight a in
      let g = gain f p in
      omega (ints, h, k, sum (D i) (v +ℤ g), sum v g, sum (D (f.target a)) g, sum (D i) v)

  holds_closed : (p : List ℕ) (i : ℕ) → Walk f i p i → pos 0 <ℤ gain f p → ⊥
  holds_closed p i w h = omega (ints, walk_holds p i i w, sum (D i) (gain f p))

  pub holds_calm : GrowingRing f → ⊥
  holds_calm r = holds_closed r.ring.path r.ring.start r.ring.closed r.grows

module _ (f : Flow) (good : Good f) (D : ℕ → ℤ) (fits : Fits late f D) where
  pub fits_calm : GrowingRing f → ⊥
  fits_calm = holds_calm f D (fits_holds f good D fits)

-- every arc of a closed walk leaves a latch
leaves_latch : (f : Flow) (p : List ℕ) (i j : ℕ) → f.latch i ≡ true → Walk f i p j →
    Every (λ k. f.latch k ≡ true) (sources f p)
leaves_latch f [] i j h w = tt
leaves_latch f (a ∷ p) i j h w = (rw w.0.from h, leaves_latch f p (f.target a) j w.0.holds w.1)

ends_latch : (f : Flow) (p : List ℕ) (i j : ℕ) → f.latch i ≡ true → Walk f i p j → f.latch j ≡ true
ends_latch f [] i j h e = rw (← e) h
ends_latch f (a ∷ p) i j h w = ends_latch f p (f.target a) j w.0.holds w.1

closed_latches : (f : Flow) (p : List ℕ) (i : ℕ) → Walk f i p i → Every (λ k. f.latch k ≡ true) (sources f p)
closed_latches f [] i w = tt
closed_latches f (a ∷ p) i w = leaves_latch f (a ∷ p) i i (ends_latch f p (f.target a) i w.0.holds w.1) w

pub ring_latches : (f : Flow) (r : Ring f) → Every (λ k. f.latch k ≡ true) (sources f r.path)
ring_latches f r = closed_latches f r.path r.start r.closed
