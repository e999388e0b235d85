-- A walk goes over arcs of the flow, so it is one in each flow that is the same there, with the same gain: a growing ring too.
use mathlib.Core.Path.{◌≡◌, refl, ◌∙◌}
use mathlib.Core.List.{List, [], ◌∷◌}
use Prim.Native.Nat.{ℕ}
use lib.IntN.{ℤ}
use Rattle.flow.specs.Flow.{Flow, Good}
use Rattle.flow.specs.Inside.Same.{Same}
use Rattle.flow.specs.Walk.{Walk, gain, sources, GrowingRing, Shown}

module _ (f g : Flow) (good : Good f) (same : Same f g) where
  pub walk_same : (p : List ℕ) (i j : ℕ) → Walk f i p j → Walk g i p j
  walk_same [] i j w = w
  walk_same (a ∷ p) i j w =
      let l = w.0.here in
      let t = same.target a l in
      let latch = same.latch (f.target a) (good.enters a l) ∙ w.0.holds in
      let rest = walk_same p (f.target a) j w.1 in
      (record { here = rw same.arcs l; from = same.source a l ∙ w.0.from; holds = rw t latch }, rw t rest)

  pub gain_same : (p : List ℕ) (i j : ℕ) → Walk f i p j → gain g p ≡ gain f p
  gain_same [] i j w = refl
  gain_same (a ∷ p) i j w = rw (same.weight a w.0.here, gain_same p (f.target a) j w.1)

  pub sources_same : (p : List ℕ) (i j : ℕ) → Walk f i p j → sources g p ≡ sources f p
  sources_same [] i j w = refl
  sources_same (a ∷ p) i j w = rw (same.source a w.0.here, sources_same p (f.target a) j w.1)

  pub growing_same : GrowingRing f → GrowingRing g
  growing_same h =
      let r = h.ring in
      record {
        ring = record {
          start = r.start;
          path = r.path;
          some = r.some;
          closed = walk_same r.path r.start r.start r.closed;
          distinct = rw (sources_same r.path r.start r.start r.closed) r.distinct;
        };
        grows = rw (gain_same r.path r.start r.start r.closed) h.grows;
      }

  pub shown_same : (count : ℕ) (total : ℤ) (before after : List ℕ) → Shown f count total before after → Shown g count total before after
  unfolding growing_same
  shown_same count total before after h =
      let r = h.grows.ring in
      record {
        grows = growing_same h.grows;
        lowest = rw (sources_same r.path r.start r.start r.closed) h.lowest;
        counted = h.counted;
        gains = rw (gain_same r.path r.start r.start r.closed) h.gains;
        written = h.written;
      }
