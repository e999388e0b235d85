-- A walk back over arcs that each enter the node before. The first node that comes twice closes a ring of distinct nodes, which may be started
-- at any place between.
use mathlib.Core.Path.{◌≡◌, sym, ap}
use mathlib.Core.List.{List, ◌++◌}
use mathlib.Core.Logic.{◌≢◌}
use Prim.Native.Nat.{ℕ, zero, suc, ◌+◌, ◌-◌, ◌<◌, ◌≤◌}
use native.Mathlib.Omega.{arith}
use Rattle.flow.specs.Flow.{Flow}
use Rattle.flow.specs.Walk.{Step, Walk, sources, Every, Distinct}
use Rattle.flow.specs.Inside.WalkBack.{route_back}
use Rattle.flow.proofs.Pigeonhole.{Fresh, twice_apart}
use Rattle.flow.proofs.Joined.{every_join, distinct_join, sources_join, walk_join}

pub record Steps (f : Flow) (n : ℕ) (node arc : ℕ → ℕ) : Type 0 where
  pub small : (d : ℕ) → d ≤ n → node d < f.nodes
  pub step : (d : ℕ) → d < n → Step f (node (suc d)) (arc d)
  pub enters : (d : ℕ) → d < n → f.target (arc d) ≡ node d

module _ (f : Flow) (n : ℕ) (node arc : ℕ → ℕ) (steps : Steps f n node arc) where
  pub walk_back : (d b a : ℕ) → a + d ≡ b → b ≤ n → Walk f (node b) (route_back arc b d) (node a)
  walk_back zero b a e l = let x : b ≡ a = omega arith in ap node x
  walk_back (suc d) zero a e l = let z : ⊥ = omega arith in absurd z
  walk_back (suc d) (suc b) a e l = (steps.step b (omega arith), rw (steps.enters b (omega arith)) (walk_back d b a (omega arith) (omega arith)))

  -- the arcs leave the nodes after place a, up to place b
  leaves_every : (P : ℕ → Type 0) (d b a : ℕ) → a + d ≡ b → b ≤ n →
      ((x : ℕ) → a < x → x ≤ b → P (node x)) → Every P (sources f (route_back arc b d))
  leaves_every P zero b a e l h = tt
  leaves_every P (suc d) zero a e l h = tt
  leaves_every P (suc d) (suc b) a e l h = (
    rw (steps.step b (omega arith)).from (h (suc b) (omega arith) (omega arith)),
    leaves_every P d b a (omega arith) (omega arith) (λ x k m. h x k (omega arith)),
  )

  leaves_distinct : (d b a : ℕ) → a + d ≡ b → b ≤ n →
      ((y : ℕ) → y ≤ b → (x : ℕ) → a < x → x < y → node x ≢ node y) → Distinct (sources f (route_back arc b d))
  leaves_distinct zero b a e l h = tt
  leaves_distinct (suc d) zero a e l h = tt
  leaves_distinct (suc d) (suc b) a e l h = (
    rw (steps.step b (omega arith)).from
        (leaves_every (λ y. node (suc b) ≢ y) d b a (omega arith) (omega arith) (λ x k m r. h (suc b) (omega arith) x k (omega arith) (sym r))),
    leaves_distinct d b a (omega arith) (omega arith) (λ y k. h y (omega arith)),
  )

  module _ (a b low : ℕ) (above : a < low) (below : low ≤ b) (bound : b ≤ n) (same : node a ≡ node b) (fresh : Fresh node b) where
    abbrev pub front : List ℕ
    front = route_back arc low (low - a)

    abbrev pub rest : List ℕ
    rest = route_back arc b (b - low)

    pub ring_every : (P : ℕ → Type 0) → ((x : ℕ) → a < x → x ≤ b → P (node x)) → Every P (sources f (front ++ rest))
    ring_every P h = rw (sources_join f front rest) (every_join P (sources f front) (sources f rest)
        (leaves_every P (low - a) low a (omega arith) (omega arith) (λ x k m. h x k (omega arith)))
        (leaves_every P (b - low) b low (omega arith) bound (λ x k m. h x (omega arith) m)))

    pub ring_closed : Walk f (node low) (front ++ rest) (node low)
    ring_closed = walk_join f front rest (node low) (node b) (node low)
        (rw same at (walk_back (low - a) low a (omega arith) (omega arith))) (walk_back (b - low) b low (omega arith) bound)

    pub ring_distinct : Distinct (sources f (front ++ rest))
    ring_distinct =
        let apart = twice_apart node a b same fresh in
        rw (sources_join f front rest) (distinct_join (sources f front) (sources f rest)
        (leaves_distinct (low - a) low a (omega arith) (omega arith) (λ y k. apart y (omega arith)))
        (leaves_distinct (b - low) b low (omega arith) bound (λ y k x h. apart y k x (omega arith)))
        (leaves_every (λ i. Every (λ j. i ≢ j) (sources f rest)) (low - a) low a (omega arith) (omega arith)
        (λ x h k. leaves_every (λ j. node x ≢ j) (b - low) b low (omega arith) bound (λ y p q. apart y q x h (omega arith)))))
