-- That no other ring can be shown, as a check: all walks from a node that pass no node twice are followed to their end.
use mathlib.Core.Path.{◌≡◌}
use mathlib.Core.List.{List, [], ◌∷◌}
use mathlib.Core.Logic.{◌≢◌}
use Prim.Native.Nat.{ℕ, zero, suc, ◌<◌, ◌≤◌}
use native.Mathlib.Omega.{arith}
use lib.ListN.{length}
use Rattle.flow.specs.Flow.{Flow, Good}
use Rattle.flow.specs.Walk.{Walk, Ring, sources, Every, Distinct}
use Rattle.known.proofs.Checks.{Check, given, always, never, ◌and◌, ◌or◌, less, equal, unequal, equals, below}

-- x is one of the list, so the list is not apart from x
abbrev pub among : (x : ℕ) (ys : List ℕ) → Check (Every (λ y. y ≢ x) ys → ⊥)
among x [] = never
among x (y ∷ ys) = given (λ e h. h.0 e) (equal y x) or given (λ k h. k h.1) (among x ys)

-- one of the list is below s
abbrev pub under : (s : ℕ) (ys : List ℕ) → Check (Every (λ y. s ≤ y) ys → ⊥)
under s [] = never
under s (y ∷ ys) = given (λ l h. let k = h.0 in omega arith) (less y s) or given (λ k h. k h.1) (under s ys)

-- none of the nodes seen comes again
abbrev pub Unvisited : List ℕ → List ℕ → Type 0
Unvisited seen ys = Every (λ y. Every (λ x. x ≢ y) seen) ys

module _ (f : Flow) (j : ℕ) where
  abbrev pub Follows : ℕ → List ℕ → (List ℕ → Type 0) → Type 0
  Follows i seen Q = (p : List ℕ) → Walk f i p j → Distinct (sources f p) → Unvisited seen (sources f p) → Q p

  fresh_on : (i : ℕ) (seen ys : List ℕ) → Every (λ y. i ≢ y) ys → Unvisited seen ys → Unvisited (i ∷ seen) ys
  fresh_on i seen [] h k = tt
  fresh_on i seen (y ∷ ys) h k = ((h.0, k.0), fresh_on i seen ys h.1 k.1)

  -- at its end, or seen already, or over each arc that leaves i
  pub join : (Q : List ℕ → Type 0) (i : ℕ) (seen : List ℕ) → (i ≡ j → Q []) →
      ((a : ℕ) → a < f.arcs → f.source a ≡ i → Every (λ x. x ≢ i) seen → Follows (f.target a) (i ∷ seen) (λ q. Q (a ∷ q))) → Follows i seen Q
  join Q i seen stop on [] w d fresh = stop w
  join Q i seen stop on (a ∷ q) w d fresh =
      let e = w.0.from in
      let k = rw e at d.0 in
      on a w.0.here e (rw e at fresh.0) q w.1 d.1 (fresh_on i seen (sources f q) k fresh.1)

  abbrev pub follow : (fuel i : ℕ) (seen : List ℕ) (Q : List ℕ → Type 0) → ((p : List ℕ) → Check (Q p)) → Check (Follows i seen Q)
  follow zero i seen Q check = never
  follow (suc fuel) i seen Q check =
      given (λ h. join Q i seen h.0 h.1)
      ((given (λ d e. absurd (d e)) (unequal i j) or given (λ q e. q) (check []))
      and (given (λ k a l e fresh. absurd (k fresh)) (among i seen)
      or below (λ a. given (λ d e. absurd (d e)) (unequal (f.source a) i)
      or given (λ h e fresh. h) (follow fuel (f.target a) (i ∷ seen) (λ q. Q (a ∷ q)) (λ q. check (a ∷ q)))) f.arcs))

-- a ring that is shown from its lowest node is the list
abbrev pub Shows : Flow → List ℕ → ℕ → List ℕ → Type 0
Shows f arcs s p = 0 < length p → Every (λ y. s ≤ y) (sources f p) → p ≡ arcs

abbrev pub showing : (f : Flow) (arcs : List ℕ) (s : ℕ) (p : List ℕ) → Check (Shows f arcs s p)
showing f arcs s [] = given (λ u l. let z : ⊥ = omega arith in absurd z) always
showing f arcs s (a ∷ p) = given (λ k l h. absurd (k h)) (under s (sources f (a ∷ p))) or given (λ e l h. e) (equals equal (a ∷ p) arcs)

pub fresh_none : (ys : List ℕ) → Unvisited [] ys
fresh_none [] = tt
fresh_none (y ∷ ys) = (tt, fresh_none ys)

-- a ring starts at one of the nodes
pub starts : (f : Flow) → Good f → (s : ℕ) (p : List ℕ) → 0 < length p → Walk f s p s → s < f.nodes
starts f good s [] l w = let z : ⊥ = omega arith in absurd z
starts f good s (a ∷ p) l w = rw (← w.0.from) (good.leaves a w.0.here)

-- no other ring can be shown
abbrev pub lonely : (f : Flow) (arcs : List ℕ) →
    Check (Good f → (r : Ring f) → Every (λ y. r.start ≤ y) (sources f r.path) → r.path ≡ arcs)
lonely f arcs =
    given
    (λ h good r low.
    h r.start (starts f good r.start r.path r.some r.closed) r.path r.closed r.distinct (fresh_none (sources f r.path)) r.some low)
    (below (λ s. follow f s (suc (suc f.nodes)) s [] (Shows f arcs s) (showing f arcs s)) f.nodes)
