-- Tables that hold a flow reckon what the flow defines: arrivals, departures and rounds are the flow's, raised.
use mathlib.Core.Path.{◌≡◌, refl, sym, ap, ◌∙◌}
use mathlib.Core.Bool.{Bool, true, false}
use mathlib.Core.Logic.{◌≢◌}
use Prim.Native.Nat.{ℕ, zero, suc, ◌+◌, ◌-◌, ◌<◌, ◌≤◌}
use native.Mathlib.Omega.{arith}
use lib.IntN.{sub_ℕ}
use borrow.Author.Tests.{eq-eqb, ne_eqb}
use Rattle.ticks.specs.Inside.Raised.{lower, SIGNED}
use Rattle.ticks.proofs.Ints.{ints, sum, apart}
use Rattle.ticks.proofs.Raised.{span, lower-max, lower-min}
use Rattle.flow.specs.Flow.{Flow, Good, Side, late, early, When, none, at, pick, join, brings, into, arrival, departs, next}
use Rattle.tables.specs.Inside.Models.{HoldsArcs, Models, lowered}
use Rattle.tables.specs.Inside.Net.{Net, brought, better, best, degree, arrival_n, departing, depart_n, Ranged}
use Rattle.tables.proofs.WalksOverArcs.{first_better}

-- what k arcs give: none, or a time
abbrev when_of : ℕ → ℕ → When
when_of zero t = none
when_of (suc k) t = at (lower t)

better_lower : (s : Side) (a b : ℕ) → lower (better s a b) ≡ pick s (lower a) (lower b)
better_lower late a b = lower-max a b
better_lower early a b = lower-min a b

module _ (s : Side) (n : Net) {f : Flow} (good : Good f) (held : HoldsArcs n.arcs n.first f) (D : ℕ → ℕ) (ranged : Ranged f.nodes D) where
  pub brought_lower : (a : ℕ) → a < f.arcs → lower (brought n.arcs D a) ≡ brings f (lowered D) a
  brought_lower a l =
      let x = D (f.source a) in
      let h = ranged.low (f.source a) (good.leaves a l) in
      rw (held.source a l, ← held.weight a l)
      (omega (
        ints,
        held.cycle,
        span x,
        span (x + n.arcs.lead a - n.arcs.cycle),
        apart (n.arcs.lead a) n.arcs.cycle,
        sum (lower x) (sub_ℕ (n.arcs.lead a) n.arcs.cycle),
      ))

  brought_small : (a : ℕ) → a < f.arcs → brought n.arcs D a < SIGNED
  brought_small a l = rw (held.source a l) (omega (arith, held.small a l, ranged.high (f.source a) (good.leaves a l)))

  module _ (i : ℕ) (here : i < f.nodes) where
    -- arcs that do not enter i bring it nothing
    into_before : (k : ℕ) → k ≤ n.first i → into s f (lowered D) i k ≡ none
    unfolding into
    into_before zero l = refl
    into_before (suc k) l =
        let no : f.target k ≢ i = λ e. let h = held.into.outside i k here (omega (arith, held.into.rises i here, held.into.within i here)) e in
        omega (arith, h.0) in
        rw (ne_eqb (f.target k) i no) (into_before k (omega arith))

    into_here : (k : ℕ) → n.first i + k ≤ n.first (i + 1) → into s f (lowered D) i (n.first i + k) ≡ when_of k (best s n.arcs D (n.first i) k)
    unfolding into best
    into_here zero l = let e : n.first i + 0 ≡ n.first i = omega arith in rw e (into_before (n.first i) (omega arith))
    into_here (suc k) l =
        let a = n.first i + k in
        let m : a < f.arcs = omega (arith, held.into.within i here) in
        let e : n.first i + suc k ≡ suc a = omega arith in
        let h = into_here k (omega arith) in
        rw (e, eq-eqb (f.target a) i (held.into.inside i a here (omega arith) (omega arith)), h, ← brought_lower a m) (step k a m)
      where
        step : (k a : ℕ) → a < f.arcs →
            join s true (lower (brought n.arcs D a)) (when_of k (best s n.arcs D (n.first i) k))
            ≡ at (lower (better s (best s n.arcs D (n.first i) k) (brought n.arcs D a)))
        step zero a m = ap (λ (x : ℕ). at (lower x)) (sym (first_better s (brought n.arcs D a) (brought_small a m)))
        step (suc k) a m = ap at (sym (better_lower s _ _))

    into_after : (d k : ℕ) → n.first (i + 1) + d ≡ k → k ≤ f.arcs → into s f (lowered D) i k ≡ into s f (lowered D) i (n.first (i + 1))
    unfolding into
    into_after zero k e l = let h : k ≡ n.first (i + 1) = omega arith in rw h
    into_after (suc d) zero e l = let z : ⊥ = omega arith in absurd z
    into_after (suc d) (suc k) e l =
        let no : f.target k ≢ i = λ q. let h = held.into.outside i k here (omega arith) q in omega (arith, h.1) in
        rw (ne_eqb (f.target k) i no) (into_after d k (omega arith) (omega arith))

    pub arrival_models : arrival s f (lowered D) i ≡ when_of (degree n i) (arrival_n s n D i)
    unfolding arrival
    arrival_models =
        let e : n.first i + degree n i ≡ n.first (i + 1) = omega (arith, held.into.rises i here) in
        into_after (f.arcs - n.first (i + 1)) f.arcs (omega (arith, held.into.within i here)) (omega arith)
        ∙ ap (into s f (lowered D) i) (sym e)
        ∙ into_here (degree n i) (omega arith)

    depart_holds : ((i : ℕ) → i < f.nodes → lower (n.launch i) ≡ f.launch i) → ((i : ℕ) → i < f.nodes → n.latch i ≡ f.latch i) →
        lower (depart_n s n D i) ≡ next s f (lowered D) i
    unfolding depart_n next
    depart_holds launch latch = rw (arrival_models, ← latch i here, ← launch i here) (go (n.latch i) (degree n i))
      where
        go : (b : Bool) (k : ℕ) →
            lower (departing b k (arrival_n s n D i) (n.launch i)) ≡ departs b (lower (n.launch i)) (when_of k (arrival_n s n D i))
        go false k = refl
        go true zero = refl
        go true (suc k) = rw (ne_eqb (suc k) 0 (λ e. omega arith)) (lower-max _ _)

pub depart_models : (s : Side) {n : Net} {f : Flow} → Good f → Models n f → (D : ℕ → ℕ) → Ranged f.nodes D → (i : ℕ) → i < f.nodes →
    lower (depart_n s n D i) ≡ next s f (lowered D) i
depart_models s {n} good models D ranged i here = depart_holds s n good models.arcs D ranged i here models.launch models.latch
