-- What tables give as the arrivals at a node can be told as signed numbers; where the tables hold a flow, these are its arrivals, raised.
use mathlib.Core.Path.{◌≡◌, refl}
use mathlib.Core.Bool.{cond}
use Prim.Native.Nat.{ℕ, zero, suc, ◌+◌, ◌-◌, ◌≤◌, ◌<◌}
use native.Mathlib.Omega.{arith}
use lib.Dec.{eqb}
use borrow.Author.Tests.{ne_eqb}
use Rattle.flow.specs.Flow.{Flow, Good, Side, late, early, none, at, arrival}
use Rattle.tables.specs.Inside.Net.{Arcs, Net, times_of, brought, best, degree, arrival_n, Ranged}
use Rattle.tables.specs.Inside.Models.{HoldsArcs, lowered}
use Rattle.tables.proofs.Models.{arrival_models}
use Rattle.timing.specs.Inside.Web.{arcs_in}
use Rattle.timing.specs.Inside.Results.{Tellable}
use Rattle.std.proofs.Common.{Some}
use Rattle.timing.specs.declared.web.Web.{Web}
use Rattle.ticks.specs.Inside.Raised.{lower, SIGNED}

-- no best of arcs is larger than what they bring
module _ (g : Arcs) (D : ℕ → ℕ) (a most : ℕ) (some : 0 < most) where
  best_late : (k : ℕ) → ((j : ℕ) → j < k → brought g D (a + j) < most) → best late g D a k < most
  unfolding best
  best_late zero h = some
  best_late (suc k) h = let r = best_late k (λ j l. h j (omega arith)) in omega (arith, h k (omega arith))

  best_below : (s : Side) (k : ℕ) → ((j : ℕ) → j < suc k → brought g D (a + j) < most) → best s g D a (suc k) < most
  unfolding best
  best_below late k h = best_late (suc k) h
  best_below early k h = omega (arith, h k (omega arith))

-- where an arc leads in, the arrival can be told as a signed number
pub arrival_below : (s : Side) (w : Web) {D : ℕ → ℕ} → Ranged w.nodes D → (from to : ℕ) → from < to → to ≤ w.arcs →
    best s (arcs_in w) D from (to - from) < SIGNED
arrival_below s w {D} ranged from to some within = go (to - from) refl
  where
    go : (k : ℕ) → to - from ≡ k → best s (arcs_in w) D from k < SIGNED
    go zero e = let never : ⊥ = omega arith in absurd never
    go (suc k) e = best_below (arcs_in w) D from SIGNED (omega arith) s k
        (λ j l. omega (arith, w.leads (from + j) (omega arith), ranged.high (times_of w.source.now (from + j)) (w.shaped.sources (from + j) (omega arith))))

pub tellable : {x y : ℕ} → x < SIGNED → y < SIGNED → Tellable (Some (record { late = x; early = y }))
tellable {x} {y} h k = record {
  late = λ a e. let q : x ≡ a.late = cc in omega arith;
  early = λ a e. let q : y ≡ a.early = cc in omega arith;
}

-- the arrival of the flow that the tables hold
pub arrival_enters : (s : Side) (n : Net) {f : Flow} → Good f → HoldsArcs n.arcs n.first f → {D : ℕ → ℕ} → Ranged f.nodes D → (i : ℕ) → i < f.nodes →
    arrival s f (lowered D) i ≡ cond (eqb (degree n i) 0) none (at (lower (arrival_n s n D i)))
arrival_enters s n {f} good e {D} ranged i here = go (degree n i) refl
  where
    go : (k : ℕ) → degree n i ≡ k → arrival s f (lowered D) i ≡ cond (eqb k 0) none (at (lower (best s n.arcs D (n.first i) k)))
    go zero d = rw d at (arrival_models s n good e D ranged i here)
    go (suc k) d = rw (ne_eqb (suc k) 0 (λ z. omega arith)) (rw d at (arrival_models s n good e D ranged i here))
