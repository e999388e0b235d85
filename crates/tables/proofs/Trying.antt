-- What a node is raised to by what it is: a latch that an arc enters, one that none enters, or no latch. And what raising it in place comes to.
use mathlib.Core.Path.{◌≡◌, refl, sym, ap, ◌∙◌}
use mathlib.Core.Bool.{Bool, true, false, cond}
use mathlib.Core.List.{List}
use Prim.Native.Nat.{ℕ, suc, ◌+◌, ◌-◌, ◌<◌, ◌≤◌, max}
use native.Mathlib.Omega.{arith}
use lib.Dec.{ltb}
use lib.ListN.{get_or, set}
use borrow.Author.Tests.{eq-eqb, ne_eqb, ltb-true, ltb-false}
use Rattle.flow.specs.Flow.{Side}
use Rattle.tables.specs.Inside.Net.{Net, times_of, best, degree, arrival_n, Ranged}
use Rattle.tables.specs.Inside.Raise.{raised, Given, Brings, Lifted, Tried, stays, rises, Sweepable}
use Rattle.tables.proofs.WalksOverArcs.{best_given}
use Rattle.tables.proofs.Raising.{raised_above}

module _ (s : Side) (n : Net) (D : ℕ → ℕ) (i : ℕ) where
  pub raised_arc : n.latch i ≡ true → n.first i < n.first (i + 1) → raised s n D i ≡ max (arrival_n s n D i) (D i)
  unfolding raised
  raised_arc e l = rw (e, ne_eqb (degree n i) 0 (λ h. omega arith))

  pub raised_bare : n.first (i + 1) ≤ n.first i → raised s n D i ≡ D i
  unfolding raised
  raised_bare l = rw (eq-eqb (degree n i) 0 (omega arith)) (go (n.latch i))
    where
      go : (b : Bool) → cond b (D i) (D i) ≡ D i
      go true = refl
      go false = refl

  pub raised_flop : n.latch i ≡ false → raised s n D i ≡ D i
  unfolding raised
  raised_flop e = rw e

-- what trying a node comes to, by the flag
module _ (s : Side) (n : Net) (i : ℕ) (departs parents : List ℕ) where
  pub record Rose (departs' parents' : List ℕ) : Type 0 where
    pub arc : ℕ
    pub up : get_or departs i 0 < raised s n (times_of departs) i
    pub brings : Brings n.arcs (times_of departs) (n.first i) (n.first (i + 1)) (arrival_n s n (times_of departs) i) arc
    pub stored : departs' ≡ set departs i (raised s n (times_of departs) i)
    pub noted : parents' ≡ set parents i arc

module _ {s : Side} {n : Net} {i : ℕ} {departs parents : List ℕ} where
  pub tried_rises : {b : Bool} {departs' parents' : List ℕ} → Tried s n i departs parents b departs' parents' → b ≡ true →
      Rose s n i departs parents departs' parents'
  tried_rises (stays e) q = let z : ◌≡◌ {A = ℕ} 0 1 = cc in let k : ⊥ = omega arith in absurd k
  tried_rises (rises a up d) q = record { arc = a; up = up; brings = d; stored = refl; noted = refl }

  pub tried_stays : {b : Bool} {departs' parents' : List ℕ} → Tried s n i departs parents b departs' parents' → b ≡ false →
      (raised s n (times_of departs) i ≡ get_or departs i 0) × (departs' ≡ departs) × (parents' ≡ parents)
  tried_stays (stays e) q = (e, refl, refl)
  tried_stays (rises a up d) q = let z : ◌≡◌ {A = ℕ} 0 1 = cc in let k : ⊥ = omega arith in absurd k

-- an arrival is brought by an arc
pub arrival_given : (s : Side) {n : Net} {l : ℕ} → Sweepable n l → {D : ℕ → ℕ} → Ranged l D → (i : ℕ) → i < l → n.first i < n.first (i + 1) →
    Given n.arcs D (n.first i) (n.first (i + 1)) (arrival_n s n D i)
arrival_given s {n} t {D} ranged i here some =
    let k = degree n i - 1 in
    let e : degree n i ≡ suc k = omega arith in
    let o = best_given s n.arcs D (n.first i) k (λ b low high.
    let m : b < t.arcs = omega (arith, t.shaped.ends i here) in
    omega (arith, ranged.high (n.arcs.source b) (t.shaped.sources b m), t.leads b m)) in
    (o.0, o.1, omega (arith, o.2), o.3 ∙ ap (best s n.arcs D (n.first i)) (sym e))

-- what a node is raised to is stored
pub lifted_by : {s : Side} {n : Net} {l : ℕ} → Sweepable n l → {i : ℕ} → i < l → {before : List ℕ} {t : ℕ} → t ≡ raised s n (times_of before) i →
    Lifted s n i before (ltb (get_or before i 0) t) (set before i t)
lifted_by {s} w {i} here {before} {t} e =
    let low = raised_above s w.shaped (times_of before) i here in
    record {
      stored = rw e;
      rises = λ q. rw (← e) (ltb-true (get_or before i 0) t q);
      stays = λ q. let h = ltb-false (get_or before i 0) t q in omega (arith, e, low);
    }
