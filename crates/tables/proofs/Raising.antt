-- Raises keep the order of departures, take no more room than there is, and are the flow's updates in place.
use mathlib.Core.Path.{◌≡◌, sym, ap, ◌∙◌}
use mathlib.Core.Bool.{Bool, true, false, cond}
use Prim.Native.Nat.{ℕ, zero, suc, ◌+◌, ◌-◌, ◌*◌, ◌<◌, ◌≤◌, max}
use native.Mathlib.Omega.{arith}
use native.Mathlib.Decide.{ℕ_discrete}
use lib.Dec.{eqb}
use borrow.Author.Tests.{ne_eqb}
use Rattle.ticks.specs.Inside.Raised.{RAISE, lower, FAR}
use Rattle.ticks.proofs.Raised.{lower-le, le-lower}
use Rattle.flow.specs.Flow.{Flow, Good, Side, late, early, next, Least}
use Rattle.flow.specs.Inside.Rounds.{round}
use Rattle.flow.specs.Inside.Within.{Bounded}
use Rattle.flow.specs.Inside.Updates.{Updated, launched, updated}
use Rattle.flow.proofs.Updates.{updated_rises, updated_least, pass_round}
use Rattle.tables.specs.Inside.Net.{Arcs, Net, brought, better, best, launching, degree, arrival_n, departing, depart_n, Shaped, Ranged}
use Rattle.tables.specs.Inside.Models.{Models, lowered}
use Rattle.tables.specs.Inside.Raise.{raised, Raise, Risen, at_launch, raise, Passed, none, pass, Room, Sweepable}
use Rattle.tables.specs.Inside.Passing.{Unmoved, Still}
use Rattle.tables.proofs.Models.{depart_models}

step : {a b c : ℕ} → a ≤ b → b ≤ c → a ≤ c
step h k = omega arith

better_mono : (s : Side) (a b c d : ℕ) → a ≤ b → c ≤ d → better s a c ≤ better s b d
better_mono late a b c d h k = omega arith
better_mono early a b c d h k = omega arith

departing_mono : (b : Bool) (d t u x y : ℕ) → t ≤ u → x ≤ y → departing b d t x ≤ departing b d u y
departing_mono b d t u x y h k = go b (eqb d 0)
  where
    go : (b z : Bool) → cond b (cond z x (max t x)) x ≤ cond b (cond z y (max u y)) y
    go false z = k
    go true false = omega arith
    go true true = k

departing_above : (b : Bool) (d t x : ℕ) → x ≤ departing b d t x
departing_above b d t x = go b (eqb d 0)
  where
    go : (b z : Bool) → x ≤ cond b (cond z x (max t x)) x
    go false z = omega arith
    go true false = omega arith
    go true true = omega arith

-- D is nowhere later than E, over l nodes
abbrev pub NoLater : ℕ → (ℕ → ℕ) → (ℕ → ℕ) → Type 0
NoLater l D E = (i : ℕ) → i < l → D i ≤ E i

module _ (s : Side) {n : Net} {l m : ℕ} (shaped : Shaped n l m) where
  best_mono : (D E : ℕ → ℕ) → NoLater l D E → (a k : ℕ) → a + k ≤ m → best s n.arcs D a k ≤ best s n.arcs E a k
  unfolding best
  best_mono D E h a zero r = omega arith
  best_mono D E h a (suc k) r =
      let x = h (n.arcs.source (a + k)) (shaped.sources (a + k) (omega arith)) in
      better_mono s _ _ _ _ (best_mono D E h a k (omega arith)) (omega arith)

  pub raised_mono : (D E : ℕ → ℕ) → NoLater l D E → NoLater l (raised s n D) (raised s n E)
  unfolding raised
  raised_mono D E h i here = departing_mono (n.latch i) (degree n i) _ _ _ _
      (best_mono D E h (n.first i) (degree n i) (omega (arith, shaped.rises i here, shaped.ends i here))) (h i here)

  pub raised_above : (D : ℕ → ℕ) → NoLater l D (raised s n D)
  unfolding raised
  raised_above D i here = departing_above (n.latch i) (degree n i) (arrival_n s n D i) (D i)

  pub raise_rises : {i : ℕ} {D E : ℕ → ℕ} → Raise s n l i D E → NoLater l D E
  raise_rises {i} {D} r j here = elim (ℕ_discrete j i) [
    | yes q ↦ rw (q, r.new) (raised_above D i r.here)
    | no q ↦ rw (r.rest j here q) (omega arith)
  ]

  pub raised_still : (D E : ℕ → ℕ) → Unmoved l D E → ((j : ℕ) → j < l → raised s n D j ≤ E j) → Still s n l E
  raised_still D E same h j here =
      omega (arith, raised_mono E D (λ i k. omega (arith, same i k)) j here, h j here, raised_above E j here)

  pub risen_launch : {launch D : ℕ → ℕ} → Risen s n l launch D → NoLater l launch D
  risen_launch (at_launch e) i here = rw (e i here) (omega arith)
  risen_launch (raise {D} {E} i h r g) j here = omega (arith, risen_launch h j here, raise_rises g j here)

  -- passes
  pub passed_later : {base : ℕ → ℕ} {k : ℕ} {D : ℕ → ℕ} → Passed s n l base k D → NoLater l base D
  passed_later (none h) i here = h i here
  passed_later (pass {k} {D} {E} h g r) i here = omega (arith, passed_later h i here, raised_above D i here, r i here)

  -- passes from a base are passes from all that is below it
  pub passed_from : {launch base : ℕ → ℕ} → NoLater l launch base → {k : ℕ} {D : ℕ → ℕ} → Passed s n l base k D → Passed s n l launch k D
  passed_from b (none {D} h) = none {D = D} (λ i here. omega (arith, b i here, h i here))
  passed_from b (pass {k} {D} {E} h g r) = pass {k = k} {D = D} {E = E} (passed_from b h) g r

-- room: a raise adds no more than a lead
pub room_ranged : {l b : ℕ} {D : ℕ → ℕ} → Room l b D → Ranged l D
room_ranged r = record { low = r.low; high = λ i here. omega (arith, r.high i here) }

pub room_less : {l c : ℕ} {D : ℕ → ℕ} (b : ℕ) → b ≤ c → Room l c D → Room l b D
room_less b h r = record { low = r.low; high = λ i here. omega (arith, r.high i here) }

lead_high : (g : Arcs) (D : ℕ → ℕ) (x a : ℕ) → D (g.source a) < x → g.lead a < RAISE → brought g D a < x + RAISE
lead_high g D x a h k = omega arith

best_high : (s : Side) (g : Arcs) (D : ℕ → ℕ) (x a k : ℕ) → ((b : ℕ) → b < a + suc k → D (g.source b) < x) →
    ((b : ℕ) → b < a + suc k → g.lead b < RAISE) → best s g D a (suc k) < x + RAISE
unfolding best
best_high late g D x a zero h r = let t = lead_high g D x (a + 0) (h (a + 0) (omega arith)) (r (a + 0) (omega arith)) in omega arith
best_high late g D x a (suc k) h r =
    let t = lead_high g D x (a + suc k) (h (a + suc k) (omega arith)) (r (a + suc k) (omega arith)) in
    let u = best_high late g D x a k (λ b l. h b (omega arith)) (λ b l. r b (omega arith)) in
    omega arith
best_high early g D x a k h r = let t = lead_high g D x (a + k) (h (a + k) (omega arith)) (r (a + k) (omega arith)) in omega arith

module _ (s : Side) {n : Net} {l : ℕ} (t : Sweepable n l) where
  raised_high : (D : ℕ → ℕ) (x : ℕ) → ((i : ℕ) → i < l → D i < x) → (i : ℕ) → i < l → raised s n D i < x + RAISE
  unfolding raised
  raised_high D x h i here = go (n.latch i) (degree n i) (omega (arith, t.shaped.rises i here))
    where
      go : (b : Bool) (d : ℕ) → n.first i + d ≤ n.first (i + 1) → departing b d (best s n.arcs D (n.first i) d) (D i) < x + RAISE
      go false d e = omega (arith, h i here)
      go true zero e = omega (arith, h i here)
      go true (suc d) e =
          let u = best_high s n.arcs D x (n.first i) d
          (λ b o. h (n.arcs.source b) (t.shaped.sources b (omega (arith, t.shaped.ends i here))))
          (λ b o. t.leads b (omega (arith, t.shaped.ends i here))) in
          rw (ne_eqb (suc d) 0 (λ q. omega arith)) (omega (arith, h i here))

  pub room_raise : {i : ℕ} {D E : ℕ → ℕ} (b : ℕ) → Raise s n l i D E → Room l (suc b) D → Room l b E
  room_raise {i} {D} {E} b g r = record {
    low = λ j here. omega (arith, r.low j here, raise_rises s t.shaped g j here);
    high = λ j here. elim (ℕ_discrete j i) [
      | yes q ↦ rw (q, g.new) (omega (arith, r.high i g.here, raised_high D (FAR - suc b * RAISE) (λ k o. omega (arith, r.high k o)) i g.here))
      | no q ↦ rw (g.rest j here q) (omega (arith, r.high j here))
    ];
  }

-- raises are updates of every flow that the tables hold
module _ (s : Side) {n : Net} {l m : ℕ} (shaped : Shaped n l m) {launch : ℕ → ℕ} {f : Flow} (good : Good f) (models : Models (launching n launch) f)
    (same : f.nodes ≡ l) where
  -- where a node departs between its launch and what the others lead to, both say the same
  raised_is : (D : ℕ → ℕ) (i : ℕ) → launch i ≤ D i → D i ≤ depart_n s (launching n launch) D i → raised s n D i ≡ depart_n s (launching n launch) D i
  unfolding raised depart_n
  raised_is D i low high = go (n.latch i) (eqb (degree n i) 0) high
    where
      go : (b z : Bool) → D i ≤ cond b (cond z (launch i) (max (arrival_n s n D i) (launch i))) (launch i) →
          cond b (cond z (D i) (max (arrival_n s n D i) (D i))) (D i) ≡ cond b (cond z (launch i) (max (arrival_n s n D i) (launch i))) (launch i)
      go false z h = omega arith
      go true true h = omega arith
      go true false h = omega arith

  raised_next : {D : ℕ → ℕ} → Risen s n l launch D → Ranged l D → Updated s f (lowered D) → (i : ℕ) → i < l → lower (raised s n D i) ≡ next s f (lowered D) i
  raised_next {D} h r u i here =
      let e = depart_models s good models D (rw same r) i (rw same here) in
      let low = risen_launch s shaped h i here in
      let high = le-lower (D i) (depart_n s (launching n launch) D i) (rw e (updated_rises s f good u i (rw same here))) in
      ap lower (raised_is D i low high) ∙ e

  pub risen_updated : {D : ℕ → ℕ} → Risen s n l launch D → Updated s f (lowered D)
  risen_updated (at_launch {D} e) = launched {E = lowered D} (λ i here. ap lower (e i (rw same at here)) ∙ models.launch i here)
  risen_updated (raise {D} {E} i h r g) =
      let u = risen_updated h in
      updated {E = lowered D} {F = lowered E} i u (record {
        here = rw same g.here;
        new = ap lower g.new ∙ raised_next h r u i g.here;
        rest = λ j here d. ap lower (g.rest j (rw same at here) d);
      })

  -- nothing is left to raise
  pub risen_least : {D : ℕ → ℕ} → Risen s n l launch D → Ranged l D → Still s n l D → Least s f (lowered D)
  risen_least h r still = updated_least s f good (risen_updated h) (λ i here.
      let k = rw same at here in
      sym (ap lower (still i k)) ∙ raised_next h r (risen_updated h) i k)

  -- what the others lead to is no later than what a node is raised to
  depart_raised : (D : ℕ → ℕ) (i : ℕ) → launch i ≤ D i → depart_n s (launching n launch) D i ≤ raised s n D i
  unfolding raised depart_n
  depart_raised D i low = departing_mono (n.latch i) (degree n i) (arrival_n s n D i) (arrival_n s n D i) (launch i) (D i) (omega arith) low

  pub passed_round : {k : ℕ} {D : ℕ → ℕ} → Passed s n l launch k D → Bounded late f (round s f k) (lowered D)
  unfolding round
  passed_round (none {D} h) i here = rw (← models.launch i here) (lower-le (h i (rw same at here)))
  passed_round (pass {k} {D} {E} h g r) j here = pass_round s f good k (lowered D) (lowered E) (passed_round h) (λ i here.
      let j = rw same at here in
      let e = depart_models s good models D (rw same g) i here in
      rw (← e) (lower-le (step (depart_raised D i (passed_later s shaped h i j)) (r i j)))) j here
