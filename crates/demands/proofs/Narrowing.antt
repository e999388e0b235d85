-- Demand 3 of the calls: what narrowing says of the circuits' times, read in the two result buffers.
use mathlib.Core.Path.{◌≡◌, refl}
use mathlib.Core.Bool.{Bool, true, false, cond}
use mathlib.Core.List.{List}
use mathlib.Core.Logic.{◌⊎◌, inl, inr}
use Rattle.std.specs.Prelude.{Result, Ok}
use Prim.Native.Nat.{ℕ, zero, suc, ◌≤◌, ◌<◌}
use native.Mathlib.Omega.{arith}
use lib.IntN.{ℤ, pos}
use lib.Signed.{◌≤ℤ◌}
use Rattle.ticks.proofs.Ints.{ints}
use Rattle.flow.specs.Flow.{late, early, When, none, at}
use Rattle.flow.specs.Bounds.{Nested, neither, nested}
use Rattle.flow.proofs.Walks.{fits_calm}
use Rattle.circuit.specs.Circuit.{Circuit, circuit_of}
use Rattle.circuit.specs.Clock.{flow}
use Rattle.circuit.specs.Times.{arrives, setup_slack, hold_slack, Met, missed, count, or_mark}
use Rattle.circuit.specs.Narrows.{Narrows, Narrowed}
use Rattle.circuit.proofs.Sound.{Sound, good}
use Rattle.circuit.proofs.RulesInWords.{met_exactly}
use Rattle.circuit.proofs.Narrowing.{narrows_calm, narrowed}
use Rattle.timing.specs.TimingPromise.{Served, Timing}
use Rattle.image.specs.declared.refusal.Refusal.{Refusal}
use Rattle.timing.specs.declared.timing_call.Answer.{Answer}
use Rattle.timing.specs.declared.timing_call.Answer.TheVariants.{Timed}
use Rattle.demands.specs.Buffers.{Defined, Marked, Contained, Narrower, Calmer}
use Rattle.demands.proofs.ByAnswer.{outcome, timed_served, timed_defined, loop_shown, served_sound}

-- fewer pass a test where whatever fails the other fails it
count_fewer : (p q : ℕ → Bool) (n : ℕ) → ((i : ℕ) → i < n → q i ≡ false → p i ≡ false) → count p n ≤ count q n
unfolding count
count_fewer p q zero h = omega arith
count_fewer p q (suc n) h = go (p n) (q n) refl refl (count_fewer p q n (λ i l. h i (omega arith)))
  where
    go : (a b : Bool) → p n ≡ a → q n ≡ b → count p n ≤ count q n → cond a (suc (count p n)) (count p n) ≤ cond b (suc (count q n)) (count q n)
    go true true e f k = omega arith
    go true false e f k = let g = h n (omega arith) f in let z : ◌≡◌ {A = ℕ} 0 1 = cc in omega arith
    go false true e f k = omega arith
    go false false e f k = k

counts_fewer : (p q : ℕ → Bool) (m n : ℕ) → m ≡ n → ((i : ℕ) → i < n → q i ≡ false → p i ≡ false) → count p m ≤ count q n
counts_fewer p q m n e h = rw e (count_fewer p q n h)

missed_less : (f g : ℤ → ℤ) (x y : When) → (Met f x → Met g y) → missed f x ≡ false → missed g y ≡ false
missed_less f g x y h e = (met_exactly g y).1 (h ((met_exactly f x).0 e))

-- a check that was met, by the numbers
slack_stays : (f g : ℤ → ℤ) (x y : When) → (Met f x → Met g y) → pos 0 ≤ℤ or_mark f x → pos 0 ≤ℤ or_mark g y
slack_stays f g x none h k = omega ints
slack_stays f g none (at u) h k = h tt
slack_stays f g (at t) (at u) h k = h k

arrivals_stay : {x y x' y' : When} → Nested early x' x → Nested late x' y' → Nested late y' y →
    Marked (or_mark (λ t. t) x) (or_mark (λ t. t) y) (or_mark (λ t. t) x') (or_mark (λ t. t) y')
    ⊎ Contained (or_mark (λ t. t) x) (or_mark (λ t. t) y) (or_mark (λ t. t) x') (or_mark (λ t. t) y')
arrivals_stay neither neither neither = inl (refl, refl, refl, refl)
arrivals_stay (nested a) (nested b) (nested c) = inr (record { starts = a; whole = b; ends = c })

-- what both calls leave, where both time
module _ (c d : Circuit) (v : Sound c) (w : Sound d) (n : Narrows c d) {setups holds setups' holds' : ℕ} {numbers R numbers' S : List ℤ}
    (t : Defined c setups holds numbers R) (u : Defined d setups' holds' numbers' S) where
  inside : (i : ℕ) → i < c.synchronizers → Narrowed c d t.soonest t.latest u.soonest u.latest i
  inside = narrowed c d v w n t.soonest t.latest u.soonest u.latest t.least u.least

  narrower : (i : ℕ) → i < c.synchronizers → Narrower R S i
  narrower i l =
      let m : i < d.synchronizers = rw n.synchronizers l in
      let h = inside i l in
      record {
        departures = rw (t.early_departure i l, t.late_departure i l, u.early_departure i m, u.late_departure i m)
            (record { starts = h.early_departure; whole = h.departures; ends = h.late_departure });
        arrivals = rw (t.early_arrival i l, t.late_arrival i l, u.early_arrival i m, u.late_arrival i m)
            (arrivals_stay h.early_arrival h.arrivals h.late_arrival);
        hold = rw (t.hold_slack i l, u.hold_slack i m)
            (slack_stays (hold_slack c i) (hold_slack d i) (arrives early c t.soonest i) (arrives early d u.soonest i) h.hold);
        setup = rw (t.setup_slack i l, u.setup_slack i m)
            (slack_stays (setup_slack c i) (setup_slack d i) (arrives late c t.latest i) (arrives late d u.latest i) h.setup);
      }

  fewer_setups : setups' ≤ setups
  fewer_setups = rw (t.setups_missed, u.setups_missed) (counts_fewer _ _ d.synchronizers c.synchronizers n.synchronizers
      (λ i l. missed_less (setup_slack c i) (setup_slack d i) (arrives late c t.latest i) (arrives late d u.latest i) (inside i l).setup))

  fewer_holds : holds' ≤ holds
  fewer_holds = rw (t.holds_missed, u.holds_missed) (counts_fewer _ _ d.synchronizers c.synchronizers n.synchronizers
      (λ i l. missed_less (hold_slack c i) (hold_slack d i) (arrives early c t.soonest i) (arrives early d u.soonest i) (inside i l).hold))

module _ (first second : List ℕ) (numbers numbers' : List ℤ) (arcs arcs' : List ℕ) where
  -- the first call timed; the second is served, and its image only narrows the first's
  pub narrowed_call : {X : Result Answer Refusal} {R S : List ℤ} {A B : List ℕ} {setups holds : ℕ} →
      Timing first numbers arcs (Ok (Timed setups holds)) R A → Served second numbers' arcs' → Narrows (circuit_of first) (circuit_of second) →
      Timing second numbers' arcs' X S B → Calmer (circuit_of first).synchronizers setups holds R X S
  narrowed_call x s n y =
      let c = circuit_of first in
      let d = circuit_of second in
      let v = served_sound first numbers arcs (timed_served first numbers arcs x) in
      let w = served_sound second numbers' arcs' s in
      let t = (timed_defined first numbers arcs x).0 in
      elim (outcome second numbers' arcs' s y) [
        | inl h ↦ (
            let u = (timed_defined second numbers' arcs' (rw h.2 at y)).0 in
            record {
              setups' = h.0;
              holds' = h.1;
              timed = h.2;
              fewer_setups = fewer_setups c d v w n t u;
              fewer_holds = fewer_holds c d v w n t u;
              each = narrower c d v w n t u;
            }
            )
        | inr h ↦ (
            let calm = narrows_calm c d v w n (t.latest, t.least.late.fits) in
            absurd (fits_calm (flow late d) (good late d w) calm.0 calm.1 (loop_shown second numbers' arcs' (rw h.2 at y)).0.grows)
            )
      ]
