-- What a call to timing leaves, by its answer. Where the image is good and the buffers are long enough, it times or shows a loop.
use mathlib.Core.Path.{◌≡◌, refl, sym, ◌∙◌}
use mathlib.Core.List.{List, ◌++◌}
use mathlib.Core.Logic.{◌⊎◌, inl, inr}
use Rattle.std.specs.Prelude.{Result, Ok}
use Prim.Native.Nat.{ℕ, ◌*◌, ◌<◌}
use native.Mathlib.Omega.{arith}
use lib.IntN.{ℤ, pos}
use lib.ListN.{get_or, drop}
use lib.Seq.{drop_at}
use Rattle.image.proofs.Validity.{accepts}
use Rattle.image.specs.declared.refusal.Refusal.{Refusal}
use Rattle.image.proofs.Alike.{err_is_not_ok}
use Rattle.flow.specs.Flow.{late}
use Rattle.flow.specs.Walk.{Shown}
use Rattle.circuit.specs.Circuit.{Circuit, circuit_of}
use Rattle.circuit.specs.Clock.{flow}
use Rattle.circuit.specs.Times.{Times, missed_setups, missed_holds, six, results}
use Rattle.circuit.proofs.Sound.{Sound, sound}
use Rattle.timing.specs.TimingPromise.{Served, Timing, refused, few_numbers, few_arcs, growing, timed}
use Rattle.timing.specs.declared.timing_call.Answer.{Answer}
use Rattle.timing.specs.declared.timing_call.Answer.TheVariants.{Growing, Timed}
use Rattle.timing.proofs.SixResults.{length-results}
use Rattle.demands.specs.Buffers.{number, Defined, IsTimed, IsLoop}
use Rattle.demands.proofs.Reading.{read}

defined : (c : Circuit) (E D : ℕ → ℤ) (numbers : List ℤ) → Times c E D →
    Defined c (missed_setups c D) (missed_holds c E) numbers (results c E D c.synchronizers ++ drop (6 * c.synchronizers) numbers)
unfolding six
defined c E D numbers t =
    let l = c.synchronizers in
    let all = results c E D l in
    let rest = drop (6 * l) numbers in
    let at : (i k : ℕ) → i < l → k < 6 → number (all ++ rest) i k ≡ get_or (six c E D i) k (pos 0) = read c E D l rest in
    record {
      soonest = E;
      latest = D;
      least = t;
      early_departure = λ i h. at i 0 h (omega arith);
      late_departure = λ i h. at i 1 h (omega arith);
      early_arrival = λ i h. at i 2 h (omega arith);
      late_arrival = λ i h. at i 3 h (omega arith);
      hold_slack = λ i h. at i 4 h (omega arith);
      setup_slack = λ i h. at i 5 h (omega arith);
      setups_missed = refl;
      holds_missed = refl;
      rest = drop_at all rest (6 * l) (length-results c E D l);
    }

module _ (bytes : List ℕ) (numbers : List ℤ) (arcs : List ℕ) where
  pub outcome : {X : Result Answer Refusal} {R : List ℤ} {A : List ℕ} → Served bytes numbers arcs → Timing bytes numbers arcs X R A → IsTimed X ⊎ IsLoop X
  outcome s (refused e) = absurd (err_is_not_ok (sym e ∙ s.good))
  outcome s (few_numbers ok l) = let z : ⊥ = omega (arith, s.numbers_fit) in absurd z
  outcome s (few_arcs ok k l) = let z : ⊥ = omega (arith, s.arcs_fit) in absurd z
  outcome s (growing w k) = inr (_, _, refl)
  outcome s (timed E D w t) = inl (_, _, refl)

  pub timed_served : {setups holds : ℕ} {R : List ℤ} {A : List ℕ} → Timing bytes numbers arcs (Ok (Timed setups holds)) R A → Served bytes numbers arcs
  timed_served (timed E D s t) = s

  pub timed_defined : {setups holds : ℕ} {R : List ℤ} {A : List ℕ} → Timing bytes numbers arcs (Ok (Timed setups holds)) R A →
      Defined (circuit_of bytes) setups holds numbers R × (A ≡ arcs)
  timed_defined (timed E D s t) = (defined (circuit_of bytes) E D numbers t, refl)

  pub loop_shown : {n : ℕ} {g : ℤ} {R : List ℤ} {A : List ℕ} → Timing bytes numbers arcs (Ok (Growing n g)) R A →
      Shown (flow late (circuit_of bytes)) n g arcs A × (R ≡ numbers)
  loop_shown (growing s k) = (k, refl)

  pub served_sound : Served bytes numbers arcs → Sound (circuit_of bytes)
  served_sound s = sound bytes ((accepts bytes).1 s.good)
