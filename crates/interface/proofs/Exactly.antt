-- What a field says of the circuit, each exactly. The cases of a promise exclude one another: a refused image is not good, a short buffer
-- does not fit, and where late departures fit the equations no ring grows.
use mathlib.Core.Path.{◌≡◌, refl, sym, ◌∙◌}
use mathlib.Core.List.{List}
use mathlib.Core.Logic.{◌↔◌}
use Rattle.std.specs.Prelude.{Result, Ok, Err}
use Prim.Native.Nat.{ℕ, ◌<◌}
use native.Mathlib.Omega.{arith}
use lib.IntN.{ℤ}
use Rattle.image.specs.Checks.{check_of}
use Rattle.image.specs.Valid.{Valid, image_in}
use Rattle.image.specs.declared.header.Image.{Image}
use Rattle.image.specs.declared.refusal.Refusal.{Refusal}
use Rattle.image.proofs.RuleNumbers.{numbers_from_1_to_16}
use Rattle.image.proofs.Validity.{accepts, accepted_is}
use Rattle.image.proofs.Alike.{err_is_not_ok}
use Rattle.flow.specs.Flow.{late}
use Rattle.flow.specs.Walk.{GrowingRing}
use Rattle.flow.proofs.Walks.{fits_calm}
use Rattle.circuit.specs.Circuit.{circuit_of}
use Rattle.circuit.specs.Clock.{flow}
use Rattle.circuit.proofs.Sound.{sound, good}
use Rattle.timing.specs.TimingPromise.{Served, Timing, refused, few_numbers, few_arcs, growing, timed}
use Rattle.timing.specs.declared.timing_call.Answer.{Answer}
use Rattle.interface.specs.Answers.{check_answer, timing_answer}
use Rattle.interface.specs.Promise.{CheckForC, TimingForC}
use Rattle.interface.specs.declared.check_answer.CheckAnswer.{CheckAnswer}
use Rattle.interface.specs.declared.timing_answer.TimingAnswer.{TimingAnswer}
use Rattle.interface.proofs.Reading.{shown_some}

module _ (bytes : List ℕ) where
  not_both : {why : Refusal} → check_of bytes ≡ Err why → check_of bytes ≡ Ok (image_in bytes) → ⊥
  not_both r g = err_is_not_ok (sym r ∙ g)

  accepted : (X : Result Image Refusal) → X ≡ check_of bytes → ((check_answer X).refusal ≡ 0) ↔ Valid bytes
  accepted (Err why) e =
      let some = (numbers_from_1_to_16 why.rule).0 in
      (λ z. let k : ⊥ = omega (arith, some) in absurd k, λ v. absurd (not_both (sym e) ((accepts bytes).0 v)))
  accepted (Ok image) e = (λ z. (accepts bytes).1 (rw (accepted_is bytes image (sym e)) at (sym e)), λ v. refl)

  -- check: 0 for a valid image and for no other
  pub accepted_exactly : {given : CheckAnswer} → CheckForC bytes given → (given.refusal ≡ 0) ↔ Valid bytes
  accepted_exactly c = rw c.told (accepted c.answer c.kept)

  module _ {numbers : List ℤ} {arcs : List ℕ} where
    served : {X : Result Answer Refusal} {R : List ℤ} {A : List ℕ} → Timing bytes numbers arcs X R A → ((timing_answer X).refusal ≡ 0) ↔ Served bytes numbers arcs
    served (refused {why} e) =
        let some = (numbers_from_1_to_16 why.rule).0 in
        (λ z. let k : ⊥ = omega (arith, some) in absurd k, λ s. absurd (not_both e s.good))
    served (few_numbers ok h) = (λ z. let k : ⊥ = omega arith in absurd k, λ s. let k : ⊥ = omega (arith, s.numbers_fit) in absurd k)
    served (few_arcs ok fit h) = (λ z. let k : ⊥ = omega arith in absurd k, λ s. let k : ⊥ = omega (arith, s.arcs_fit) in absurd k)
    served (growing s ring) = (λ z. s, λ t. refl)
    served (timed E D s t) = (λ z. s, λ k. refl)

    -- timing: 0 where the image is good and both buffers are long enough, and nowhere else
    pub served_exactly : {given : TimingAnswer} {R : List ℤ} {A : List ℕ} → TimingForC bytes numbers arcs given R A →
        (given.refusal ≡ 0) ↔ Served bytes numbers arcs
    served_exactly c = rw c.told (served c.kept)

    looped : {X : Result Answer Refusal} {R : List ℤ} {A : List ℕ} → Timing bytes numbers arcs X R A →
        (0 < (timing_answer X).loop_arcs) ↔ (Served bytes numbers arcs × GrowingRing (flow late (circuit_of bytes)))
    looped (refused e) = (λ z. let k : ⊥ = omega arith in absurd k, λ g. absurd (not_both e g.0.good))
    looped (few_numbers ok h) = (λ z. let k : ⊥ = omega arith in absurd k, λ g. let k : ⊥ = omega (arith, g.0.numbers_fit) in absurd k)
    looped (few_arcs ok fit h) = (λ z. let k : ⊥ = omega arith in absurd k, λ g. let k : ⊥ = omega (arith, g.0.arcs_fit) in absurd k)
    looped (growing s ring) = (λ z. (s, ring.grows), λ g. shown_some ring)
    looped (timed E D s t) =
        let c = circuit_of bytes in
        let whole = good late c (sound bytes ((accepts bytes).1 s.good)) in
        (λ z. let k : ⊥ = omega arith in absurd k, λ g. absurd (fits_calm (flow late c) whole D t.late.fits g.1))

    -- timing: arcs of a loop where a ring grows, and nowhere else
    pub loop_exactly : {given : TimingAnswer} {R : List ℤ} {A : List ℕ} → TimingForC bytes numbers arcs given R A →
        (0 < given.loop_arcs) ↔ (Served bytes numbers arcs × GrowingRing (flow late (circuit_of bytes)))
    loop_exactly c = rw c.told (looped c.kept)
