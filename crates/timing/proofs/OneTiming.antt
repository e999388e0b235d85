-- The promise of timing leaves one outcome, but for the growing ring that is shown. The cases are told apart by questions asked in
-- order: is the image refused, are there too few numbers, too few arcs, does a ring grow? The first that is answered with yes is
-- one number, and within a case everything that is left follows from the input.
use mathlib.Core.Path.{◌≡◌, refl, sym, ap, ◌∙◌}
use mathlib.Core.List.{List, ◌++◌}
use mathlib.Core.Logic.{◌⊎◌, inl, inr}
use Rattle.std.specs.Prelude.{Result, Ok, Err}
use Prim.Native.Nat.{ℕ, zero, suc, ◌*◌, ◌≤◌, ◌<◌}
use native.Mathlib.Omega.{arith}
use lib.IntN.{ℤ}
use lib.ListN.{length, drop}
use Rattle.image.specs.Checks.{check_of}
use Rattle.image.specs.Valid.{image_in}
use Rattle.image.specs.Refusal.{refusal}
use Rattle.image.specs.declared.refusal.Rule.TheVariants as by
use Rattle.image.specs.declared.refusal.Refusal.{Refusal}
use Rattle.image.proofs.Validity.{accepts}
use Rattle.image.proofs.Alike.{err_is_not_ok}
use Rattle.flow.specs.Flow.{late}
use Rattle.flow.specs.Walk.{GrowingRing}
use Rattle.flow.proofs.Walks.{fits_calm}
use Rattle.circuit.specs.Circuit.{circuit_of}
use Rattle.circuit.specs.Clock.{flow}
use Rattle.circuit.specs.Times.{Times, missed_setups, missed_holds, results}
use Rattle.circuit.proofs.Sound.{Sound, sound, good}
use Rattle.circuit.proofs.Unique.{results_same, setups_same, holds_same}
use Rattle.timing.specs.TimingPromise.{Served, Timing, refused, few_numbers, few_arcs, growing, timed}
use Rattle.timing.specs.declared.timing_call.Answer.{Answer}
use Rattle.timing.specs.declared.timing_call.Answer.TheVariants.{Growing, Timed}
use Rattle.timing.proofs.FirstYes.{Past, start, on, FirstYes, yes_at, one_outcome}

-- the same answer, and both buffers left alike
pub record Same (X Y : Result Answer Refusal) (R S : List ℤ) (A B : List ℕ) : Type 0 where
  pub answer : X ≡ Y
  pub numbers : R ≡ S
  pub arcs : A ≡ B

-- both show a growing loop, and both leave the result buffer alike
pub record BothGrow (X Y : Result Answer Refusal) (R S : List ℤ) : Type 0 where
  pub one : (n : ℕ) × (g : ℤ) × (X ≡ Ok (Growing n g))
  pub other : (n : ℕ) × (g : ℤ) × (Y ≡ Ok (Growing n g))
  pub numbers : R ≡ S

module _ (bytes : List ℕ) (numbers : List ℤ) (arcs : List ℕ) where
  -- the questions, in order; the last is always answered with yes
  abbrev Question : ℕ → Type 0
  Question zero = (why : Refusal) × (check_of bytes ≡ Err why)
  Question (suc zero) = length numbers < 6 * (circuit_of bytes).synchronizers
  Question (suc (suc zero)) = length arcs < (circuit_of bytes).synchronizers
  Question (suc (suc (suc zero))) = GrowingRing (flow late (circuit_of bytes))
  Question (suc (suc (suc (suc k)))) = Unit {0}

  -- this answer, and nothing written
  abbrev Only : Result Answer Refusal → Result Answer Refusal → List ℤ → List ℕ → Type 0
  Only x X R A = (X ≡ x) × (R ≡ numbers) × (A ≡ arcs)

  -- what is left open in each case
  abbrev Left : Result Answer Refusal → List ℤ → List ℕ → ℕ → Type 0
  Left X R A zero = (why : Refusal) × (check_of bytes ≡ Err why) × Only (Err why) X R A
  Left X R A (suc zero) = Only (Err (refusal by.ResultBuffer 0)) X R A
  Left X R A (suc (suc zero)) = Only (Err (refusal by.ArcBuffer 0)) X R A
  Left X R A (suc (suc (suc zero))) = (n : ℕ) × (g : ℤ) × (X ≡ Ok (Growing n g)) × (R ≡ numbers)
  Left X R A (suc (suc (suc (suc k)))) = (E : ℕ → ℤ) × (D : ℕ → ℤ) × Times (circuit_of bytes) E D × Sound (circuit_of bytes)
      × (X ≡ Ok (Timed (missed_setups (circuit_of bytes) D) (missed_holds (circuit_of bytes) E)))
      × (R ≡ results (circuit_of bytes) E D (circuit_of bytes).synchronizers ++ drop (6 * (circuit_of bytes).synchronizers) numbers)
      × (A ≡ arcs)

  past_image : check_of bytes ≡ Ok (image_in bytes) → Past Question 1
  past_image ok = on Question 0 (start Question) (λ q. err_is_not_ok (sym q.1 ∙ ok))

  past_numbers : check_of bytes ≡ Ok (image_in bytes) → 6 * (circuit_of bytes).synchronizers ≤ length numbers → Past Question 2
  past_numbers ok fit = on Question 1 (past_image ok) (λ q. omega arith)

  past_room : Served bytes numbers arcs → Past Question 3
  past_room s = on Question 2 (past_numbers s.good s.numbers_fit) (λ q. omega (arith, s.arcs_fit))

  case_of : {X : Result Answer Refusal} {R : List ℤ} {A : List ℕ} → Timing bytes numbers arcs X R A → FirstYes Question (Left X R A)
  case_of (refused {why} e) = yes_at Question 0 (start Question) (why, e) (why, e, (refl, refl, refl))
  case_of (few_numbers ok h) = yes_at Question 1 (past_image ok) h (refl, refl, refl)
  case_of (few_arcs ok fit h) = yes_at Question 2 (past_numbers ok fit) h (refl, refl, refl)
  case_of (growing {count} {gain} s ring) = yes_at Question 3 (past_room s) ring.grows (count, gain, refl, refl)
  case_of (timed E D s t) =
      let v = sound bytes ((accepts bytes).1 s.good) in
      let calm = fits_calm (flow late (circuit_of bytes)) (good late (circuit_of bytes) v) D t.late.fits in
      yes_at Question 4 (on Question 3 (past_room s) calm) tt (E, D, t, v, refl, refl, refl)

  -- within one case
  module _ {X Y : Result Answer Refusal} {R S : List ℤ} {A B : List ℕ} where
    same : {x : Result Answer Refusal} → Only x X R A → Only x Y S B → Same X Y R S A B
    same p q = record { answer = p.0 ∙ sym q.0; numbers = p.1 ∙ sym q.1; arcs = p.2 ∙ sym q.2 }

    alike : (k : ℕ) → Left X R A k → Left Y S B k → Same X Y R S A B ⊎ BothGrow X Y R S
    alike zero p q =
        let a = p.1 in
        let b = q.1 in
        let e : p.0 ≡ q.0 = cc in
        inl (record { answer = p.2.0 ∙ ap Err e ∙ sym q.2.0; numbers = p.2.1 ∙ sym q.2.1; arcs = p.2.2 ∙ sym q.2.2 })
    alike (suc zero) p q = inl (same p q)
    alike (suc (suc zero)) p q = inl (same p q)
    alike (suc (suc (suc zero))) p q =
        inr (record { one = (p.0, p.1, p.2); other = (q.0, q.1, q.2); numbers = p.3 ∙ sym q.3 })
    alike (suc (suc (suc (suc k)))) p q =
        let c = circuit_of bytes in
        let s = setups_same c p.3 p.0 p.1 q.0 q.1 p.2 q.2 in
        let h = holds_same c p.3 p.0 p.1 q.0 q.1 p.2 q.2 in
        let r = results_same c p.3 p.0 p.1 q.0 q.1 p.2 q.2 c.synchronizers (omega arith) in
        inl (record { answer = p.4 ∙ rw (s, h) (sym q.4); numbers = p.5 ∙ rw r (sym q.5); arcs = p.6 ∙ sym q.6 })

    pub timing_only : Timing bytes numbers arcs X R A → Timing bytes numbers arcs Y S B → Same X Y R S A B ⊎ BothGrow X Y R S
    timing_only x y = one_outcome Question alike (case_of x) (case_of y)
