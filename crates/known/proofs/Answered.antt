-- The promises of the calls, at the known circuits: they leave no other answer than the known one, since the known one keeps them.
use mathlib.Core.Path.{◌≡◌, refl, sym, ap, ◌∙◌}
use mathlib.Core.List.{List, [], ◌∷◌, ◌++◌}
use mathlib.Core.Logic.{inl, inr}
use Rattle.std.specs.Prelude.{Result, Ok}
use Prim.Native.Nat.{ℕ, ◌*◌, ◌≤◌}
use Prim.Native.String.{String}
use native.Mathlib.Omega.{arith}
use lib.IntN.{ℤ, pos}
use lib.ListN.{length, drop, length-replicate}
use Rattle.image.specs.Checks.{check_of}
use Rattle.image.specs.Valid.{image_in}
use Rattle.image.specs.declared.refusal.Refusal.{Refusal}
use Rattle.image.proofs.Validity.{accepts}
use Rattle.image.proofs.Alike.{err_is_not_ok}
use Rattle.flow.specs.Flow.{late}
use Rattle.flow.proofs.Path.{path_walk}
use Rattle.circuit.specs.Circuit.{circuit_of}
use Rattle.circuit.specs.Clock.{flow}
use Rattle.circuit.proofs.Sound.{sound}
use Rattle.timing.specs.TimingPromise as promise
use Rattle.timing.specs.TimingPromise.{Served, Timing}
use Rattle.timing.specs.declared.timing_call.Answer.{Answer}
use Rattle.timing.specs.declared.timing_call.Answer.TheVariants as answer
use Rattle.timing.specs.PathPromise as paths
use Rattle.timing.proofs.OneTiming.{timing_only}
use Rattle.timing.proofs.OnePath.{path_only}
use Rattle.report.specs.Ascii.{ascii}
use Rattle.report.specs.Promise.{zeros, no_arcs, report_of}
use Rattle.known.specs.Circuits.{Outcome, timed, growing, path, Known, known}
use Rattle.known.specs.Holds.{Timed, Grows, Comes, Holds, AllOf}
use Rattle.known.specs.Answers.{TimingLeaves, Prints, CallsGive, Answers}
use Rattle.known.proofs.Known.{known_holds}

module _ (bytes : List ℕ) (accepted : check_of bytes ≡ Ok (image_in bytes)) where
  served : (numbers : List ℤ) (arcs : List ℕ) → 6 * (circuit_of bytes).synchronizers ≤ length numbers → (circuit_of bytes).synchronizers ≤ length arcs →
      Served bytes numbers arcs
  served numbers arcs fit room = record { good = accepted; numbers_fit = fit; arcs_fit = room }

  times : (results : List ℤ) (setups holds : ℕ) (text : String) → Timed (circuit_of bytes) results setups holds text →
      TimingLeaves bytes (λ numbers arcs X R A.
      (X ≡ Ok (answer.Timed setups holds)) × (R ≡ results ++ drop (6 * (circuit_of bytes).synchronizers) numbers) × (A ≡ arcs))
  times results setups holds text h numbers arcs fit room X R A x =
      elim (timing_only bytes numbers arcs x (promise.timed h.soonest h.latest (served numbers arcs fit room) h.times)) [
        | inl s ↦ (
          s.answer ∙ rw (h.setups_missed, h.holds_missed),
          s.numbers ∙ rw h.gives,
          s.arcs,
        )
        | inr b ↦ (let e = b.other.2 in let z : ◌≡◌ {A = ℕ} 0 1 = cc in let y : ⊥ = omega arith in absurd y)
      ]

  -- the ring that is shown is the only one
  shows : (ring : List ℕ) (total : ℤ) (text : String) → Grows (circuit_of bytes) ring total text →
      TimingLeaves bytes (λ numbers arcs X R A. (X ≡ Ok (answer.Growing (length ring) total)) × (R ≡ numbers) × (A ≡ ring ++ drop (length ring) arcs))
  shows ring total text h numbers arcs fit room X R A x = go x
    where
      go : {X : Result Answer Refusal} {R : List ℤ} {A : List ℕ} → Timing bytes numbers arcs X R A →
          (X ≡ Ok (answer.Growing (length ring) total)) × (R ≡ numbers) × (A ≡ ring ++ drop (length ring) arcs)
      go (promise.refused e) = absurd (err_is_not_ok (sym e ∙ accepted))
      go (promise.few_numbers ok l) = let z : ⊥ = omega arith in absurd z
      go (promise.few_arcs ok k l) = let z : ⊥ = omega arith in absurd z
      go (promise.growing {count} {gain = total'} {shown} s k) =
          let e = h.only k.grows.ring k.lowest in
          (rw (k.counted, k.gains, e, h.gains), refl, k.written ∙ rw e)
      go (promise.timed E D s t) = absurd (h.never D t.late.fits)

  -- the report's own buffers are long enough
  prints : (X : Result Answer Refusal) (R : List ℤ) (A : List ℕ) (text : String) →
      ((Y : Result Answer Refusal) (S : List ℤ) (B : List ℕ) → Timing bytes zeros no_arcs Y S B → (Y ≡ X) × (S ≡ R) × (B ≡ A)) →
      report_of bytes X R A ≡ ascii text → Prints bytes text
  prints X R A text only e before size after r =
      let k = only r.answer r.numbers r.arcs r.told in
      let t : report_of bytes r.answer r.numbers r.arcs ≡ ascii text = rw (k.0, k.1, k.2) e in
      (r.sized ∙ ap length t, r.written ∙ rw t)

  room : (6 * (circuit_of bytes).synchronizers ≤ length zeros) × ((circuit_of bytes).synchronizers ≤ length no_arcs)
  room =
      let few = (sound bytes ((accepts bytes).1 accepted)).synchronizers in
      (rw (length-replicate {A = ℤ} 3072 (pos 0)) (omega (arith, few)), rw (length-replicate {A = ℕ} 512 0) (omega (arith, few)))

  gives : (o : Outcome) → Comes (circuit_of bytes) o → CallsGive bytes o
  gives (timed results setups holds text) h = (
    times results setups holds text h,
    prints _ _ _ text (λ Y S B y. times results setups holds text h zeros no_arcs room.0 room.1 Y S B y) h.prints,
  )
  gives (growing ring total text) h = (
    shows ring total text h,
    prints _ _ _ text (λ Y S B y. shows ring total text h zeros no_arcs room.0 room.1 Y S B y) h.prints,
  )
  gives (path i s p) h = λ arcs fits X A x.
      let w = path_walk (flow late (circuit_of bytes)) h.latest i s p h.leads in
      let l = rw w.2 at ((sound bytes ((accepts bytes).1 accepted)).to h.leads.last w.1) in
      path_only bytes i arcs x (paths.found h.latest s p (record { good = accepted; arcs_fit = fits; inside = l }) h.least h.leads)

every : (ks : List Known) → AllOf Holds ks → AllOf Answers ks
every [] h = tt
every (k ∷ ks) h = (gives k.bytes h.0.accepted k.outcome h.0.comes, every ks h.1)

pub known_answers : AllOf Answers known
known_answers = every known known_holds
