-- For every input some outcome keeps the promise: each question is decided, and a growing ring can be shown from its lowest node on.
use mathlib.Core.Path.{◌≡◌, refl}
use mathlib.Core.List.{List, ◌++◌}
use mathlib.Core.Logic.{inl, inr}
use Rattle.std.specs.Prelude.{Result, Ok, Err}
use Prim.Native.Nat.{ℕ, ◌*◌}
use native.Mathlib.Omega.{arith}
use native.Mathlib.Decide.{dec_lt}
use lib.IntN.{ℤ}
use lib.ListN.{length, drop}
use Rattle.image.specs.Checks.{check_of}
use Rattle.image.specs.Valid.{image_in}
use Rattle.image.specs.Refusal.{refusal}
use Rattle.image.specs.declared.header.Image.{Image}
use Rattle.image.specs.declared.refusal.Rule.TheVariants as by
use Rattle.image.specs.declared.refusal.Refusal.{Refusal}
use Rattle.image.proofs.Validity.{accepted_is}
use Rattle.flow.specs.Flow.{Flow, late, early}
use Rattle.flow.specs.Walk.{gain, GrowingRing, Shown}
use Rattle.circuit.specs.Circuit.{circuit_of}
use Rattle.circuit.specs.Clock.{flow}
use Rattle.circuit.proofs.Solved.{decided, worked, worked_times}
use Rattle.timing.specs.TimingPromise.{Served, Timing, refused, few_numbers, few_arcs, growing, timed}
use Rattle.timing.specs.declared.timing_call.Answer.{Answer}
use Rattle.timing.specs.declared.timing_call.Answer.TheVariants.{Growing}
use Rattle.report.specs.Promise.{zeros, no_arcs, report_of, Report}
use Rattle.demands.proofs.ByAnswer.{served_sound}
use Rattle.demands.proofs.Turning.{told}

-- a growing ring, shown in a buffer
shown : (f : Flow) (before : List ℕ) → GrowingRing f → (n : ℕ) × (g : ℤ) × (after : List ℕ) × Shown f n g before after
shown f before ring =
    let t = told f ring in
    let p = t.0.ring.path in
    (length p, gain f p, p ++ drop (length p) before, record { grows = t.0; lowest = t.1; counted = refl; gains = refl; written = refl })

module _ (bytes : List ℕ) (numbers : List ℤ) (arcs : List ℕ) where
  abbrev SomeTiming : Type 0
  SomeTiming = (X : Result Answer Refusal) × (R : List ℤ) × (A : List ℕ) × Timing bytes numbers arcs X R A

  serving : Served bytes numbers arcs → SomeTiming
  serving s =
      let c = circuit_of bytes in
      let v = served_sound bytes numbers arcs s in
      elim (decided c v) [
        | inl calm ↦ (_, _, arcs, timed (worked c v early) (worked c v late) s (worked_times c v calm))
        | inr ring ↦ (let h = shown (flow late c) arcs ring in (Ok (Growing h.0 h.1), numbers, h.2, growing s h.3))
      ]

  accepting : check_of bytes ≡ Ok (image_in bytes) → SomeTiming
  accepting ok = elim (dec_lt (length numbers) (6 * (circuit_of bytes).synchronizers)) [
    | yes l ↦ (Err (refusal by.ResultBuffer 0), numbers, arcs, few_numbers ok l)
    | no l ↦ elim (dec_lt (length arcs) (circuit_of bytes).synchronizers) [
      | yes k ↦ (Err (refusal by.ArcBuffer 0), numbers, arcs, few_arcs ok (omega arith) k)
      | no k ↦ serving (record { good = ok; numbers_fit = omega arith; arcs_fit = omega arith })
    ]
  ]

  pub timing_some : SomeTiming
  timing_some = go (check_of bytes) refl
    where
      go : (c : Result Image Refusal) → check_of bytes ≡ c → SomeTiming
      go (Err why) e = (Err why, numbers, arcs, refused e)
      go (Ok image) e = accepting (rw (accepted_is bytes image e) at e)

pub report_some : (bytes before : List ℕ) → (size : ℕ) × (after : List ℕ) × Report bytes before size after
report_some bytes before =
    let t = timing_some bytes zeros no_arcs in
    let text = report_of bytes t.0 t.1 t.2 in
    (length text, text ++ drop (length text) before, record { answer = t.0; numbers = t.1; arcs = t.2; told = t.3; sized = refl; written = refl })
