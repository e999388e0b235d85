-- Timing and the report leave one result, but for which ring is shown: where both show the same ring, all is the same.
use mathlib.Core.Path.{◌≡◌, sym, ◌∙◌}
use mathlib.Core.List.{List, ◌++◌}
use mathlib.Core.Logic.{inl, inr}
use Rattle.std.specs.Prelude.{Result, Ok}
use Prim.Native.Nat.{ℕ}
use lib.IntN.{ℤ}
use lib.ListN.{take}
use Rattle.image.specs.declared.refusal.Refusal.{Refusal}
use Rattle.flow.specs.Flow.{Flow, late}
use Rattle.flow.specs.Walk.{Shown}
use Rattle.circuit.specs.Circuit.{circuit_of}
use Rattle.circuit.specs.Clock.{flow}
use Rattle.timing.specs.TimingPromise.{Timing}
use Rattle.timing.specs.declared.timing_call.Answer.{Answer}
use Rattle.timing.specs.declared.timing_call.Answer.TheVariants.{Growing}
use Rattle.timing.proofs.OneTiming.{timing_only}
use Rattle.report.specs.Promise.{zeros, no_arcs, report_of, Report}
use Rattle.demands.specs.Rings.{Rotated, OneRing}
use Rattle.demands.proofs.Reading.{front_of}
use Rattle.demands.proofs.ByAnswer.{loop_shown}
use Rattle.demands.proofs.Turning.{one_reading}

module _ (f : Flow) {m n : ℕ} {g h : ℤ} {before A B : List ℕ} (s : Shown f m g before A) (t : Shown f n h before B) where
  abbrev one : List ℕ
  one = s.grows.ring.path

  abbrev other : List ℕ
  other = t.grows.ring.path

  shown_path : Rotated (take m A) (take n B) → one ≡ other
  shown_path r =
      let x : one ≡ r.front ++ r.back = sym (front_of one before A m s.counted s.written) ∙ r.one in
      let y : other ≡ r.back ++ r.front = sym (front_of other before B n t.counted t.written) ∙ r.other in
      let a = s.grows.ring in
      let b = t.grows.ring in
      x ∙ one_reading f r.front r.back a.start b.start (rw x at a.closed) (rw y at b.closed)
      (rw x at s.lowest) (rw y at t.lowest) (rw x at a.distinct) ∙ sym y

  same_shown : one ≡ other → (◌≡◌ {A = Result Answer Refusal} (Ok (Growing m g)) (Ok (Growing n h))) × (A ≡ B)
  same_shown e = (
    rw (s.counted, s.gains, t.counted, t.gains, e),
    s.written ∙ rw e (sym t.written),
  )

  pub one_shown : Rotated (take m A) (take n B) → (◌≡◌ {A = Result Answer Refusal} (Ok (Growing m g)) (Ok (Growing n h))) × (A ≡ B)
  one_shown r = same_shown (shown_path r)

module _ (bytes : List ℕ) (numbers : List ℤ) (arcs : List ℕ) where
  pub timing_one : {X Y : Result Answer Refusal} {R S : List ℤ} {A B : List ℕ} → Timing bytes numbers arcs X R A → Timing bytes numbers arcs Y S B →
      OneRing X A Y B → (X ≡ Y) × (R ≡ S) × (A ≡ B)
  timing_one x y one = elim (timing_only bytes numbers arcs x y) [
    | inl s ↦ (s.answer, s.numbers, s.arcs)
    | inr b ↦ (
        let p = b.one in
        let q = b.other in
        let e = one_shown (flow late (circuit_of bytes)) (loop_shown bytes numbers arcs (rw p.2 at x)).0 (loop_shown bytes numbers arcs (rw q.2 at y)).0
        (one p.0 q.0 p.1 q.1 p.2 q.2) in
        (p.2 ∙ e.0 ∙ sym q.2, b.numbers, e.1)
        )
  ]

pub report_one : (bytes before : List ℕ) {m n : ℕ} {x y : List ℕ} (p : Report bytes before m x) (q : Report bytes before n y) →
    OneRing p.answer p.arcs q.answer q.arcs → (m ≡ n) × (x ≡ y)
report_one bytes before {m} {n} p q one =
    let s = timing_one bytes zeros no_arcs p.told q.told one in
    let e : report_of bytes p.answer p.numbers p.arcs ≡ report_of bytes q.answer q.numbers q.arcs = rw (s.0, s.1, s.2) in
    let size : m ≡ n = p.sized ∙ rw e (sym q.sized) in
    (size, p.written ∙ rw (e, size) (sym q.written))
