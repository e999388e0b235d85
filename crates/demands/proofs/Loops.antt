-- A loop is said exactly where no late departures fit, and the one shown is a ring.
use mathlib.Core.Path.{◌≡◌, sym}
use mathlib.Core.List.{List, [], ◌∷◌}
use mathlib.Core.Logic.{inl, inr, ◌↔◌}
use Rattle.std.specs.Prelude.{Result, Ok}
use Prim.Native.Nat.{ℕ}
use lib.IntN.{ℤ}
use Rattle.image.specs.declared.refusal.Refusal.{Refusal}
use Rattle.flow.specs.Flow.{late}
use Rattle.flow.specs.Walk.{Walk, Shown}
use Rattle.flow.proofs.Walks.{fits_calm, ring_latches}
use Rattle.circuit.specs.Circuit.{Circuit, circuit_of}
use Rattle.circuit.specs.Clock.{flow}
use Rattle.circuit.specs.Times as times
use Rattle.circuit.proofs.Sound.{good}
use Rattle.timing.specs.TimingPromise.{Served, Timing}
use Rattle.timing.specs.declared.timing_call.Answer.{Answer}
use Rattle.timing.specs.declared.timing_call.Answer.TheVariants.{Growing}
use Rattle.demands.specs.Buffers.{IsLoop}
use Rattle.demands.specs.Rings.{Leads, RealRing}
use Rattle.demands.proofs.Reading.{front_of, rest_of}
use Rattle.demands.proofs.ByAnswer.{outcome, timed_defined, loop_shown, served_sound}

walk_leads : (c : Circuit) (p : List ℕ) (i j : ℕ) → Walk (flow late c) i p j → Leads c i p j
walk_leads c [] i j w = w
walk_leads c (a ∷ p) i j w = (w.0.here, w.0.from, walk_leads c p (c.to a) j w.1)

shown_ring : (c : Circuit) {n : ℕ} {g : ℤ} {arcs A : List ℕ} → Shown (flow late c) n g arcs A → RealRing c n g arcs A
shown_ring c {n} {g} {arcs} {A} s =
    let r = s.grows.ring in
    let e = front_of r.path arcs A n s.counted s.written in
    record {
      start = r.start;
      some = rw s.counted r.some;
      counted = rw e (sym s.counted);
      round = rw e (walk_leads c r.path r.start r.start r.closed);
      latches = rw e (ring_latches (flow late c) r);
      distinct = rw e r.distinct;
      lowest = rw e s.lowest;
      gains = rw e (sym s.gains);
      grows = rw s.gains s.grows.grows;
      rest = rest_of r.path arcs A n s.counted s.written;
    }

module _ (bytes : List ℕ) (numbers : List ℤ) (arcs : List ℕ) where
  pub loop_exactly : {X : Result Answer Refusal} {R : List ℤ} {A : List ℕ} → Served bytes numbers arcs → Timing bytes numbers arcs X R A →
      IsLoop X ↔ times.Growing (circuit_of bytes)
  loop_exactly s x =
      let c = circuit_of bytes in (
        λ h D fits. fits_calm (flow late c) (good late c (served_sound bytes numbers arcs s)) D fits (loop_shown bytes numbers arcs (rw h.2 at x)).0.grows,
        λ never. elim (outcome bytes numbers arcs s x) [
          | inl t ↦ (let d = (timed_defined bytes numbers arcs (rw t.2 at x)).0 in absurd (never d.latest d.least.late.fits))
          | inr l ↦ l
        ],
      )

  pub loop_ring : {n : ℕ} {g : ℤ} {R : List ℤ} {A : List ℕ} → Timing bytes numbers arcs (Ok (Growing n g)) R A →
      RealRing (circuit_of bytes) n g arcs A × (R ≡ numbers)
  loop_ring x = let h = loop_shown bytes numbers arcs x in (shown_ring (circuit_of bytes) h.0, h.1)
