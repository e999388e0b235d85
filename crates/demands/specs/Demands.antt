-- The three demands that the library is for, each sentence a field. They speak of the calls alone: an image's bytes, the buffers lent, the answer,
-- and the buffers as a call leaves them. `Timing bytes numbers arcs X R A` is the promise of timing: lent numbers and arcs, it may answer X and
-- leave R and A in their place. `PathCall` is that of the path question, `Report` that of the report. The calls are proved to keep them, in the
-- crates timing and report, so what is said here of a promise holds of every call.
use Rattle.std.specs.Prelude.{◌≡◌, List, ◌↔◌, ℕ, ℤ, Result, Ok, Err}
use Rattle.image.specs.declared.refusal.Refusal.{Refusal}
use Rattle.circuit.specs.Circuit.{circuit_of}
use Rattle.circuit.specs.Times.{Growing as NoneFit}
use Rattle.circuit.specs.Narrows.{Narrows}
use Rattle.timing.specs.TimingPromise.{Served, Timing}
use Rattle.timing.specs.PathPromise.{PathCall}
use Rattle.timing.specs.declared.timing_call.Answer.{Answer}
use Rattle.timing.specs.declared.timing_call.Answer.TheVariants.{Growing, Timed}
use Rattle.timing.specs.declared.trail.Path.{Path}
use Rattle.report.specs.Promise.{Report}
use Rattle.demands.specs.Buffers.{IsTimed, IsLoop, Defined, Calmer}
use Rattle.demands.specs.Rings.{RealRing, Explained, OneRing}
use Rattle.demands.specs.Rules.{TimingRule, PathRule}

-- No call relies on its caller having checked anything: the image, the buffers (numbers for results, arcs, text) and the synchronizer i are any
-- at all
pub record Demand1 (bytes : List ℕ) (numbers : List ℤ) (arcs text : List ℕ) (i : ℕ) : Type 0 where
  -- every input gets a response
  pub timing_some : (X : Result Answer Refusal) × (R : List ℤ) × (A : List ℕ) × Timing bytes numbers arcs X R A
  pub path_some : (X : Result Path Refusal) × (A : List ℕ) × PathCall bytes i arcs X A
  pub report_some : (size : ℕ) × (after : List ℕ) × Report bytes text size after
  -- and only one, with all that is left in the buffers. The one freedom is which growing ring is shown; where that is the same, all is
  pub timing_one : {X Y : Result Answer Refusal} {R S : List ℤ} {A B : List ℕ} → Timing bytes numbers arcs X R A → Timing bytes numbers arcs Y S B →
      OneRing X A Y B → (X ≡ Y) × (R ≡ S) × (A ≡ B)
  pub path_one : {X Y : Result Path Refusal} {A B : List ℕ} → PathCall bytes i arcs X A → PathCall bytes i arcs Y B → (X ≡ Y) × (A ≡ B)
  pub report_one : {m n : ℕ} {x y : List ℕ} (p : Report bytes text m x) (q : Report bytes text n y) →
      OneRing p.answer p.arcs q.answer q.arcs → (m ≡ n) × (x ≡ y)
  -- bad input is refused by the numbered rule, exactly where the rule applies
  pub timing_refuses : {X : Result Answer Refusal} {R : List ℤ} {A : List ℕ} → Timing bytes numbers arcs X R A →
      (why : Refusal) → (X ≡ Err why) ↔ TimingRule bytes numbers arcs why
  pub path_refuses : {X : Result Path Refusal} {A : List ℕ} → PathCall bytes i arcs X A →
      (why : Refusal) → (X ≡ Err why) ↔ PathRule bytes i arcs why
  -- a refusal changes nothing that the caller lent
  pub timing_keeps : {why : Refusal} {R : List ℤ} {A : List ℕ} → Timing bytes numbers arcs (Err why) R A → (R ≡ numbers) × (A ≡ arcs)
  pub path_keeps : {why : Refusal} {A : List ℕ} → PathCall bytes i arcs (Err why) A → A ≡ arcs

pub record Demand2 (bytes : List ℕ) (numbers : List ℤ) (arcs : List ℕ) : Type 0 where
  -- every time, slack and missed count equals what the report's equations define, at their least whole-number solution
  pub defined : {setups holds : ℕ} {R : List ℤ} {A : List ℕ} → Timing bytes numbers arcs (Ok (Timed setups holds)) R A →
      Defined (circuit_of bytes) setups holds numbers R × (A ≡ arcs)
  -- a path shown really gives the late arrival that it explains: the one that timing, lent enough, writes for the same image
  pub explained : {i s n : ℕ} {lent B : List ℕ} {X : Result Answer Refusal} {R : List ℤ} {A : List ℕ} → PathCall bytes i lent (Ok (record { launch = s; count = n })) B →
      Served bytes numbers arcs → Timing bytes numbers arcs X R A → IsTimed X × Explained (circuit_of bytes) i s n lent B R
  -- "growing loop" is said exactly when no late departures fit with the setup limits put aside
  pub loop_exactly : {X : Result Answer Refusal} {R : List ℤ} {A : List ℕ} → Served bytes numbers arcs → Timing bytes numbers arcs X R A →
      IsLoop X ↔ NoneFit (circuit_of bytes)
  -- and the loop shown is a real ring of latches whose gain is above zero
  pub ring : {n : ℕ} {g : ℤ} {R : List ℤ} {A : List ℕ} → Timing bytes numbers arcs (Ok (Growing n g)) R A →
      RealRing (circuit_of bytes) n g arcs A × (R ≡ numbers)

-- Of two valid images with the same clock, phases and kinds, the first without a growing loop, the second only narrowing delay windows, lowering
-- setup or hold times, or dropping arcs while each synchronizer that had arcs in keeps one
pub record Demand3 (first second : List ℕ) (numbers lent : List ℤ) (arcs room : List ℕ) : Type 0 where
  -- the second has no growing loop, each of its times lies inside the first's window, and each check met stays met
  pub calmer : {setups holds : ℕ} {R : List ℤ} {A : List ℕ} {X : Result Answer Refusal} {S : List ℤ} {B : List ℕ} →
      Timing first numbers arcs (Ok (Timed setups holds)) R A → Served second lent room → Narrows (circuit_of first) (circuit_of second) →
      Timing second lent room X S B → Calmer (circuit_of first).synchronizers setups holds R X S
