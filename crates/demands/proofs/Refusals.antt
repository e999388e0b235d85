-- A refusal is given by the rule that applies: the rule keeps the promise, and only one answer does.
use mathlib.Core.Path.{◌≡◌, refl}
use mathlib.Core.List.{List}
use mathlib.Core.Logic.{◌↔◌}
use Rattle.std.specs.Prelude.{Result, Ok, Err}
use Prim.Native.Nat.{ℕ}
use lib.IntN.{ℤ}
use Rattle.image.proofs.Validity.{accepts}
use Rattle.image.specs.Checks.{check_of}
use Rattle.image.specs.Valid.{image_in}
use Rattle.image.specs.declared.refusal.Refusal.{Refusal}
use Rattle.image.proofs.Alike.{err_is_not_ok}
use Rattle.circuit.specs.Circuit.{circuit_of}
use Rattle.circuit.proofs.Sound.{Sound, sound}
use Rattle.circuit.proofs.Solved.{growing_exactly}
use Rattle.timing.specs.TimingPromise as timing
use Rattle.timing.specs.TimingPromise.{Timing}
use Rattle.timing.specs.PathPromise as paths
use Rattle.timing.specs.PathPromise.{PathCall}
use Rattle.timing.specs.declared.timing_call.Answer.{Answer}
use Rattle.timing.specs.declared.trail.Path.{Path}
use Rattle.timing.proofs.OnePath.{path_only}
use Rattle.demands.specs.Rules.{TimingRule, PathRule}
use Rattle.demands.specs.Rules as rules
use Rattle.demands.proofs.OneOutcome.{timing_one}

module _ (bytes : List ℕ) (numbers : List ℤ) (arcs : List ℕ) where
  timing_ruled : {why : Refusal} → TimingRule bytes numbers arcs why → Timing bytes numbers arcs (Err why) numbers arcs
  timing_ruled (rules.of_image e) = timing.refused e
  timing_ruled (rules.few_numbers ok l) = timing.few_numbers ok l
  timing_ruled (rules.few_arcs ok k l) = timing.few_arcs ok k l

  timing_rule : {R : List ℤ} {A : List ℕ} {why : Refusal} → Timing bytes numbers arcs (Err why) R A →
      TimingRule bytes numbers arcs why × (R ≡ numbers) × (A ≡ arcs)
  timing_rule (timing.refused e) = (rules.of_image e, refl, refl)
  timing_rule (timing.few_numbers ok l) = (rules.few_numbers ok l, refl, refl)
  timing_rule (timing.few_arcs ok k l) = (rules.few_arcs ok k l, refl, refl)

  pub timing_refuses : {X : Result Answer Refusal} {R : List ℤ} {A : List ℕ} → Timing bytes numbers arcs X R A → (why : Refusal) →
      (X ≡ Err why) ↔ TimingRule bytes numbers arcs why
  timing_refuses x why = (
    λ h. (timing_rule (rw h at x)).0,
    λ r. (timing_one bytes numbers arcs x (timing_ruled r) (λ m n g k d e. absurd (err_is_not_ok e))).0,
  )

  pub timing_keeps : {R : List ℤ} {A : List ℕ} {why : Refusal} → Timing bytes numbers arcs (Err why) R A → (R ≡ numbers) × (A ≡ arcs)
  timing_keeps x = let h = timing_rule x in (h.1, h.2)

module _ (bytes : List ℕ) (i : ℕ) (arcs : List ℕ) where
  held : check_of bytes ≡ Ok (image_in bytes) → Sound (circuit_of bytes)
  held ok = sound bytes ((accepts bytes).1 ok)

  path_ruled : {why : Refusal} → PathRule bytes i arcs why → PathCall bytes i arcs (Err why) arcs
  path_ruled (rules.of_image e) = paths.refused e
  path_ruled (rules.few_arcs ok l) = paths.few_arcs ok l
  path_ruled (rules.no_such ok k l) = paths.no_such ok k l
  path_ruled (rules.no_arc k l) = paths.unentered k l
  path_ruled (rules.no_times a k l e never) = paths.growing a k l e ((growing_exactly (circuit_of bytes) (held k.good)).0 never)

  path_rule : {A : List ℕ} {why : Refusal} → PathCall bytes i arcs (Err why) A → PathRule bytes i arcs why × (A ≡ arcs)
  path_rule (paths.refused e) = (rules.of_image e, refl)
  path_rule (paths.few_arcs ok l) = (rules.few_arcs ok l, refl)
  path_rule (paths.no_such ok k l) = (rules.no_such ok k l, refl)
  path_rule (paths.unentered k l) = (rules.no_arc k l, refl)
  path_rule (paths.growing a k l e ring) = (rules.no_times a k l e ((growing_exactly (circuit_of bytes) (held k.good)).1 ring), refl)

  pub path_refuses : {X : Result Path Refusal} {A : List ℕ} → PathCall bytes i arcs X A → (why : Refusal) →
      (X ≡ Err why) ↔ PathRule bytes i arcs why
  path_refuses x why = (λ h. (path_rule (rw h at x)).0, λ r. (path_only bytes i arcs x (path_ruled r)).0)

  pub path_keeps : {A : List ℕ} {why : Refusal} → PathCall bytes i arcs (Err why) A → A ≡ arcs
  path_keeps x = (path_rule x).1
