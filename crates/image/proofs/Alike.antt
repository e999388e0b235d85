-- Refusals that are the same are by one rule and for one record, and no answer is a refusal and something else too.
use mathlib.Core.Path.{◌≡◌, ap}
use Rattle.std.specs.Prelude.{Result, Ok, Err}
use Prim.Native.Nat.{ℕ}
use native.Mathlib.Omega.{arith}
use Rattle.image.specs.Refusal.{refusal}
use Rattle.image.specs.declared.refusal.Rule.{Rule}
use Rattle.image.specs.declared.refusal.Refusal.{Refusal}

pub err_is_not_ok : {A E : Type 0} {e : E} {x : A} → ◌≡◌ {A = Result A E} (Err e) (Ok x) → ⊥
err_is_not_ok same = let z : ◌≡◌ {A = ℕ} 0 1 = cc in omega arith

module _ {A : Type 0} {r s : Rule} {m n : ℕ} (same : ◌≡◌ {A = Result A Refusal} (Err (refusal r m)) (Err (refusal s n))) where
  given : refusal r m ≡ refusal s n
  given = cc

  pub rule_alike : r ≡ s
  rule_alike = ap (λ (x : Refusal). x.rule) given

  pub record_alike : m ≡ n
  record_alike = ap (λ (x : Refusal). x.«record») given
