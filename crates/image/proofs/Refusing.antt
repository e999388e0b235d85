-- What a search through a table decides: where it finds a record, the rule refuses it, and where it finds none, the rules behind it decide.
use mathlib.Core.Path.{◌≡◌, refl, sym, ◌∙◌}
use mathlib.Core.Bool.{Bool, true, false, cond}
use Prim.Native.Nat.{ℕ}
use lib.Dec.{ltb}
use Rattle.std.specs.Prelude.{Option, Some, None, Result, Err}
use Rattle.image.specs.Rules.{lowest_of, lowest_found}
use Rattle.image.specs.Refusal.{refusal}
use Rattle.image.specs.Checks.{refuse, refuse_at}
use Rattle.image.specs.declared.header.Image.{Image}
use Rattle.image.specs.declared.refusal.Rule.{Rule}
use Rattle.image.specs.declared.refusal.Refusal.{Refusal}

module _ (rule : Rule) (rest : Result Image Refusal) (lowest : ℕ) where
  found : (b : Bool) (i : ℕ) → Some i ≡ cond b (Some lowest) None → refuse b rule lowest rest ≡ Err (refusal rule i)
  found true i same = let at : lowest ≡ i = cc in rw at refl
  found false i same = absurd (let z : ◌≡◌ {A = ℕ} 0 1 = cc in cc)

  unfound : (b : Bool) → ((i : ℕ) → cond b (Some lowest) None ≡ Some i → ⊥) → refuse b rule lowest rest ≡ rest
  unfound true none = absurd (none lowest refl)
  unfound false none = refl

module _ (bad : ℕ → Bool) (n : ℕ) (rule : Rule) (rest : Result Image Refusal) {r : Option ℕ} (searched : r ≡ lowest_found bad n) where
  pub refused : {i : ℕ} → r ≡ Some i → refuse_at bad n rule rest ≡ Err (refusal rule i)
  refused {i} is = found rule rest (lowest_of bad n) (ltb (lowest_of bad n) n) i (sym is ∙ searched)

  pub passed_over : ((i : ℕ) → r ≡ Some i → ⊥) → refuse_at bad n rule rest ≡ rest
  passed_over none = unfound rule rest (lowest_of bad n) (ltb (lowest_of bad n) n) (λ i is. none i (searched ∙ is))
