-- When a test of the rules fails, as a fact about numbers: each form of test once, to and from.
use mathlib.Core.Path.{◌≡◌, refl}
use mathlib.Core.Bool.{Bool, true, false, ◌||◌, ◌&&◌, not}
use mathlib.Core.Logic.{◌↔◌, ◌⊎◌, inl, inr}
use Prim.Native.Nat.{ℕ, ◌<◌, ◌≤◌}
use native.Mathlib.Omega.{arith}
use lib.Dec.{ltb, leb, eqb}
use borrow.Author.Tests.{ltb-true, ltb-false, leb-false, eqb-true, not-false, lt-ltb, le-ltb, lt-leb, eq-eqb}

pub false_true : false ≡ true → ⊥
false_true h = let z : ◌≡◌ {A = ℕ} 0 1 = cc in omega arith

pub ltb_iff : (a b : ℕ) → ltb a b ≡ false ↔ b ≤ a
ltb_iff a b = (ltb-false a b, le-ltb a b)

pub leb_iff : (a b : ℕ) → leb a b ≡ false ↔ b < a
leb_iff a b = (leb-false a b, lt-leb a b)

pub differs_iff : (a b : ℕ) → not (eqb a b) ≡ false ↔ a ≡ b
differs_iff a b = (λ h. eqb-true a b (not-false _ h), λ h. rw (eq-eqb a b h))

pub below_iff : (a b : ℕ) → ltb a b ≡ true ↔ a < b
below_iff a b = (ltb-true a b, lt-ltb a b)

pub same_iff : (a b : ℕ) → eqb a b ≡ true ↔ a ≡ b
same_iff a b = (eqb-true a b, eq-eqb a b)

pub or_iff : {P Q : Type 0} (a b : Bool) → a ≡ false ↔ P → b ≡ false ↔ Q → (a || b) ≡ false ↔ (P × Q)
or_iff true b p q = (λ h. (p.0 h, q.0 (cc)), λ h. p.1 h.0)
or_iff false b p q = (λ h. (p.0 refl, q.0 h), λ h. q.1 h.1)

pub and_iff : {P Q : Type 0} (a b : Bool) → a ≡ true ↔ P → b ≡ false ↔ Q → (a && b) ≡ false ↔ (P → Q)
and_iff true b p q = (λ h x. q.0 h, λ h. q.1 (h (p.0 refl)))
and_iff false b p q = (λ h x. let z : false ≡ true = p.1 x in q.0 (cc), λ h. refl)

-- tests that passed
pub either_iff : {P Q : Type 0} (a b : Bool) → a ≡ true ↔ P → b ≡ true ↔ Q → (a || b) ≡ true ↔ (P ⊎ Q)
either_iff true b p q = (λ h. inl (p.0 refl), λ h. refl)
either_iff false b p q = (λ h. inr (q.0 h), λ h. elim h [ inl x ↦ (let z : false ≡ true = p.1 x in cc) | inr y ↦ q.1 y ])

pub both_iff : {P Q : Type 0} (a b : Bool) → a ≡ true ↔ P → b ≡ true ↔ Q → (a && b) ≡ true ↔ (P × Q)
both_iff true b p q = (λ h. (p.0 refl, q.0 h), λ h. q.1 h.1)
both_iff false b p q = (λ h. (p.0 h, q.0 (cc)), λ h. p.1 h.0)

pub not_iff : {P : Type 0} (a : Bool) → a ≡ true ↔ P → not a ≡ false ↔ P
not_iff a p = (λ h. p.0 (not-false a h), λ h. rw (p.1 h))
