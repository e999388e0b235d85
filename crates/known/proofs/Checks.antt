-- A check of P: a test that computes, with the proof that P holds where the test passes. Checks of the parts of a statement make a
-- check of the whole, so a closed statement is proved by computing one Bool.
use mathlib.Core.Path.{◌≡◌, refl, ap, ap₂}
use mathlib.Core.Bool.{Bool, true, false, ◌&&◌, ◌||◌, not}
use mathlib.Core.List.{List, [], ◌∷◌}
use mathlib.Core.Logic.{◌≢◌}
use Prim.Native.Nat.{ℕ, zero, suc, ◌≤◌, ◌<◌}
use native.Mathlib.Omega.{arith}
use lib.Dec.{T, T_not, ltb, leb, eqb, ltb→lt, leb→le, eqb→eq, eqb_refl}
use lib.IntN.{ℤ, pos, negsuc}
use lib.Signed.{◌<ℤ◌, lt_z, lt_z_yes}
use Rattle.ticks.proofs.Ints.{ints}
use Rattle.flow.specs.Walk.{Every, Distinct}
use Rattle.flow.proofs.Pigeonhole.{below_suc}

pub record Check (P : Type 0) : Type 0 where
  pub test : Bool
  pub sound : T test → P

abbrev pub given : {P Q : Type 0} → (P → Q) → Check P → Check Q
given f p = record { test = p.test; sound = λ t. f (p.sound t) }

abbrev pub always : Check (Unit {0})
always = record { test = true; sound = λ t. t }

abbrev pub never : {P : Type 0} → Check P
never = record { test = false; sound = λ t. absurd t }

pub left : (a b : Bool) → T (a && b) → T a
left true b t = tt
left false b t = t

pub right : (a b : Bool) → T (a && b) → T b
right true b t = t
right false b t = absurd t

infixr 30 ◌and◌
abbrev pub ◌and◌ : {P Q : Type 0} → Check P → Check Q → Check (P × Q)
p and q = record {
  test = p.test && q.test;
  sound = λ t. (p.sound (left p.test q.test t), q.sound (right p.test q.test t));
}

-- two ways to check one thing
pub one_of : {P : Type 0} (a b : Bool) → (T a → P) → (T b → P) → T (a || b) → P
one_of true b p q t = p tt
one_of false b p q t = q t

infixr 20 ◌or◌
abbrev pub ◌or◌ : {P : Type 0} → Check P → Check P → Check P
p or q = record { test = p.test || q.test; sound = one_of p.test q.test p.sound q.sound }

-- numbers
abbrev pub less : (a b : ℕ) → Check (a < b)
less a b = record { test = ltb a b; sound = ltb→lt a b }

abbrev pub at_most : (a b : ℕ) → Check (a ≤ b)
at_most a b = record { test = leb a b; sound = leb→le a b }

abbrev pub equal : (a b : ℕ) → Check (a ≡ b)
equal a b = record { test = eqb a b; sound = eqb→eq a b }

pub unequal_sound : (a b : ℕ) → T (not (eqb a b)) → a ≢ b
unequal_sound a b t e = T_not (eqb a b) t (rw e (eqb_refl b))

abbrev pub unequal : (a b : ℕ) → Check (a ≢ b)
unequal a b = record { test = not (eqb a b); sound = unequal_sound a b }

abbrev pub less_ℤ : (a b : ℤ) → Check (a <ℤ b)
less_ℤ a b = record { test = lt_z a b; sound = lt_z_yes }

abbrev pub equal_ℤ : (a b : ℤ) → Check (a ≡ b)
equal_ℤ (pos a) (pos b) = given (ap pos) (equal a b)
equal_ℤ (pos a) (negsuc b) = never
equal_ℤ (negsuc a) (pos b) = never
equal_ℤ (negsuc a) (negsuc b) = given (ap negsuc) (equal a b)

abbrev pub unequal_ℤ : (a b : ℤ) → Check (a ≢ b)
unequal_ℤ a b = given (λ h e. let k : a <ℤ b = h in omega ints) (less_ℤ a b) or given (λ h e. let k : b <ℤ a = h in omega ints) (less_ℤ b a)

pub true_sound : (b : Bool) → T b → b ≡ true
true_sound true t = refl
true_sound false t = absurd t

abbrev pub is_true : (b : Bool) → Check (b ≡ true)
is_true b = record { test = b; sound = true_sound b }

-- lists
abbrev pub equals : {A : Type 0} → ((x y : A) → Check (x ≡ y)) → (xs ys : List A) → Check (xs ≡ ys)
equals check [] [] = record { test = true; sound = λ t. refl }
equals check [] (y ∷ ys) = never
equals check (x ∷ xs) [] = never
equals check (x ∷ xs) (y ∷ ys) = given (λ h. ap₂ ◌∷◌ h.0 h.1) (check x y and equals check xs ys)

abbrev pub every : {P : ℕ → Type 0} → ((x : ℕ) → Check (P x)) → (xs : List ℕ) → Check (Every P xs)
every check [] = always
every check (x ∷ xs) = check x and every check xs

abbrev pub distinct : (xs : List ℕ) → Check (Distinct xs)
distinct [] = always
distinct (x ∷ xs) = every (unequal x) xs and distinct xs

-- every number below n
abbrev pub below : {P : ℕ → Type 0} → ((i : ℕ) → Check (P i)) → (n : ℕ) → Check ((i : ℕ) → i < n → P i)
below check zero = record { test = true; sound = λ t i l. let z : ⊥ = omega arith in absurd z }
below {P} check (suc n) = given (λ h. below_suc P n h.0 h.1) (below check n and check n)
