-- ℤ made readable to `omega`, which knows ℕ only. A whole number z is taken apart into two naturals, z = up z - down z.
-- The rule set `ints` turns ≤ℤ, <ℤ and ≡ into facts on these and back; `sum`, `diff` and `apart` say what +ℤ, -ℤ and sub_ℕ
-- make of them. So `omega (ints, sum a b)` proves what is linear in a, b and a +ℤ b.
use mathlib.Core.Path.{◌≡◌, refl, ap}
use mathlib.Core.Bool.{Bool, true, false}
use Prim.Native.Nat.{ℕ, zero, suc, ◌+◌, ◌≤◌, ◌<◌}
use native.Mathlib.Omega.{arith}
use lib.Dec.{T, ltb, leb→le, le→leb, ltb→lt, lt→ltb}
use lib.IntN.{ℤ, pos, negsuc, neg_ℤ, ◌+ℤ◌, ◌-ℤ◌, sub_ℕ}
use lib.Signed.{◌≤ℤ◌, ◌<ℤ◌, le_z, lt_z}
use borrow.Author.Tests.{ltb-true, ltb-false}

abbrev pub up : ℤ → ℕ
up (pos n) = n
up (negsuc n) = 0

abbrev pub down : ℤ → ℕ
down (pos n) = 0
down (negsuc n) = suc n

pub le_in : {a b : ℤ} → a ≤ℤ b → up a + down b ≤ up b + down a
le_in {a = pos m} {b = pos n} h = let k = leb→le m n h.le in omega arith
le_in {a = pos m} {b = negsuc n} h = absurd h.le
le_in {a = negsuc m} {b = pos n} h = omega arith
le_in {a = negsuc m} {b = negsuc n} h = let k = leb→le n m h.le in omega arith

pub le_out : {a b : ℤ} → up a + down b ≤ up b + down a → a ≤ℤ b
le_out {a} {b} h = record { le = go a b h }
  where
    go : (a b : ℤ) → up a + down b ≤ up b + down a → T (le_z a b)
    go (pos m) (pos n) h = le→leb m n (omega arith)
    go (pos m) (negsuc n) h = let k : ⊥ = omega arith in absurd k
    go (negsuc m) (pos n) h = tt
    go (negsuc m) (negsuc n) h = le→leb n m (omega arith)

pub lt_in : {a b : ℤ} → a <ℤ b → up a + down b < up b + down a
lt_in {a = pos m} {b = pos n} h = let k = ltb→lt m n h.lt in omega arith
lt_in {a = pos m} {b = negsuc n} h = absurd h.lt
lt_in {a = negsuc m} {b = pos n} h = omega arith
lt_in {a = negsuc m} {b = negsuc n} h = let k = ltb→lt n m h.lt in omega arith

pub lt_out : {a b : ℤ} → up a + down b < up b + down a → a <ℤ b
lt_out {a} {b} h = record { lt = go a b h }
  where
    go : (a b : ℤ) → up a + down b < up b + down a → T (lt_z a b)
    go (pos m) (pos n) h = lt→ltb m n (omega arith)
    go (pos m) (negsuc n) h = let k : ⊥ = omega arith in absurd k
    go (negsuc m) (pos n) h = tt
    go (negsuc m) (negsuc n) h = lt→ltb n m (omega arith)

pub eq_in : {a b : ℤ} → a ≡ b → up a + down b ≡ up b + down a
eq_in h = rw h refl

pub eq_out : {a b : ℤ} → up a + down b ≡ up b + down a → a ≡ b
eq_out {a = pos m} {b = pos n} h = ap pos (omega arith)
eq_out {a = pos m} {b = negsuc n} h = let k : ⊥ = omega arith in absurd k
eq_out {a = negsuc m} {b = pos n} h = let k : ⊥ = omega arith in absurd k
eq_out {a = negsuc m} {b = negsuc n} h = ap negsuc (omega arith)

pub ruleset ints = (arith, le_in, le_out, lt_in, lt_out, eq_in, eq_out)

pub apart : (a b : ℕ) → up (sub_ℕ a b) + b ≡ a + down (sub_ℕ a b)
apart a b = go (ltb a b) refl
  where
    go : (t : Bool) → ltb a b ≡ t → up (sub_ℕ a b) + b ≡ a + down (sub_ℕ a b)
    go true e = rw e (let h = ltb-true a b e in omega arith)
    go false e = rw e (let h = ltb-false a b e in omega arith)

pub sum : (a b : ℤ) → up (a +ℤ b) + (down a + down b) ≡ up a + up b + down (a +ℤ b)
sum (pos m) (pos n) = omega arith
sum (pos m) (negsuc n) = omega (arith, apart m (suc n))
sum (negsuc m) (pos n) = omega (arith, apart n (suc m))
sum (negsuc m) (negsuc n) = omega arith

negated : (a : ℤ) → (up (neg_ℤ a) ≡ down a) × (down (neg_ℤ a) ≡ up a)
negated (pos zero) = (refl, refl)
negated (pos (suc n)) = (refl, refl)
negated (negsuc n) = (refl, refl)

pub diff : (a b : ℤ) → up (a -ℤ b) + (down a + up b) ≡ up a + down b + down (a -ℤ b)
diff a b = omega (arith, sum a (neg_ℤ b), negated b)
