-- Places in a text: the byte at a place is the first of those that are left from it on.
use mathlib.Core.Path.{◌≡◌, sym, ap, ◌∙◌}
use mathlib.Core.Bool.{true, ◌&&◌}
use mathlib.Core.List.{List, [], ◌∷◌, ◌++◌}
use Prim.Native.Char.{code}
use Prim.Native.Nat.{ℕ, zero, suc, ◌+◌, ◌≤◌, ◌<◌}
use native.Mathlib.Nat.{suc-add, add-suc, add-zero}
use native.Mathlib.Numerals.{add-one}
use native.Mathlib.Omega.{arith}
use lib.Dec.{ltb, leb, eqb}
use lib.ListN.{length, drop}
use lib.Seq.{drop-cons}
use Rattle.std.specs.Prelude.{None, Some}
use Rattle.std.proofs.lemmas.Bool.{and_parts, and_from, and_right, cond-true, cond-false, ltb-true, leb-true, eqb-true, lt-ltb, eq-eqb, ne_eqb}
use Rattle.std.proofs.lemmas.Option.{cond_some, none-some}
use Rattle.image.specs.Words.{byte_at}
use Rattle.grammar.specs.Windows.{Join, series, parallel, between}
use Rattle.grammar.specs.Inside.Reader.{behind, is_digit}

-- what is left from a place on begins with its byte
pub left : (bytes : List ℕ) (at : ℕ) → at < length bytes → drop at bytes ≡ byte_at bytes at ∷ drop (at + 1) bytes
left bytes at h = rw (add-one at) (drop-cons bytes at 0 h)

pub byte_first : (bytes rest : List ℕ) (at c : ℕ) → drop at bytes ≡ c ∷ rest → byte_at bytes at ≡ c
byte_first [] rest zero c e = let z : ◌≡◌ {A = ℕ} 0 1 = cc in let no : ⊥ = omega (arith, z) in absurd no
byte_first [] rest (suc at) c e = let z : ◌≡◌ {A = ℕ} 0 1 = cc in let no : ⊥ = omega (arith, z) in absurd no
byte_first (b ∷ bytes) rest zero c e = cc
byte_first (b ∷ bytes) rest (suc at) c e = byte_first bytes rest at c e

pub inside : (bytes rest : List ℕ) (at c : ℕ) → drop at bytes ≡ c ∷ rest → at < length bytes
inside [] rest zero c e = let z : ◌≡◌ {A = ℕ} 0 1 = cc in let no : ⊥ = omega (arith, z) in absurd no
inside [] rest (suc at) c e = let z : ◌≡◌ {A = ℕ} 0 1 = cc in let no : ⊥ = omega (arith, z) in absurd no
inside (b ∷ bytes) rest zero c e = omega arith
inside (b ∷ bytes) rest (suc at) c e = omega (arith, inside bytes rest at c e)

-- behind what stands at a place, the rest is left
pub past : (bytes s rest : List ℕ) (at : ℕ) → drop at bytes ≡ s ++ rest → drop (at + length s) bytes ≡ rest
past bytes [] rest at e = rw (add-zero at) e
past bytes (c ∷ s) rest at e =
    let next = past bytes s rest (suc at) (rw (← add-one at) (ap tail (sym (left bytes at (inside bytes (s ++ rest) at c e)) ∙ e))) in
    rw (add-suc at (length s), ← suc-add at (length s)) next
  where
    tail : List ℕ → List ℕ
    tail [] = []
    tail (x ∷ xs) = xs

-- a byte other than 0 stands within the text
pub reads_inside : (bytes : List ℕ) (at : ℕ) → 1 ≤ byte_at bytes at → at < length bytes
reads_inside [] zero h = omega (arith, h)
reads_inside [] (suc at) h = omega (arith, h)
reads_inside (b ∷ bytes) zero h = omega arith
reads_inside (b ∷ bytes) (suc at) h = omega (arith, reads_inside bytes at h)

-- so do a digit and what joins the parts of a row
pub digit_true : (c : ℕ) → is_digit c ≡ true → (code "0" ≤ c) × (c ≤ code "9")
digit_true c e =
    let both = and_parts (leb (code "0") c) (leb c (code "9")) e in
    (leb-true (code "0") c both.0, leb-true c (code "9") both.1)

pub digit_inside : (bytes : List ℕ) (at : ℕ) → is_digit (byte_at bytes at) ≡ true → at < length bytes
digit_inside bytes at e = reads_inside bytes at (omega (arith, digit_true (byte_at bytes at) e))

pub between_inside : (j : Join) (bytes : List ℕ) (at : ℕ) → byte_at bytes at ≡ between j → at < length bytes
between_inside series bytes at e = reads_inside bytes at (omega arith)
between_inside parallel bytes at e = reads_inside bytes at (omega arith)

-- ---- a byte that is asked for
pub behind_found : (bytes : List ℕ) (at c next : ℕ) → behind bytes at c ≡ Some next → (at < length bytes) × (byte_at bytes at ≡ c) × (next ≡ at + 1)
unfolding behind
behind_found bytes at c next e =
    let test = ltb at (length bytes) && eqb (byte_at bytes at) c in
    let here = cond_some test (at + 1) next e in
    let both = and_parts (ltb at (length bytes)) (eqb (byte_at bytes at) c) here.0 in
    (ltb-true at (length bytes) both.0, eqb-true (byte_at bytes at) c both.1, sym here.1)

-- another byte stands there
pub behind_other : (bytes : List ℕ) (at c : ℕ) → (byte_at bytes at ≡ c → ⊥) → behind bytes at c ≡ None
unfolding behind
behind_other bytes at c h = cond-false _ (Some (at + 1)) None (and_right (ltb at (length bytes)) _ (ne_eqb (byte_at bytes at) c h))

pub behind_missed : (bytes : List ℕ) (at c : ℕ) → behind bytes at c ≡ None → 1 ≤ c → byte_at bytes at ≡ c → ⊥
unfolding behind
behind_missed bytes at c e some here =
    let inside : at < length bytes = reads_inside bytes at (omega (arith, here, some)) in
    let found = cond-true _ (Some (at + 1)) None (and_from _ _ (lt-ltb at (length bytes) inside) (eq-eqb (byte_at bytes at) c here)) in
    none-some (at + 1) (sym e ∙ found)
