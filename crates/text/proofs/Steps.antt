-- One step of grammar's reader: what it gives where a byte or a digit is found, and where it is not.
use mathlib.Core.Path.{◌≡◌, refl, sym, ap, ◌∙◌}
use mathlib.Core.Bool.{Bool, true, false}
use mathlib.Core.List.{List}
use Prim.Native.Char.{code}
use Prim.Native.Nat.{ℕ, zero, suc, ◌+◌, ◌-◌, ◌*◌, ◌≤◌, ◌<◌}
use native.Mathlib.Omega.{arith}
use lib.ListN.{length, drop, get_or, drop_of_length-le}
use Rattle.std.specs.Prelude.{Option, None, Some, if◌then◌else◌}
use Rattle.std.proofs.lemmas.Bool.{le-leb, lt-leb}
use Rattle.std.proofs.lemmas.Option.{cond_some, none-some}
use Rattle.image.specs.Words.{byte_at}
use Rattle.grammar.specs.Numbers.{greatest}
use Rattle.grammar.specs.Inside.Reader.{and_then, ◌>>=◌, behind, behind_all, word_at, is_digit, digit_at, digits_at}
use Rattle.grammar.proofs.Places.{left}

-- a byte more of a word
word_more : (word bytes : List ℕ) (at k : ℕ) → k < length word →
    word_at (drop k word) bytes at ≡ (behind bytes at (get_or word k 0) >>= word_at (drop (k + 1) word) bytes)
unfolding word_at and_then
word_more word bytes at k h = rw (left word k h) (go (behind bytes at (get_or word k 0)))
  where
    go : (o : Option ℕ) → ((o >>= behind_all (drop (k + 1) word) bytes) >>= λ next. behind bytes next (code " ")) ≡ (o >>= word_at (drop (k + 1) word) bytes)
    go None = refl
    go (Some x) = refl

pub word_on : (word bytes : List ℕ) (at k next : ℕ) → k < length word → behind bytes at (get_or word k 0) ≡ Some next →
    word_at (drop k word) bytes at ≡ word_at (drop (k + 1) word) bytes next
unfolding and_then
word_on word bytes at k next h e = word_more word bytes at k h ∙ ap (λ o. o >>= word_at (drop (k + 1) word) bytes) e

pub word_off : (word bytes : List ℕ) (at k : ℕ) → k < length word → behind bytes at (get_or word k 0) ≡ None →
    word_at (drop k word) bytes at ≡ None
unfolding and_then
word_off word bytes at k h e = word_more word bytes at k h ∙ ap (λ o. o >>= word_at (drop (k + 1) word) bytes) e

pub word_end : (word bytes : List ℕ) (at k : ℕ) → length word ≤ k → word_at (drop k word) bytes at ≡ behind bytes at (code " ")
unfolding word_at and_then
word_end word bytes at k h = rw (drop_of_length-le word h) refl

-- ---- digits: k of them taken, of at most `most`
pub digit_found : (bytes : List ℕ) (at d : ℕ) → digit_at bytes at ≡ Some d → (is_digit (byte_at bytes at) ≡ true) × (byte_at bytes at - code "0" ≡ d)
unfolding digit_at
digit_found bytes at d e = cond_some (is_digit (byte_at bytes at)) (byte_at bytes at - code "0") d e

digit_missed : (bytes : List ℕ) (at : ℕ) → digit_at bytes at ≡ None → is_digit (byte_at bytes at) ≡ false
unfolding digit_at
digit_missed bytes at e = go (is_digit (byte_at bytes at)) e where
  go : (b : Bool) → (if b then Some (byte_at bytes at - code "0") else None) ≡ None → b ≡ false
  go true e = absurd (none-some _ (sym e))
  go false e = refl

-- one less is left
less : (most k : ℕ) → k < most → most - k ≡ suc (most - (k + 1))
less most k h = omega arith

pub digits_on : (most k : ℕ) (bytes : List ℕ) (at v d : ℕ) → k < most → digit_at bytes at ≡ Some d → 10 * v + d ≤ greatest →
    digits_at (most - k) bytes at v ≡ digits_at (most - (k + 1)) bytes (at + 1) (10 * v + d)
unfolding digits_at
digits_on most k bytes at v d h e l =
    let f = digit_found bytes at d e in
    rw (less most k h, f.0, f.1, le-leb (10 * v + d) greatest l) refl

pub digits_over : (most k : ℕ) (bytes : List ℕ) (at v d : ℕ) → k < most → digit_at bytes at ≡ Some d → greatest < 10 * v + d →
    digits_at (most - k) bytes at v ≡ None
unfolding digits_at
digits_over most k bytes at v d h e l =
    let f = digit_found bytes at d e in
    rw (less most k h, f.0, f.1, lt-leb (10 * v + d) greatest l) refl

pub digits_end : (most k : ℕ) (bytes : List ℕ) (at v : ℕ) → digit_at bytes at ≡ None → digits_at (most - k) bytes at v ≡ Some (record { value = v; next = at })
unfolding digits_at
digits_end most k bytes at v e = go (most - k) where
  go : (n : ℕ) → digits_at n bytes at v ≡ Some (record { value = v; next = at })
  go zero = refl
  go (suc n) = rw (digit_missed bytes at e) refl

pub digits_full : (most k : ℕ) (bytes : List ℕ) (at v : ℕ) → most ≤ k → digits_at (most - k) bytes at v ≡ Some (record { value = v; next = at })
unfolding digits_at
digits_full most k bytes at v h = let none : most - k ≡ 0 = omega arith in rw none refl
