-- Numbers as they are written: 1 to 10 decimal digits, leading zeros allowed.
use Rattle.std.specs.Prelude.{List, [], ◌∷◌, ℕ, ◌+◌, ◌*◌, ◌≤◌, length}
use Prim.Native.Char.{code}

-- no number and no end of a window is greater
abbrev pub greatest : ℕ
greatest = 1000000000

abbrev pub most_digits : ℕ
most_digits = 10

-- the character of a digit
abbrev pub digit : ℕ → ℕ
digit d = code "0" + d

-- `Digits v s n`: the digits s, written behind those of the number v, make the number n
pub data Digits : ℕ → List ℕ → ℕ → Type 0 where
  none : {v : ℕ} → Digits v [] v
  one_more : {v d n : ℕ} {s : List ℕ} → d ≤ 9 → Digits (10 * v + d) s n → Digits v (digit d ∷ s) n

-- s is written for n
pub record Number (s : List ℕ) (n : ℕ) : Type 0 where
  pub digits : Digits 0 s n
  pub some : 1 ≤ length s
  pub few : length s ≤ most_digits
  pub small : n ≤ greatest
