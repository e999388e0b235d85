-- Numbers as text, a byte a character.
use Rattle.std.specs.Prelude.{cond, List, [], ◌∷◌, ◌++◌, ℕ, zero, suc, ◌+◌, ◌-◌, ◌/◌, ◌%◌, ◌^◌, ltb, eqb, ℤ, pos, negsuc}
use Prim.Native.Char.{code}

-- the character of a digit
abbrev pub digit : ℕ → ℕ
digit d = code "0" + d

abbrev pub dash : ℕ
dash = code "-"

-- the digits of n, at most so many: those of its tens, if it has any, then that of its ones
unfoldable pub digits_up_to : ℕ → ℕ → List ℕ
digits_up_to zero n = []
digits_up_to (suc most) n = cond (ltb n 10) (digit n ∷ []) (digits_up_to most (n / 10) ++ (digit (n % 10) ∷ []))

-- a number in decimal digits, without leading zeros; n + 1 digits are always enough
unfoldable pub digits : ℕ → List ℕ
digits n = digits_up_to (suc n) n

-- a signed number: a dash before the digits of one below zero
unfoldable pub signed : ℤ → List ℕ
signed (pos n) = digits n
signed (negsuc n) = dash ∷ digits (suc n)

-- a result: a dash for the mark, 2^63 - 1
unfoldable pub result_text : ℤ → List ℕ
result_text (pos n) = cond (eqb n (2 ^ 63 - 1)) (dash ∷ []) (signed (pos n))
result_text (negsuc n) = signed (negsuc n)
