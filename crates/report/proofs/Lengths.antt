-- How long the texts of small numbers are, and lines of them.
use mathlib.Core.Path.{◌≡◌}
use mathlib.Core.Bool.{Bool, true, false, cond}
use mathlib.Core.List.{List, [], ◌∷◌, ◌++◌, map, append-nil}
use mathlib.Core.Logic.{inl, inr}
use Prim.Native.Nat.{ℕ, zero, suc, ◌+◌, ◌-◌, ◌*◌, ◌^◌, ◌≤◌, ◌<◌}
use native.Mathlib.Nat.{mul-suc}
use native.Mathlib.Omega.{arith}
use lib.Dec.{eqb}
use lib.IntN.{ℤ, pos, negsuc, nat_abs}
use lib.ListN.{length, take, drop, get_or, replicate, length-append, length-take}
use Rattle.circuit.proofs.Sizes.{Small, AllSmall}
use Rattle.report.specs.Limits.{FIRST_LINE, ROW}
use Rattle.report.specs.Ascii.{ascii}
use Rattle.report.specs.Decimal.{dash, digits, signed, result_text}
use Rattle.report.specs.Text.{space, feed, spaced, line, each, arc_line, row}
use Rattle.report.proofs.Digits.{digits_few}

-- a sign and 13 digits
signed_few : (z : ℤ) → nat_abs z < 10 ^ 13 → length (signed z) ≤ 14
unfolding signed
signed_few (pos n) h = omega (arith, digits_few 12 n h)
signed_few (negsuc n) h = omega (arith, digits_few 12 (suc n) h)

result_few : (z : ℤ) → Small z → length (result_text z) ≤ 14
unfolding result_text
result_few z (inl e) = rw e (omega arith)
result_few (pos n) (inr h) = go (eqb n (2 ^ 63 - 1)) (signed_few (pos n) (omega arith))
  where
    go : (b : Bool) → length (signed (pos n)) ≤ 14 → length (cond b (dash ∷ []) (signed (pos n))) ≤ 14
    go true h = omega arith
    go false h = h
result_few (negsuc n) (inr h) = signed_few (negsuc n) (omega arith)

-- any part of small numbers is small
pub small_append : (xs ys : List ℤ) → AllSmall xs → AllSmall ys → AllSmall (xs ++ ys)
small_append [] ys h k = k
small_append (x ∷ xs) ys h k = (h.0, small_append xs ys h.1 k)

pub small_drop : (n : ℕ) (xs : List ℤ) → AllSmall xs → AllSmall (drop n xs)
small_drop zero xs h = h
small_drop (suc n) [] h = tt
small_drop (suc n) (x ∷ xs) h = small_drop n xs h.1

small_take : (n : ℕ) (xs : List ℤ) → AllSmall xs → AllSmall (take n xs)
small_take zero xs h = tt
small_take (suc n) [] h = tt
small_take (suc n) (x ∷ xs) h = (h.0, small_take n xs h.1)

pub small_zeros : (n : ℕ) → AllSmall (replicate n (pos 0))
small_zeros zero = tt
small_zeros (suc n) = (inr (omega arith), small_zeros n)

-- n fields of results, each with its space
fields_few : (xs : List ℤ) → AllSmall xs → length (spaced (map result_text xs)) ≤ 15 * length xs
fields_few [] h = omega arith
fields_few (x ∷ xs) h = rw (length-append (result_text x) (spaced (map result_text xs))) (omega (arith, result_few x h.0, fields_few xs h.1))

line_long : (first : List ℕ) (fields : List (List ℕ)) → length (line first fields) ≡ length first + length (spaced fields) + 1
line_long first fields = rw (length-append first (spaced fields ++ (feed ∷ [])), length-append (spaced fields) (feed ∷ [])) (omega arith)

-- the line of a synchronizer
pub row_few : (numbers : List ℤ) (i : ℕ) → AllSmall numbers → i < 1000 → length (row numbers i) ≤ ROW
row_few numbers i h l =
    let six = take 6 (drop (6 * i) numbers) in
    let few = fields_few six (small_take 6 (drop (6 * i) numbers) (small_drop (6 * i) numbers h)) in
    rw (line_long (digits i) (map result_text six))
    (omega (arith, few, length-take 6 (drop (6 * i) numbers), digits_few 2 i l))

-- the line of an arc
pub arc_few : (arcs : List ℕ) (i : ℕ) → get_or arcs i 0 < 10000 → length (arc_line arcs i) ≤ 5
arc_few arcs i h = rw (length-append (digits (get_or arcs i 0)) (feed ∷ [])) (omega (arith, digits_few 3 (get_or arcs i 0) h))

-- n texts of at most m bytes
pub each_few : (text : ℕ → List ℕ) (m n : ℕ) → ((i : ℕ) → i < n → length (text i) ≤ m) → length (each text n) ≤ m * n
unfolding each
each_few text m zero h = omega arith
each_few text m (suc n) h =
    rw (length-append (each text n) (text n))
    (omega (arith, h n (omega arith), each_few text m n (λ i l. h i (omega arith)), mul-suc m n))

-- first lines
pub refused_few : (rule culprit : ℕ) → rule < 10000 → culprit < 10000 → length (line (ascii "refused") (digits rule ∷ digits culprit ∷ [])) ≤ FIRST_LINE
refused_few rule culprit h k =
    rw (line_long (ascii "refused") (digits rule ∷ digits culprit ∷ []), append-nil (digits culprit), length-append (digits rule) (space ∷ digits culprit))
    (omega (arith, digits_few 3 rule h, digits_few 3 culprit k))

pub loop_few : (count : ℕ) (gain : ℤ) → count < 1000 → nat_abs gain < 10 ^ 13 → length (line (ascii "loop") (digits count ∷ signed gain ∷ [])) ≤ 24
loop_few count gain h k =
    rw (line_long (ascii "loop") (digits count ∷ signed gain ∷ []), append-nil (signed gain), length-append (digits count) (space ∷ signed gain))
    (omega (arith, digits_few 2 count h, signed_few gain k))

pub timed_few : (l setups holds : ℕ) → l < 1000 → setups < 1000 → holds < 1000 →
    length (line (ascii "timed") (digits l ∷ digits setups ∷ digits holds ∷ [])) ≤ FIRST_LINE
timed_few l setups holds h k m =
    rw (
      line_long (ascii "timed") (digits l ∷ digits setups ∷ digits holds ∷ []),
      append-nil (digits holds),
      length-append (digits l) (space ∷ (digits setups ++ (space ∷ digits holds))),
      length-append (digits setups) (space ∷ digits holds),
    ) (omega (arith, digits_few 2 l h, digits_few 2 setups k, digits_few 2 holds m))
