-- Lines and fields, one by one: the results of a synchronizer are the fields of its line.
use mathlib.Core.Path.{◌≡◌, refl, ap}
use mathlib.Core.List.{List, [], ◌∷◌, ◌++◌, map, append_assoc, append-nil}
use Prim.Native.Nat.{ℕ, zero, suc, ◌+◌, ◌-◌, ◌*◌, ◌/◌, ◌≤◌, ◌<◌}
use native.Mathlib.Omega.{arith}
use lib.IntN.{ℤ, pos}
use lib.ListN.{length, take, drop, get_or}
use lib.Seq.{take-suc, take-length, length-take-le}
use Rattle.std.proofs.lemmas.List.{map-append, get_or-take, drop-drop, drop-take, take-take}
use Rattle.std.specs.Simd.{first_chunks}
use Rattle.report.specs.Decimal.{digits, result_text}
use Rattle.report.specs.Text.{space, spaced, line, each, arc_line, row}

-- texts that agree one by one
pub each_same : (f g : ℕ → List ℕ) (n : ℕ) → ((i : ℕ) → i < n → f i ≡ g i) → each f n ≡ each g n
unfolding each
each_same f g zero h = refl
each_same f g (suc n) h = rw (each_same f g n (λ i l. h i (omega arith)), h n (omega arith))

-- the lines of the first arcs
pub arcs_are : (arcs : List ℕ) (count : ℕ) → count ≤ length arcs → each (arc_line (take count arcs)) (length (take count arcs)) ≡ each (arc_line arcs) count
arcs_are arcs count h =
    let long : length (take count arcs) ≡ count = length-take-le count arcs h in
    rw long (each_same (arc_line (take count arcs)) (arc_line arcs) count (λ i l. rw (get_or-take count arcs i 0 l)))

-- the results of a synchronizer are one chunk of the numbers
pub chunk_is : (k i : ℕ) (numbers : List ℤ) → i < k → get_or (first_chunks 6 k numbers) i [] ≡ take 6 (drop (6 * i) numbers)
chunk_is zero i numbers l = let z : ⊥ = omega arith in absurd z
chunk_is (suc k) zero numbers l = refl
chunk_is (suc k) (suc i) numbers l =
    let more : 6 * suc i ≡ 6 + 6 * i = omega arith in
    rw (chunk_is k i (drop 6 numbers) (omega arith), drop-drop (6 * i) 6 numbers, more) refl

row_of_first : (numbers : List ℤ) (l i : ℕ) → i < l → row (take (6 * l) numbers) i ≡ row numbers i
row_of_first numbers l i h =
    let m = 6 * l - 6 * i in
    let split : 6 * l ≡ 6 * i + m = omega (arith, h) in
    let same : take 6 (drop (6 * i) (take (6 * l) numbers)) ≡ take 6 (drop (6 * i) numbers) =
    rw (split, drop-take (6 * i) m numbers) (take-take 6 m (drop (6 * i) numbers) (omega (arith, h))) in
    ap (λ (six : List ℤ). line (digits i) (map result_text six)) same

-- the lines of the first synchronizers
pub rows_are : (numbers : List ℤ) (l : ℕ) → 6 * l ≤ length numbers →
    each (row (take (6 * l) numbers)) (length (take (6 * l) numbers) / 6) ≡ each (row numbers) l
rows_are numbers l h =
    let long : length (take (6 * l) numbers) / 6 ≡ l = rw (length-take-le (6 * l) numbers h) (omega arith) in
    rw long (each_same (row (take (6 * l) numbers)) (row numbers) l (row_of_first numbers l))

spaced_append : (xs ys : List (List ℕ)) → spaced (xs ++ ys) ≡ spaced xs ++ spaced ys
spaced_append [] ys = refl
spaced_append (x ∷ xs) ys = rw (spaced_append xs ys, append_assoc)

-- a space and the result at place j
abbrev pub field : List ℤ → ℕ → List ℕ
field times j = space ∷ result_text (get_or times j (pos 0))

first_fields : (times : List ℤ) (n : ℕ) → n ≤ length times → each (field times) n ≡ spaced (map result_text (take n times))
unfolding each
first_fields times zero h = refl
first_fields times (suc n) h =
    rw (
      first_fields times n (omega arith),
      take-suc times n (pos 0) (omega arith),
      map-append result_text (take n times) (get_or times n (pos 0) ∷ []),
      spaced_append (map result_text (take n times)) (result_text (get_or times n (pos 0)) ∷ []),
      append-nil,
    )

pub fields_are : (times : List ℤ) → each (field times) (length times) ≡ spaced (map result_text times)
fields_are times = rw (first_fields times (length times) (omega arith), take-length times) refl
