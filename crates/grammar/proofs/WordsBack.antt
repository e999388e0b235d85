-- Words that are laid out are read back, in a row of words and in a table of rows. Reading behind what lies before is reading from the start, so
-- all of it goes by recursion over the words and the rows to the first word.
use mathlib.Core.Path.{◌≡◌, refl, ◌∙◌}
use mathlib.Core.List.{List, [], ◌∷◌, ◌++◌, map, append_assoc}
use Prim.Native.Nat.{ℕ, zero, suc, ◌+◌, ◌*◌, ◌/◌, ◌%◌, ◌<◌}
use native.Mathlib.Nat.{mod-eq_of_lt, div-div-eq-div-mul}
use native.Mathlib.Omega.{arith}
use lib.ListN.{length, get_or, length-append}
use lib.Seq.{get_or-append-add}
use Rattle.image.specs.Words.{little, word_at}
use Rattle.grammar.specs.Layout.{le32, bytes_of, table}

-- a word has 32 bits
abbrev pub word_limit : ℕ
word_limit = 4294967296

-- the four bytes of a word make it
pub word_back : (n : ℕ) → n < word_limit → little (n % 256) (n / 256 % 256) (n / 65536 % 256) (n / 16777216 % 256) ≡ n
word_back n h =
    let top : n / 16777216 < 256 = omega arith in
    omega (arith, mod-eq_of_lt top, div-div-eq-div-mul n 256 256, div-div-eq-div-mul n 65536 256)

-- what lies before is passed over
pub word_from : (before rest : List ℕ) (n at : ℕ) → at ≡ length before + n → word_at (before ++ rest) at ≡ word_at rest n
unfolding word_at
word_from before rest n at e =
    let one : at + 1 ≡ length before + (n + 1) = omega arith in
    let two : at + 2 ≡ length before + (n + 2) = omega arith in
    let three : at + 3 ≡ length before + (n + 3) = omega arith in
    rw (
      one,
      two,
      three,
      e,
      get_or-append-add before rest n 0,
      get_or-append-add before rest (n + 1) 0,
      get_or-append-add before rest (n + 2) 0,
      get_or-append-add before rest (n + 3) 0,
    )

-- word i of words that are laid out from the start
pub word_first : (ws after : List ℕ) (i : ℕ) → i < length ws → get_or ws i 0 < word_limit → word_at (bytes_of ws ++ after) (4 * i) ≡ get_or ws i 0
unfolding word_at
word_first [] after i l h = let no : ⊥ = omega arith in absurd no
word_first (w ∷ ws) after zero l h = word_back w h
word_first (w ∷ ws) after (suc i) l h =
    word_from (le32 w) (bytes_of ws ++ after) (4 * i) (4 * suc i) (omega arith) ∙ word_first ws after i (omega arith) h

-- ---- how long words and tables are
pub bytes_long : (ws : List ℕ) → length (bytes_of ws) ≡ 4 * length ws
bytes_long [] = refl
bytes_long (w ∷ ws) = omega (arith, bytes_long ws)

-- the rows of a table are equally long: f makes n words of each record
module _ {A : Type 0} (f : A → List ℕ) (n : ℕ) (even : (x : A) → length (f x) ≡ n) where
  pub table_long : (xs : List A) → length (table (map f xs)) ≡ 4 * n * length xs
  table_long [] = omega arith
  table_long (x ∷ xs) = omega (arith, length-append (bytes_of (f x)) (table (map f xs)), bytes_long (f x), even x, table_long xs)

  -- word j of row i
  pub row_first : (xs : List A) (after : List ℕ) (d : A) (i j : ℕ) → i < length xs → j < n → get_or (f (get_or xs i d)) j 0 < word_limit →
      word_at (table (map f xs) ++ after) (4 * n * i + 4 * j) ≡ get_or (f (get_or xs i d)) j 0
  row_first [] after d i j l k h = let no : ⊥ = omega arith in absurd no
  row_first (x ∷ xs) after d zero j l k h =
      let at : 4 * n * 0 + 4 * j ≡ 4 * j = omega arith in
      rw (append_assoc (bytes_of (f x)) (table (map f xs)) after, at) (word_first (f x) (table (map f xs) ++ after) j (omega (arith, even x)) h)
  row_first (x ∷ xs) after d (suc i) j l k h = rw (append_assoc (bytes_of (f x)) (table (map f xs)) after)
      (word_from (bytes_of (f x)) (table (map f xs) ++ after) (4 * n * i + 4 * j) (4 * n * suc i + 4 * j) (omega (arith, bytes_long (f x), even x))
      ∙ row_first xs after d i j (omega arith) k h)

  -- word j of row i of a table that is laid out behind others
  pub row_laid : (before : List ℕ) (xs : List A) (after : List ℕ) (d : A) (i j at : ℕ) → i < length xs → j < n →
      at ≡ length before + (4 * n * i + 4 * j) → get_or (f (get_or xs i d)) j 0 < word_limit →
      word_at (before ++ (table (map f xs) ++ after)) at ≡ get_or (f (get_or xs i d)) j 0
  row_laid before xs after d i j at l k e h =
      word_from before (table (map f xs) ++ after) (4 * n * i + 4 * j) at e ∙ row_first xs after d i j l k h
