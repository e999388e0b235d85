-- How much of an input a check needs: one byte more than the largest image has. No valid image is longer, and what a check answers of a
-- longer input is told by its header alone: rule 5, where none of the rules before applies.
use mathlib.Core.Path.{◌≡◌, refl, sym, ◌∙◌}
use mathlib.Core.Bool.{Bool, true, false, not}
use mathlib.Core.List.{List}
use Rattle.std.specs.Prelude.{Result, Err}
use Prim.Native.Nat.{ℕ, ◌+◌, ◌≤◌, ◌<◌}
use native.Mathlib.Omega.{arith}
use lib.Dec.{eqb, leb}
use lib.ListN.{length, take}
use lib.Seq.{length-take-le, take_all, get_or-take}
use borrow.Author.Tests.{le-ltb, leb-true, leb-false}
use Rattle.image.specs.Words.{word_at}
use Rattle.image.specs.Header.{header_bytes, header_of, most_bytes}
use Rattle.image.specs.Rules.{bad_cycle, bad_counts, bad_layout}
use Rattle.image.specs.Refusal.{refusal}
use Rattle.image.specs.Checks.{refuse, check_of}
use Rattle.image.specs.Valid.{Valid}
use Rattle.image.specs.declared.header.Header.{Header}
use Rattle.image.specs.declared.header.Image.{Image}
use Rattle.image.specs.declared.refusal.Rule.TheVariants as by
use Rattle.image.specs.declared.refusal.Refusal.{Refusal}
use Rattle.image.proofs.Validity.{counts_iff, layout_iff}

-- the number of docs/RULES.md
pub most_bytes_lem : most_bytes ≡ 45216
most_bytes_lem = refl

pub valid_short : (bytes : List ℕ) → Valid bytes → length bytes ≤ most_bytes
valid_short bytes v = omega (arith, v.total, v.phases, v.synchronizers, v.arcs)

-- counts within their limits make no layout that is longer
too_long : (h : Header) (n : ℕ) → most_bytes < n → bad_counts h ≡ false → bad_layout h n ≡ true
too_long h n long counts = go (bad_layout h n) refl
  where
    go : (b : Bool) → bad_layout h n ≡ b → b ≡ true
    go true e = refl
    go false e =
        let c = (counts_iff h).0 counts in
        let z : ⊥ = omega (arith, c.0.0.1, c.0.1, c.1, ((layout_iff h n).0 e).1) in
        absurd z

-- the answer about an input that is longer than any image
abbrev pub long_of : Header → Result Image Refusal
long_of h = refuse (not (eqb h.version 1)) by.Version 0 (refuse (bad_cycle h) by.Cycle 0 (refuse (bad_counts h) by.Counts 0 (Err (refusal by.Layout 0))))

pub long_is : (bytes : List ℕ) → most_bytes < length bytes → check_of bytes ≡ long_of (header_of bytes)
unfolding check_of
long_is bytes long =
    let h = header_of bytes in
    rw (le-ltb (length bytes) header_bytes (omega arith), last (bad_counts h) _ refl)
  where
    last : (b : Bool) (rest : Result Image Refusal) → bad_counts (header_of bytes) ≡ b →
        refuse b by.Counts 0 (refuse (bad_layout (header_of bytes) (length bytes)) by.Layout 0 rest) ≡ refuse b by.Counts 0 (Err (refusal by.Layout 0))
    last true rest e = refl
    last false rest e = rw (too_long (header_of bytes) (length bytes) long e)

module _ (n : ℕ) (bytes : List ℕ) where
  word_kept : (at : ℕ) → at + 4 ≤ n → word_at (take n bytes) at ≡ word_at bytes at
  unfolding word_at
  word_kept at h = rw (
    get_or-take n bytes at 0 (omega arith),
    get_or-take n bytes (at + 1) 0 (omega arith),
    get_or-take n bytes (at + 2) 0 (omega arith),
    get_or-take n bytes (at + 3) 0 (omega arith),
  )

  header_kept : header_bytes ≤ n → header_of (take n bytes) ≡ header_of bytes
  unfolding header_of
  header_kept h = rw (
    word_kept 0 (omega arith),
    word_kept 4 (omega arith),
    word_kept 8 (omega arith),
    word_kept 12 (omega arith),
    word_kept 16 (omega arith),
    word_kept 20 (omega arith),
    word_kept 24 (omega arith),
    word_kept 28 (omega arith),
  )

  -- whatever follows the first n bytes, the answer is the same
  pub enough : most_bytes < n → check_of (take n bytes) ≡ check_of bytes
  enough most = go (leb (length bytes) n) refl
    where
      go : (b : Bool) → leb (length bytes) n ≡ b → check_of (take n bytes) ≡ check_of bytes
      go true e = rw (take_all n bytes (leb-true _ _ e))
      go false e =
          let long : n < length bytes = leb-false _ _ e in
          let l : length (take n bytes) ≡ n = length-take-le n bytes (omega arith) in
          long_is (take n bytes) (omega arith) ∙ rw (header_kept (omega arith)) (sym (long_is bytes (omega arith)))
