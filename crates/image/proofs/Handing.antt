-- A reader hands out the records of a table in order: at record i of n it finds record i and then stands at the next, and behind the last
-- record it finds the end and stays. The idea: record i ends where record i + 1 starts, which is no later than the table's end where i is
-- below n. And in a good image each table ends where the next one starts, the last where the image ends.
use mathlib.Core.Path.{◌≡◌, refl}
use mathlib.Core.Bool.{true, false}
use mathlib.Core.List.{List}
use Prim.Native.Nat.{ℕ, zero, suc, ◌+◌, ◌≤◌, ◌<◌}
use native.Mathlib.Nat.{mul-suc, mul-le-mul_left}
use native.Mathlib.Omega.{arith}
use lib.ListN.{length}
use borrow.Author.Tests.{le-leb, lt-leb}
use denote.Ref.{Bor}
use Rattle.std.specs.Prelude.{Some, None}
use Rattle.image.specs.Words.{fits_of}
use Rattle.image.specs.Header.{phase_bytes, arc_bytes}
use Rattle.image.specs.Records.{place_of, phase_from, synchronizer_from, arc_from, phase_at, synchronizer_at, arc_at}
use Rattle.image.specs.Reader.{found_of, reader_at, next_of}
use Rattle.image.specs.Valid.{Valid, image_in}
use Rattle.image.specs.declared.header.Layout.{Layout}

-- n records of that size, from the byte `start` on
module _ (start size : ℕ) where
  inside : (i n : ℕ) → i < n → fits_of (place_of start size i) size (place_of start size n) ≡ true
  inside i n h =
      let k : suc i ≤ n = omega arith in
      le-leb (place_of start size i + size) (place_of start size n) (omega (arith, mul-suc size i, mul-le-mul_left size k))

  outside : (n : ℕ) → zero < size → fits_of (place_of start size n) size (place_of start size n) ≡ false
  outside n h = lt-leb (place_of start size n + size) (place_of start size n) (omega arith)

-- handed out are the records of the table, whatever they are: `from` says which record starts at a byte
module _ {R : Type 0} (from : List ℕ → ℕ → R) (bytes : Bor (List ℕ)) (start size : ℕ) where
  pub handed : (i n : ℕ) → i < n →
      (next_of (reader_at bytes (place_of start size i)) size (place_of start size n) ≡ reader_at bytes (place_of start size (suc i)))
      × (found_of from bytes.now (place_of start size i) size (place_of start size n) ≡ Some (from bytes.now (place_of start size i)))
  handed i n h =
      let behind : place_of start size i + size ≡ place_of start size (suc i) = omega (arith, mul-suc size i) in
      (rw (inside start size i n h, behind) refl, rw (inside start size i n h) refl)

  pub ended : (n : ℕ) → zero < size →
      (next_of (reader_at bytes (place_of start size n)) size (place_of start size n) ≡ reader_at bytes (place_of start size n))
      × (found_of from bytes.now (place_of start size n) size (place_of start size n) ≡ None)
  ended n h = (rw (outside start size n h) refl, rw (outside start size n h) refl)

-- and they are the records that `read` gives by their numbers
module _ (bytes : List ℕ) (layout : Layout) (i : ℕ) where
  pub phase_handed : phase_from bytes (place_of layout.phases phase_bytes i) ≡ phase_at bytes layout i
  unfolding phase_at
  phase_handed = refl

  pub synchronizer_handed : synchronizer_from bytes (place_of layout.synchronizers layout.synchronizer_bytes i) ≡ synchronizer_at bytes layout i
  unfolding synchronizer_at
  synchronizer_handed = refl

  pub arc_handed : arc_from bytes (place_of layout.arcs arc_bytes i) ≡ arc_at bytes layout i
  unfolding arc_at
  arc_handed = refl

-- where the tables of a good image end
module _ (bytes : List ℕ) (good : Valid bytes) where
  pub phases_end : (image_in bytes).layout.synchronizers ≡ place_of (image_in bytes).layout.phases phase_bytes (image_in bytes).phases
  phases_end = omega (arith, good.phase_table, good.synchronizer_table)

  pub synchronizers_end : (image_in bytes).layout.arcs
      ≡ place_of (image_in bytes).layout.synchronizers (image_in bytes).layout.synchronizer_bytes (image_in bytes).synchronizers
  synchronizers_end = omega (arith, good.synchronizer_table, good.arc_table)

  pub arcs_end : length bytes ≡ place_of (image_in bytes).layout.arcs arc_bytes (image_in bytes).arcs
  arcs_end = omega (arith, good.arc_table, good.total)
