-- A table in which all places hold one value reads that value everywhere, past its end too.
use mathlib.Core.Path.{◌≡◌}
use Prim.Native.Nat.{ℕ}
use native.Mathlib.Omega.{arith}
use native.Mathlib.Decide.{dec_lt}
use lib.ListN.{get_or, replicate, get_or-replicate, length-replicate, get_or-eq_default}

pub blank_reads : {A : Type 0} (x : A) (n j : ℕ) → get_or (replicate n x) j x ≡ x
blank_reads x n j = elim (dec_lt j n) [
  | yes l ↦ get_or-replicate n j x x l
  | no l ↦ get_or-eq_default (replicate n x) x {n = j} (rw (length-replicate n x) (omega arith))
]

pub zero_reads : (n j : ℕ) → get_or (replicate {A = ℕ} n 0) j 0 ≡ 0
zero_reads = blank_reads 0
