-- What stands in the buffers: number k of synchronizer i is number k of its six; arcs that are written stand in front of what was there.
use mathlib.Core.Path.{◌≡◌, ap, ◌∙◌}
use mathlib.Core.List.{List, ◌++◌}
use Prim.Native.Nat.{ℕ, zero, suc, ◌+◌, ◌*◌, ◌<◌}
use native.Mathlib.Omega.{arith}
use native.Mathlib.Decide.{dec_lt}
use lib.IntN.{ℤ, pos}
use lib.ListN.{length, get_or, take, drop, get_or-append}
use lib.Seq.{take-append_seam, drop-append_seam, get_or-append-add}
use Rattle.circuit.specs.Circuit.{Circuit}
use Rattle.circuit.specs.Times.{six, results}
use Rattle.timing.proofs.SixResults.{length-results}
use Rattle.demands.specs.Buffers.{number}

module _ (c : Circuit) (E D : ℕ → ℤ) where
  long : (n i k : ℕ) → i < n → k < 6 → 6 * i + k < length (results c E D n)
  long n i k l m = rw (length-results c E D n) (omega arith)

  among : (n i k : ℕ) → i < n → k < 6 → number (results c E D n) i k ≡ get_or (six c E D i) k (pos 0)
  unfolding results
  among zero i k l m = let z : ⊥ = omega arith in absurd z
  among (suc n) i k l m = elim (dec_lt i n) [
    | yes h ↦ get_or-append (results c E D n) (six c E D n) (pos 0) (6 * i + k) (long n i k h m) ∙ among n i k h m
    | no h ↦ (
        let e : i ≡ n = omega arith in
        let p : 6 * n + k ≡ length (results c E D n) + k = rw (length-results c E D n) in
        rw e (ap (λ (x : ℕ). get_or (results c E D n ++ six c E D n) x (pos 0)) p
        ∙ get_or-append-add (results c E D n) (six c E D n) k (pos 0))
        )
  ]

  pub read : (n : ℕ) (rest : List ℤ) (i k : ℕ) → i < n → k < 6 → number (results c E D n ++ rest) i k ≡ get_or (six c E D i) k (pos 0)
  read n rest i k l m = get_or-append (results c E D n) rest (pos 0) (6 * i + k) (long n i k l m) ∙ among n i k l m

module _ (p before A : List ℕ) (n : ℕ) (e : n ≡ length p) (h : A ≡ p ++ drop (length p) before) where
  pub front_of : take n A ≡ p
  front_of = rw (e, h) (take-append_seam p (drop (length p) before))

  pub rest_of : drop n A ≡ drop n before
  rest_of = rw (e, h) (drop-append_seam p (drop (length p) before))
