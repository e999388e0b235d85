-- What the lines tell, in the words of the circuit: a timed report has the six numbers of each synchronizer, a growing loop the arcs of
-- its ring. The buffers that timing left are only where they stand.
use mathlib.Core.Path.{◌≡◌, refl, ap}
use mathlib.Core.List.{List, ◌++◌, map, append_assoc}
use Prim.Native.Nat.{ℕ, zero, suc, ◌*◌, ◌<◌}
use native.Mathlib.Omega.{arith}
use native.Mathlib.Decide.{ℕ_discrete}
use lib.IntN.{ℤ}
use lib.ListN.{length, take, drop, get_or-append}
use lib.Seq.{take_at, drop_at}
use Rattle.flow.specs.Flow.{Flow}
use Rattle.flow.specs.Walk.{Shown}
use Rattle.circuit.specs.Circuit.{Circuit}
use Rattle.circuit.specs.Times.{six, results}
use Rattle.timing.proofs.SixResults.{length-results}
use Rattle.report.specs.Decimal.{digits, result_text}
use Rattle.report.specs.Text.{line, each, arc_line, row}
use Rattle.report.proofs.Rows.{each_same}

module _ (c : Circuit) (E D : ℕ → ℤ) where
  six_long : (n : ℕ) → length (six c E D n) ≡ 6
  unfolding six
  six_long n = refl

  results_at : (n i : ℕ) (rest : List ℤ) → i < n → take 6 (drop (6 * i) (results c E D n ++ rest)) ≡ six c E D i
  unfolding results
  results_at zero i rest l = let z : ⊥ = omega arith in absurd z
  results_at (suc n) i rest l =
      let e = append_assoc (results c E D n) (six c E D n) rest in
      elim (ℕ_discrete i n) [
        | yes k ↦ rw (k, e, drop_at (results c E D n) (six c E D n ++ rest) (6 * n) (length-results c E D n)) (take_at (six c E D n) rest 6 (six_long n))
        | no k ↦ rw e (results_at n i (six c E D n ++ rest) (omega arith))
      ]

  -- one line for each synchronizer: its number and its six numbers
  pub rows_tell : (l : ℕ) (rest : List ℤ) →
      each (row (results c E D l ++ rest)) l ≡ each (λ i. line (digits i) (map result_text (six c E D i))) l
  rows_tell l rest = each_same (row (results c E D l ++ rest)) (λ i. line (digits i) (map result_text (six c E D i))) l
      (λ i h. ap (λ (xs : List ℤ). line (digits i) (map result_text xs)) (results_at l i rest h))

-- one line for each arc of the ring, in order of travel
pub arcs_tell : (f : Flow) {count : ℕ} {total : ℤ} {before after : List ℕ} (s : Shown f count total before after) →
    each (arc_line after) count ≡ each (arc_line s.grows.ring.path) (length s.grows.ring.path)
arcs_tell f {count} {total} {before} {after} s =
    let path = s.grows.ring.path in
    rw s.counted
    (each_same (arc_line after) (arc_line path) (length path)
    (λ i l. rw (s.written, get_or-append path (drop (length path) before) 0 i l)))
