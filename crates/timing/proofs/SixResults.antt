-- Six numbers stored side by side turn the results of the first n synchronizers into those of the first n + 1.
use mathlib.Core.Path.{◌≡◌, refl, sym, ap, ◌∙◌}
use mathlib.Core.List.{List, ◌++◌, append_assoc}
use Prim.Native.Nat.{ℕ, zero, suc, ◌+◌, ◌*◌, ◌≤◌}
use native.Mathlib.Omega.{arith}
use lib.IntN.{ℤ}
use lib.ListN.{length, take, drop, length-append, length-drop}
use borrow.Rule.Slice.PartMut.{put_mid}
use lib.Seq.{sets, sets-eq, take_at, drop-append-add, drop-drop}
use Rattle.circuit.specs.Circuit.{Circuit}
use Rattle.circuit.specs.Times.{six, results}

-- a part of six written anew
pub six_stored : (at : ℕ) {k : ℕ} (before row : List ℤ) → length row ≡ 6 → k ≡ 6 → at + 6 ≤ length before → put_mid at k before row ≡ sets before at row
six_stored at {k} before row long e room =
    let rest : drop k (drop at before) ≡ drop (at + length row) before = drop-drop k at before ∙ ap (λ (n : ℕ). drop n before) (omega arith) in
    sym (sets-eq row before at (omega arith) ∙ append_assoc (take at before) row (drop (at + length row) before) ∙ rw rest)

module _ (c : Circuit) (E D : ℕ → ℤ) where
  length-six : (n : ℕ) → length (six c E D n) ≡ 6
  unfolding six
  length-six n = refl

  pub length-results : (n : ℕ) → length (results c E D n) ≡ 6 * n
  unfolding results
  length-results zero = refl
  length-results (suc n) = rw (length-append, length-six n, length-results n) (omega arith)

  pub results_more : (n : ℕ) (old : List ℤ) → 6 * suc n ≤ length old →
      sets (results c E D n ++ drop (6 * n) old) (6 * n) (six c E D n) ≡ results c E D (suc n) ++ drop (6 * suc n) old
  unfolding results
  results_more n old h =
      let p = results c E D n in
      let q = drop (6 * n) old in
      let x = six c E D n in
      let long : 6 * n + length x ≤ length (p ++ q) = rw (length-append, length-six n, length-results n, length-drop) (omega arith) in
      let e : 6 * n + 6 ≡ 6 * suc n = omega arith in
      let front : take (6 * n) (p ++ q) ≡ p = take_at p q (6 * n) (length-results n) in
      let back : drop (6 * n + length x) (p ++ q) ≡ drop (6 * suc n) old =
      ap (λ (k : ℕ). drop (6 * n + k) (p ++ q)) (length-six n)
      ∙ ap (λ (k : ℕ). drop (k + 6) (p ++ q)) (sym (length-results n))
      ∙ drop-append-add p q 6
      ∙ drop-drop 6 (6 * n) old
      ∙ ap (λ (k : ℕ). drop k old) e in
      sets-eq x (p ++ q) (6 * n) long ∙ rw (front, back)
