-- The promise of a report leaves one text and one length, but for the growing ring that timing shows: by the same theorem about timing.
use mathlib.Core.Path.{◌≡◌, sym, ◌∙◌}
use mathlib.Core.List.{List}
use mathlib.Core.Logic.{◌⊎◌, inl, inr}
use Rattle.std.specs.Prelude.{Ok}
use Prim.Native.Nat.{ℕ}
use lib.IntN.{ℤ}
use Rattle.timing.specs.declared.timing_call.Answer.TheVariants.{Growing}
use Rattle.timing.proofs.OneTiming.{Same, timing_only}
use Rattle.report.specs.Promise.{zeros, no_arcs, report_of, Report}

-- the same length and the same buffer
pub record Alike (m n : ℕ) (x y : List ℕ) : Type 0 where
  pub size : m ≡ n
  pub text : x ≡ y

-- both tell of a growing loop
pub record BothLoop {bytes before : List ℕ} {m n : ℕ} {x y : List ℕ} (p : Report bytes before m x) (q : Report bytes before n y) : Type 0 where
  pub one : (count : ℕ) × (gain : ℤ) × (p.answer ≡ Ok (Growing count gain))
  pub other : (count : ℕ) × (gain : ℤ) × (q.answer ≡ Ok (Growing count gain))

module _ (bytes before : List ℕ) {m n : ℕ} {x y : List ℕ} (p : Report bytes before m x) (q : Report bytes before n y) where
  same : Same p.answer q.answer p.numbers q.numbers p.arcs q.arcs → Alike m n x y
  same s =
      let e : report_of bytes p.answer p.numbers p.arcs ≡ report_of bytes q.answer q.numbers q.arcs =
      rw (s.answer, s.numbers, s.arcs) in
      let size : m ≡ n = p.sized ∙ rw e (sym q.sized) in
      record { size = size; text = p.written ∙ rw (e, size) (sym q.written) }

  pub report_only : Alike m n x y ⊎ BothLoop p q
  report_only = elim (timing_only bytes zeros no_arcs p.told q.told) [
    | inl s ↦ inl (same s)
    | inr g ↦ inr (record { one = g.one; other = g.other })
  ]
