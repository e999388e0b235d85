-- Every report fits into its buffer. A refusal has two small numbers; a growing loop shows no more arcs than synchronizers; of a timed circuit no
-- number but the mark is 2^41 or more in size, so its line has at most `ROW` bytes.
use mathlib.Core.Path.{◌≡◌}
use mathlib.Core.List.{List, [], ◌∷◌, ◌++◌}
use Rattle.std.specs.Prelude.{Result, Err}
use Prim.Native.Nat.{ℕ, ◌*◌, ◌≤◌}
use native.Mathlib.Omega.{arith}
use lib.IntN.{ℤ}
use lib.ListN.{length, drop, length-append}
use Rattle.image.specs.Header.{most_synchronizers}
use Rattle.image.specs.Refusal.{number_of}
use Rattle.image.specs.Checks.{check_of}
use Rattle.image.specs.declared.refusal.Refusal.{Refusal}
use Rattle.image.proofs.Validity.{accepts}
use Rattle.flow.specs.Flow.{late, early}
use Rattle.circuit.specs.Circuit.{circuit_of}
use Rattle.circuit.specs.Times.{missed, setup_slack, hold_slack, arrives, missed_setups, missed_holds, results}
use Rattle.circuit.proofs.Sound.{Sound, sound}
use Rattle.circuit.proofs.Sizes.{AllSmall, results_small}
use Rattle.timing.specs.TimingPromise.{Timing, refused, few_numbers, few_arcs, growing, timed, Served}
use Rattle.timing.specs.declared.timing_call.Answer.{Answer}
use Rattle.timing.proofs.Writing as writing
use Rattle.report.specs.Limits.{LENT_NUMBERS, ROW, LONGEST}
use Rattle.report.specs.Ascii.{ascii}
use Rattle.report.specs.Decimal.{digits, signed}
use Rattle.report.specs.Text.{line, each, arc_line, row, text_of}
use Rattle.report.specs.Promise.{zeros, no_arcs, report_of, Report}
use Rattle.report.proofs.Lengths.{small_append, small_drop, small_zeros, row_few, arc_few, each_few, refused_few, loop_few, timed_few}
use Rattle.report.proofs.Refusals.{refused_small}
use Rattle.report.proofs.Rings.{count_few, gain_few, arcs_few}

module _ (bytes : List ℕ) where
  pub served_sound : {numbers : List ℤ} {arcs : List ℕ} → Served bytes numbers arcs → Sound (circuit_of bytes)
  served_sound s = sound bytes ((accepts bytes).1 s.good)

  pub text_fits : {X : Result Answer Refusal} {R : List ℤ} {A : List ℕ} → Timing bytes zeros no_arcs X R A → length (report_of bytes X R A) ≤ LONGEST
  unfolding text_of
  text_fits (refused {why} e) =
      let h = refused_small why bytes e in
      omega (arith, refused_few (number_of why.rule) why.«record» (omega (arith, h.1)) (omega (arith, h.2)))
  text_fits (few_numbers ok h) = omega (arith, refused_few 10 0 (omega arith) (omega arith))
  text_fits (few_arcs ok l h) = omega (arith, refused_few 11 0 (omega arith) (omega arith))
  text_fits (growing {count} {gain} {shown} s ring) =
      let v = served_sound s in
      let c = circuit_of bytes in
      let few = count_few c v ring in
      let head = loop_few count gain (omega arith) (gain_few c v ring) in
      let rest = each_few (arc_line shown) 5 count (λ i l. arc_few shown i (arcs_few c v ring i l)) in
      rw (length-append (line (ascii "loop") (digits count ∷ signed gain ∷ [])) (each (arc_line shown) count)) (omega (arith, head, rest, few))
  text_fits (timed E D s t) =
      let v = served_sound s in
      let c = circuit_of bytes in
      let l = c.synchronizers in
      let R = results c E D l ++ drop (6 * l) zeros in
      let setups = missed_setups c D in
      let holds = missed_holds c E in
      let small : AllSmall R =
      small_append (results c E D l) (drop (6 * l) zeros) (results_small c v E D t l (omega arith)) (small_drop (6 * l) zeros (small_zeros LENT_NUMBERS)) in
      let few : l ≤ most_synchronizers = v.synchronizers in
      let head = timed_few l setups holds (omega arith) (omega (arith, writing.count_few (λ i. missed (setup_slack c i) (arrives late c D i)) l))
      (omega (arith, writing.count_few (λ i. missed (hold_slack c i) (arrives early c E i)) l)) in
      let rest = each_few (row R) ROW l (λ i k. row_few R i small (omega arith)) in
      rw (length-append (line (ascii "timed") (digits l ∷ digits setups ∷ digits holds ∷ [])) (each (row R) l)) (omega (arith, head, rest, few))

  -- timing's buffers are long enough: a refusal is one of the image
  pub refused_by_image : {why : Refusal} {R : List ℤ} {A : List ℕ} → Timing bytes zeros no_arcs (Err why) R A →
      check_of bytes ≡ Err why
  refused_by_image (refused e) = e
  refused_by_image (few_numbers ok h) = let v = sound bytes ((accepts bytes).1 ok) in let z : ⊥ = omega (arith, v.synchronizers) in absurd z
  refused_by_image (few_arcs ok l h) = let v = sound bytes ((accepts bytes).1 ok) in let z : ⊥ = omega (arith, v.synchronizers) in absurd z

  -- what the promise gives is never longer than the buffer
  pub report_fits : {before after : List ℕ} {size : ℕ} → Report bytes before size after → size ≤ LONGEST
  report_fits r = rw r.sized (text_fits r.told)
