-- `tell` has timing work, and tells its answer by the function that is for it.
use mathlib.Core.Path.{◌≡◌, ap, ◌∙◌}
use Rattle.std.specs.Prelude.{Ok}
use Rattle.ticks.proofs.Words.{word_is}
use Rattle.timing.specs.declared.timing_call.Answer.TheVariants.{Growing, Timed}
use Rattle.report.proofs.FromTiming.{arcs_hold, numbers_hold, synchronizers_are, reported, refused_told, refused_fits, growing_told, growing_fits, timed_told, timed_fits}
use native.Mathlib.Omega.{arith}
use borrow.Author.Rules.{rules}
use Rattle.report.proofs.report_call.tell.Goals as goal
use Rattle.report.proofs.report_call.tell.Goals.{In-Ok-Growing, In-Ok-Timed}

-- what timing answered in the arm of each
grows : (c : goal.In-Ok-Growing) → c.timing.result ≡ Ok (Growing c.in-Ok-Growing.count c.in-Ok-Growing.gain)
grows c = c.in-Ok-Growing.is ∙ ap Ok c.in-Ok-Growing.field-0-is

timed : (c : goal.In-Ok-Timed) → c.timing.result ≡ Ok (Timed c.in-Ok-Timed.setups c.in-Ok-Timed.holds)
timed c = c.in-Ok-Timed.is ∙ ap Ok c.in-Ok-Timed.field-0-is

pub tell_refused-requires : goal.tell_refused-requires
tell_refused-requires c = omega (arith, refused_fits _ c.timing.ensures c.in-Err.is)

pub tell_loop-requires : goal.tell_loop-requires
tell_loop-requires c =
    let is = grows (goal.at.tell_loop-requires c).In-Ok-Growing in
    let gain = word_is c.in-Ok-Growing.gain (search rules) in
    record {
      count_in_bounds = arcs_hold _ (rw is at c.timing.ensures);
      arcs_in_bounds = rw gain (omega (arith, growing_fits _ c.timing.ensures is));
    }

pub tell_timed-requires : goal.tell_timed-requires
tell_timed-requires c =
    let is = timed (goal.at.tell_timed-requires c).In-Ok-Timed in
    record {
      l_in_bounds = rw (c.word.ensures, synchronizers_are _) (numbers_hold _ (rw is at c.timing.ensures));
      numbers_in_bounds = omega (arith, timed_fits _ c.timing.ensures c.word.ensures is);
    }

pub returns-in-Err : goal.returns-in-Err
returns-in-Err c =
    reported _ c.timing.ensures (refused_told _ c.timing.ensures c.in-Err.is) c.tell_refused.ensures

pub returns-in-Ok-Growing : goal.returns-in-Ok-Growing
returns-in-Ok-Growing c =
    let gain = word_is c.in-Ok-Growing.gain (search rules) in
    reported _ c.timing.ensures (growing_told _ c.timing.ensures (grows (goal.at.returns-in-Ok-Growing c).In-Ok-Growing)) (rw gain at c.tell_loop.ensures)

pub returns-in-Ok-Timed : goal.returns-in-Ok-Timed
returns-in-Ok-Timed c =
    reported _ c.timing.ensures (timed_told _ c.timing.ensures c.word.ensures (timed (goal.at.returns-in-Ok-Timed c).In-Ok-Timed)) c.tell_timed.ensures
