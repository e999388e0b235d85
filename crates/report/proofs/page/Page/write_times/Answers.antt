-- `write_times`: the results so far are written.
use mathlib.Core.Path.{◌≡◌}
use mathlib.Core.List.{◌∷◌}
use native.Mathlib.Numerals.{add-one}
use native.Mathlib.Omega.{arith}
use lib.IntN.{pos}
use lib.ListN.{length, get_or}
use borrow.Author.Rules.{rules}
use Rattle.ticks.proofs.Words.{word_is}
use Rattle.report.specs.Decimal.{result_text}
use Rattle.report.specs.Text.{space}
use Rattle.report.specs.Inside.Page.{sheet}
use Rattle.report.proofs.Rows.{field, fields_are}
use Rattle.report.proofs.Writes.{word_wrote, each_none, each_room, each_more}
use Rattle.report.proofs.page.Page.write_times.Goals as goal

pub loop-time-init : goal.loop-time-init
loop-time-init c = each_none (field c.args.times.now) (sheet c.args.self.now)

pub write_time-requires : goal.write_time-requires
write_time-requires c =
    let room = rw (← fields_are c.args.times.now) at c.requires in
    rw (word_is (get_or c.args.times.now c.loop-time.time-index (pos 0)) (search rules))
    (each_room (field c.args.times.now) (sheet c.args.self.now) c.loop-time.time-index (length c.args.times.now) c.loop-time-test.true room c.loop-time.invariant)

pub loop-time-preserved : goal.loop-time-preserved
loop-time-preserved c =
    let time = get_or c.args.times.now c.loop-time.time-index (pos 0) in
    let wrote = word_wrote (λ z. space ∷ result_text z) time (sheet c.loop-time.self) (search rules) c.write_time.ensures in
    rw (add-one c.loop-time.time-index)
    (each_more (field c.args.times.now) (sheet c.args.self.now) c.loop-time.time-index c.loop-time.invariant wrote)

pub returns : goal.returns
returns c =
    let e : c.loop-time.time-index ≡ length c.args.times.now = omega (arith, c.loop-time-test.false, c.loop-time.auto.time-index-end) in
    rw (← fields_are c.args.times.now, ← e) c.loop-time.invariant
