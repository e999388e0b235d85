-- `image_from_text`: a text that is too long; a line at fault; a bad cycle or bad counts; and an image in the room, which is handed over.
use mathlib.Core.Path.{◌≡◌, sym, ap, subst, ◌∙◌}
use native.Mathlib.Omega.{arith}
use mathlib.Core.Bool.{false}
use mathlib.Core.List.{List}
use Prim.Native.Nat.{ℕ}
use Rattle.std.specs.Prelude.{Err}
use Rattle.std.proofs.lemmas.Result.{err_from_is_err_and}
use Rattle.image.specs.declared.refusal.Refusal.{Refusal}
use Rattle.image.specs.Rules.{bad_cycle, bad_counts}
use Rattle.image.specs.declared.header.Header.{Header}
use Rattle.grammar.specs.Text.{too_long}
use Rattle.text.specs.TextPromise.{TextCall, faulty, refused}
use Rattle.text.specs.Inside.Stores.{stored_all, words_in}
use Rattle.text.specs.Inside.Tally.{header_from, Done, Faulty, at_fault}
use Rattle.text.proofs.Reading.{few}
use Rattle.text.proofs.Finishing as finish
use Rattle.text.proofs.text_call.image_from_text.Goals as goal
use Rattle.text.proofs.text_call.image_from_text.Goals.{After-put_header, Else-bad_cycle}

pub returns-then-text-gt-LONGEST : goal.returns-then-text-gt-LONGEST
returns-then-text-gt-LONGEST c = rw c.into.ensures (faulty (too_long c.if-text-gt-LONGEST.true))

pub returns-in_err-t : goal.returns-in_err-t
returns-in_err-t c =
    let given = err_from_is_err_and c.from_residual.result c.from_residual.ensures.1 in
    rw (given.1, given.2) (refused_for c.in_err-t.ensures)
  where
    refused_for : {text before : List ℕ} {why : Refusal} → Faulty text why → TextCall text before (Err why) before
    refused_for (at_fault f) = faulty f

pub header_of-header-requires : goal.header_of-header-requires
header_of-header-requires c =
    let d : Done c.args.text.now c.in_ok-t.t c.read_lines.new.room = c.in_ok-t.ensures in few _ d.short c.in_ok-t.t _ d.so_far

good_cycle : (c : goal.Else-bad_cycle) → bad_cycle (header_from c.in_ok-t.t) ≡ false
good_cycle c = sym (ap bad_cycle c.header_of-header.ensures) ∙ sym c.bad_cycle.ensures ∙ c.if-bad_cycle.false

-- the image stands in the room
stands : (c : goal.After-put_header) → finish.Stands c.args.text.now c.in_ok-t.t.end c.put_header.new.room
stands c =
    let good : bad_counts (header_from c.in_ok-t.t) ≡ false =
    sym (ap bad_counts c.header_of-header.ensures) ∙ sym c.bad_counts.ensures ∙ c.if-bad_counts.false in
    let stored = c.put_header.ensures ∙ ap (λ (e : Header). stored_all c.read_lines.new.room 0 (words_in e)) c.header_of-header.ensures in
    subst (finish.Stands c.args.text.now c.in_ok-t.t.end) (sym stored) (finish.stands c.in_ok-t.ensures good)

pub returns-then-bad_cycle : goal.returns-then-bad_cycle
returns-then-bad_cycle c =
    let d : Done c.args.text.now c.in_ok-t.t c.read_lines.new.room = c.in_ok-t.ensures in
    rw c.into-then-bad_cycle.ensures
    (refused (finish.reads d)
    (finish.bad_cycle_lem d (sym (ap bad_cycle c.header_of-header.ensures) ∙ sym c.bad_cycle.ensures ∙ c.if-bad_cycle.true)))

pub returns-then-bad_counts : goal.returns-then-bad_counts
returns-then-bad_counts c =
    let d : Done c.args.text.now c.in_ok-t.t c.read_lines.new.room = c.in_ok-t.ensures in
    rw c.into-then-bad_counts.ensures
    (refused (finish.reads d)
    (finish.bad_counts_lem d (good_cycle (goal.at.returns-then-bad_counts c).Else-bad_cycle)
    (sym (ap bad_counts c.header_of-header.ensures) ∙ sym c.bad_counts.ensures ∙ c.if-bad_counts.true)))

pub slice_bounds-room-end : goal.slice_bounds-room-end
slice_bounds-room-end c =
    let s = stands (goal.at.slice_bounds-room-end c).After-put_header in
    omega (arith, s.fits, s.long)

pub slice_bounds-hand_over-end : goal.slice_bounds-hand_over-end
slice_bounds-hand_over-end c = sym (stands (goal.at.slice_bounds-hand_over-end c).After-put_header).part

pub returns : goal.returns
returns c =
    let s = stands (goal.at.returns c).After-put_header in
    finish.handed_over s.reads (rw s.image at c.hand_over.ensures)
