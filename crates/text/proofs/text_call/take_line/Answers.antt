-- `take_line` reads a line; one that is good is laid out, and at any other reading stops. The stage that is asked is only known to be equal to the tally's,
-- so that another is refused for what it lets pass, and not for its form.
use mathlib.Core.Path.{◌≡◌, refl, sym, ◌∙◌}
use mathlib.Core.Bool.{Bool}
use Rattle.std.proofs.Common.{rules}
use Rattle.grammar.specs.Inside.Reader.{in_place}
use Rattle.grammar.specs.declared.read.Line.{Line}
use Rattle.text.specs.Inside.Tally.{stage_number}
use Rattle.text.specs.declared.tally.Stage.{Stage}
use Rattle.grammar.proofs.InOrder.{in_place_lem}
use Rattle.text.proofs.Reading.{at_more, few, onward, goes_on, no_line, misplaced}
use Rattle.text.proofs.text_call.take_line.Goals as goal

asked : (line : Line) (t : Stage) {s : Stage} {b : Bool} → in_place (stage_number s) line ≡ b → s ≡ t → in_place (stage_number t) line ≡ b
asked line t h e = rw e at h

pub returns-in_err-read : goal.returns-in_err-read
returns-in_err-read c =
    rw c.from_residual.ensures (no_line c.args.text.now c.requires.0 c.args.t _ c.requires.2 c.requires.1 (sym c.in_err-read.ensures), refl)

pub lay-requires : goal.lay-requires
lay-requires c = few c.args.text.now c.requires.0 c.args.t _ c.requires.2

pub returns-then-in_place : goal.returns-then-in_place
returns-then-in_place c =
    let read = c.in_ok-read.read in
    let here = in_place_lem _ read.line (asked read.line c.args.t.stage (sym c.in_place.ensures ∙ c.if-in_place.true) (search rules)) in
    rw (c.lay.ensures.counted, c.lay.ensures.laid, at_more read.line c.args.t read.next) (
      onward c.args.text.now c.requires.0 c.args.t _ c.requires.2 c.requires.1 read (sym c.in_ok-read.ensures),
      goes_on c.args.text.now c.requires.0 c.args.t _ c.requires.2 c.requires.1 read (sym c.in_ok-read.ensures) here,
    )

pub returns-else-in_place : goal.returns-else-in_place
returns-else-in_place c = (
  misplaced c.args.text.now c.requires.0 c.args.t _ c.requires.2 c.requires.1 c.in_ok-read.read (sym c.in_ok-read.ensures)
      (asked c.in_ok-read.read.line c.args.t.stage (sym c.in_place.ensures ∙ c.if-in_place.false) (search rules)),
  refl,
)
