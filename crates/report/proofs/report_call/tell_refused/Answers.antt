-- `tell_refused` writes the pieces of a refusal, one after the other.
use mathlib.Core.Path.{ap, ◌∙◌}
use native.Mathlib.Omega.{arith}
use Rattle.std.proofs.Common.{rules, [], ◌∷◌}
use Rattle.image.specs.Refusal.{number_of}
use Rattle.report.specs.Ascii.{ascii}
use Rattle.report.specs.Inside.Pieces.{counted}
use Rattle.report.specs.Inside.Page.{sheet, ◌then◌}
use Rattle.report.proofs.Writes.{Steps, last, step, steps_room, steps_told}
use Rattle.report.proofs.report_call.tell_refused.Goals as goal

pub end_line-requires : goal.end_line-requires
end_line-requires c =
    let number = c.write_number.ensures ∙ ap (λ n. sheet c.write.new.self then counted n) c.number.ensures in
    let written : Steps (sheet c.new-page.result) (ascii "refused" ∷ counted (number_of c.args.refusal.rule) ∷ counted c.args.refusal.«record» ∷ [])
    (sheet c.write_number-2.new.self) = step c.write.ensures (step number (step c.write_number-2.ensures last)) in
    omega (arith, c.requires, steps_room c.new-page.ensures written)

pub returns : goal.returns
returns c =
    let number = c.write_number.ensures ∙ ap (λ n. sheet c.write.new.self then counted n) c.number.ensures in
    let written = step c.write.ensures (step number (step c.write_number-2.ensures (step c.end_line.ensures last))) in
    steps_told c.new-page.ensures written c.finish.ensures.sized c.finish.ensures.left (search rules)
