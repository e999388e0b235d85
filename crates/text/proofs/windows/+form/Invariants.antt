-- The readers of an atom, a branch and an expression call each other. Each is measured by the bytes that are left, three times over, and by its
-- place among the three: an expression calls a branch and a branch an atom at the same byte, and an atom calls an expression behind its bracket.
use Rattle.std.proofs.Common.{◌-◌, ◌+◌, ◌*◌, length}
use Rattle.grammar.specs.Windows.{series, parallel}
use Rattle.grammar.proofs.Rows.{Reached}
use Rattle.text.proofs.windows.+form.Given as goal

abbrev pub decreases-read_atom : goal.decreases-read_atom
decreases-read_atom l = 3 * (length l.text.now - l.at)

abbrev pub decreases-read_branch : goal.decreases-read_branch
decreases-read_branch l = 3 * (length l.text.now - l.at) + 1

abbrev pub decreases-read_expression : goal.decreases-read_expression
decreases-read_expression l = 3 * (length l.text.now - l.at) + 2

-- what has been read so far is where the reader has come to
abbrev pub invariant-read_branch-loop-next : goal.invariant-read_branch-loop-next
invariant-read_branch-loop-next l = Reached series l.depth l.text l.fn.at l.w

abbrev pub decreases-read_branch-loop-next : goal.decreases-read_branch-loop-next
decreases-read_branch-loop-next l = length l.text - l.w.next

abbrev pub invariant-read_expression-loop-next : goal.invariant-read_expression-loop-next
invariant-read_expression-loop-next l = Reached parallel l.depth l.text l.fn.at l.w

abbrev pub decreases-read_expression-loop-next : goal.decreases-read_expression-loop-next
decreases-read_expression-loop-next l = length l.text - l.w.next
