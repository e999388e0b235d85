-- `read_lines` takes line after line, to the end of the text or to a line at fault.
use Prim.Native.Nat.{◌-◌}
use lib.ListN.{length}
use Rattle.text.specs.Inside.Tally.{SoFar}
use Rattle.text.proofs.text_call.read_lines.Given as goal

abbrev pub invariant-loop-t : goal.invariant-loop-t
invariant-loop-t l = SoFar l.text l.t l.room

abbrev pub decreases-loop-t : goal.decreases-loop-t
decreases-loop-t l = length l.text - l.t.at
