-- `put` stores the four bytes of a word, where they have room.
use mathlib.Core.Path.{◌∙◌}
use native.Mathlib.Omega.{arith}
use Rattle.text.proofs.Storing.{four_bytes}
use Rattle.text.proofs.layout.put.Goals as goal

pub returns-then-at-le-MOST : goal.returns-then-at-le-MOST
returns-then-at-le-MOST c =
    four_bytes c.args.room.now _ c.args.at _ c.args.word (c.copy_from_slice.ensures.after ∙ c.to_le_bytes.ensures) (omega arith) (omega arith) c.if-at-le-MOST.true
