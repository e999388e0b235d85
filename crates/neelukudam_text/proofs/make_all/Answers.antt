-- The answer for what was read is the answer for the whole input.
use native.Mathlib.Omega.{arith}
use Rattle.neelukudam_text.proofs.Whole.{whole}
use Rattle.neelukudam_text.proofs.make_all.Goals as goal

pub returns : goal.returns
returns c = whole _ _ (omega arith) (omega arith) c.image_from_text.ensures
