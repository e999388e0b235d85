-- The image stands within the buffer.
use mathlib.Core.Path.{sym}
use native.Mathlib.Omega.{arith}
use lib.Seq.{length-take-le}
use Rattle.neelukudam_text.proofs.Whole.{within}
use Rattle.neelukudam_text.proofs.print_image.Goals as goal

pub slice_bounds-image-end : goal.slice_bounds-image-end
slice_bounds-image-end g c = within (omega arith) c.make_all.ensures c.in-Ok.is

pub slice_bounds-write_all-end : goal.slice_bounds-write_all-end
slice_bounds-write_all-end g c = sym (length-take-le _ _ (within (omega arith) c.make_all.ensures c.in-Ok.is))
