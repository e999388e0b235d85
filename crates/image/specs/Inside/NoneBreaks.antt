-- That no record breaks a rule: what a quick look at a good image finds.
use Rattle.std.specs.Prelude.{◌≡◌, false, List, ℕ, ◌<◌}
use Rattle.image.specs.Rules.{breaks_of}
use Rattle.image.specs.declared.header.Image.{Image}
use Rattle.image.specs.declared.refusal.Rule.{Rule}
use Rattle.image.specs.declared.refusal.Rule.TheVariants.{Phases, Synchronizers, Arcs, Order}

-- how many records a rule is about, and that none of them breaks it
abbrev pub count_of : Image → Rule → ℕ
count_of image Phases = image.phases
count_of image Synchronizers = image.synchronizers
count_of image Arcs = image.arcs
count_of image Order = image.arcs
count_of image _ = 0

abbrev pub NoneBreaks : List ℕ → Image → Rule → Type 0
NoneBreaks bytes image rule = (i : ℕ) → i < count_of image rule → breaks_of bytes image rule i ≡ false
