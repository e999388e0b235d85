-- The number of a kind tells the kind.
use mathlib.Core.Path.{◌≡◌, refl}
use Rattle.std.specs.Prelude.{Ok}
use Rattle.image.specs.Kind.{kind_number, kind_of}
use Rattle.image.specs.declared.kind.Kind.{Kind}
use Rattle.image.specs.declared.kind.Kind.TheVariants.{Latch, FlipFlop}

pub kind_back : (kind : Kind) → kind_of (kind_number kind) ≡ Ok kind
kind_back Latch = refl
kind_back FlipFlop = refl
