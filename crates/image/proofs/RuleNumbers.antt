-- The number of a refusal tells its rule: each number from 1 to 16 is one rule's.
use mathlib.Core.Path.{◌≡◌, refl, sym, ap, ◌∙◌}
use mathlib.Core.Bool.{cond}
use Prim.Native.Nat.{ℕ, ◌≤◌}
use native.Mathlib.Omega.{arith}
use lib.Dec.{eqb}
use Rattle.image.specs.Refusal.{number_of}
use Rattle.image.specs.declared.refusal.Rule.{Rule}
use Rattle.image.specs.declared.refusal.Rule.TheVariants as by

abbrev pub rule_of : ℕ → Rule
rule_of n =
    cond (eqb n 1) by.Length
    (cond (eqb n 2) by.Version
    (cond (eqb n 3) by.Cycle
    (cond (eqb n 4) by.Counts
    (cond (eqb n 5) by.Layout
    (cond (eqb n 6) by.Phases
    (cond (eqb n 7) by.Synchronizers
    (cond (eqb n 8) by.Arcs
    (cond (eqb n 9) by.Order
    (cond (eqb n 10) by.ResultBuffer
    (cond (eqb n 11) by.ArcBuffer
    (cond (eqb n 12) by.NoSynchronizer
    (cond (eqb n 13) by.NothingEnters
    (cond (eqb n 14) by.GrowingLoop
    (cond (eqb n 15) by.Text by.ImageBuffer))))))))))))))

pub rule_back : (rule : Rule) → rule_of (number_of rule) ≡ rule
rule_back by.Length = refl
rule_back by.Version = refl
rule_back by.Cycle = refl
rule_back by.Counts = refl
rule_back by.Layout = refl
rule_back by.Phases = refl
rule_back by.Synchronizers = refl
rule_back by.Arcs = refl
rule_back by.Order = refl
rule_back by.ResultBuffer = refl
rule_back by.ArcBuffer = refl
rule_back by.NoSynchronizer = refl
rule_back by.NothingEnters = refl
rule_back by.GrowingLoop = refl
rule_back by.Text = refl
rule_back by.ImageBuffer = refl

-- so no two rules have the same number
pub number_tells : (rule other : Rule) → number_of rule ≡ number_of other → rule ≡ other
number_tells rule other same = sym (rule_back rule) ∙ ap rule_of same ∙ rule_back other

pub numbers_from_1_to_16 : (rule : Rule) → (1 ≤ number_of rule) × (number_of rule ≤ 16)
numbers_from_1_to_16 by.Length = (omega arith, omega arith)
numbers_from_1_to_16 by.Version = (omega arith, omega arith)
numbers_from_1_to_16 by.Cycle = (omega arith, omega arith)
numbers_from_1_to_16 by.Counts = (omega arith, omega arith)
numbers_from_1_to_16 by.Layout = (omega arith, omega arith)
numbers_from_1_to_16 by.Phases = (omega arith, omega arith)
numbers_from_1_to_16 by.Synchronizers = (omega arith, omega arith)
numbers_from_1_to_16 by.Arcs = (omega arith, omega arith)
numbers_from_1_to_16 by.Order = (omega arith, omega arith)
numbers_from_1_to_16 by.ResultBuffer = (omega arith, omega arith)
numbers_from_1_to_16 by.ArcBuffer = (omega arith, omega arith)
numbers_from_1_to_16 by.NoSynchronizer = (omega arith, omega arith)
numbers_from_1_to_16 by.NothingEnters = (omega arith, omega arith)
numbers_from_1_to_16 by.GrowingLoop = (omega arith, omega arith)
numbers_from_1_to_16 by.Text = (omega arith, omega arith)
numbers_from_1_to_16 by.ImageBuffer = (omega arith, omega arith)
