-- `arrange`: after synchronizer i all up to it are listed, so at the end all are.
use mathlib.Core.Bool.{false}
use mathlib.Core.Path.{refl, ◌∙◌}
use native.Mathlib.Omega.{arith}
use native.Mathlib.Decide.{ℕ_discrete}
use Rattle.tables.proofs.Orders.{stack_none, enlist_none, enlist_all}
use Rattle.tables.specs.Inside.Sizes.{NODES}
use Rattle.timing.proofs.Zeros.{blank_reads}
use Rattle.timing.proofs.order.arrange.Goals as goal

pub invariant_of-walk : goal.invariant_of-walk
invariant_of-walk c = record { stacked = stack_none refl; enlisted = enlist_none refl refl (blank_reads false NODES) }

pub loop-i-preserved : goal.loop-i-preserved
loop-i-preserved c = (
  c.enlist.ensures.further.nodes ∙ c.explore.ensures.nodes ∙ c.loop-i.invariant.0,
  λ j k. elim (ℕ_discrete j c.loop-i.i) [
    | yes q ↦ rw q c.enlist.ensures.listed
    | no q ↦ c.enlist.ensures.further.listed j (c.explore.ensures.listed j (c.loop-i.invariant.1 j (omega arith)))
  ],
)

pub returns : goal.returns
returns c =
    rw (← c.loop-i.invariant.0) (record { order = enlist_all c.loop-i.walk.enlisted (λ j k. c.loop-i.invariant.1 j (omega (arith, c.loop-i.invariant.0))) })
