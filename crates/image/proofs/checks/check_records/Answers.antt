-- `check_records` asks the rules in their order: the first that finds a record decides. Where all are plainly good, none is found.
use mathlib.Core.Path.{◌≡◌, sym}
use mathlib.Core.List.{List}
use Prim.Native.Nat.{ℕ}
use native.Mathlib.Nat.{le_refl}
use borrow.Author.Tests.{le-ltb}
use Rattle.std.specs.Prelude.{Result, Ok}
use Rattle.std.proofs.Common.{rules}
use Rattle.image.specs.Rules.{bad_phase, bad_synchronizer, bad_arc, bad_order}
use Rattle.image.specs.Checks.{records_of, refuse_at}
use Rattle.image.specs.declared.header.Image.{Image}
use Rattle.image.specs.declared.refusal.Refusal.{Refusal}
use Rattle.image.specs.declared.refusal.Rule.TheVariants as by
use Rattle.image.proofs.FirstBad.{lowest_none}
use Rattle.image.proofs.Refusing.{refused, passed_over}
use Rattle.image.proofs.checks.check_records.Goals as goal
use Rattle.image.proofs.checks.check_records.Goals.{In_default, In_default-lowest, In_default-lowest-2}

-- what is still to be asked: rules 9, 8 and 9, 7 to 9
module _ (bytes : List ℕ) (image : Image) where
  abbrev order : Result Image Refusal
  order = refuse_at (bad_order bytes image) image.arcs by.Order (Ok image)

  abbrev arcs : Result Image Refusal
  arcs = refuse_at (bad_arc bytes image) image.arcs by.Arcs order

  abbrev synchronizers : Result Image Refusal
  synchronizers = refuse_at (bad_synchronizer bytes image) image.synchronizers by.Synchronizers arcs

-- where no phase is at fault, the other records decide
after-phases : (c : In_default) → records_of c.args.bytes.now c.args.image ≡ synchronizers c.args.bytes.now c.args.image
unfolding records_of
after-phases c = passed_over _ _ _ _ (c.lowest.ensures (bad_phase c.args.bytes.now c.args.image) (λ i r p. search rules)) c.in_default.not-Some

-- where no synchronizer is at fault either
after-synchronizers : (c : In_default-lowest) → synchronizers c.args.bytes.now c.args.image ≡ arcs c.args.bytes.now c.args.image
after-synchronizers c = passed_over _ _ _ _ (c.lowest-2.ensures (bad_synchronizer c.args.bytes.now c.args.image) (λ i r p. search rules)) c.in_default-lowest.not-Some

-- where no arc's fields are
after-arcs : (c : In_default-lowest-2) → arcs c.args.bytes.now c.args.image ≡ order c.args.bytes.now c.args.image
after-arcs c = passed_over _ _ _ _ (c.lowest-3.ensures (bad_arc c.args.bytes.now c.args.image) (λ i r p. search rules)) c.in_default-lowest-2.not-Some

pub returns-in-Some : goal.returns-in-Some
unfolding records_of
returns-in-Some c = rw c.at.ensures (sym (refused _ _ _ _ (c.lowest.ensures (bad_phase c.args.bytes.now c.args.image) (λ i r p. search rules)) c.in-Some.is))

pub returns-then-arcs_good : goal.returns-then-arcs_good
returns-then-arcs_good c =
    let arcs = c.arcs_good.ensures c.if-arcs_good.true in
    rw (
      after-phases (goal.at.returns-then-arcs_good c).In_default,
      lowest_none _ _ (c.synchronizers_good.ensures c.if-synchronizers_good.true),
      le-ltb _ _ (le_refl c.args.image.synchronizers),
      lowest_none _ _ arcs.0,
      lowest_none _ _ arcs.1,
      le-ltb _ _ (le_refl c.args.image.arcs),
    )

pub returns-in-Some-lowest : goal.returns-in-Some-lowest
returns-in-Some-lowest c =
    rw (after-phases (goal.at.returns-in-Some-lowest c).In_default, c.at-in-Some-lowest.ensures)
    (sym (refused _ _ _ _ (c.lowest-2.ensures (bad_synchronizer c.args.bytes.now c.args.image) (λ i r p. search rules)) c.in-Some-lowest.is))

pub returns-in-Some-lowest-2 : goal.returns-in-Some-lowest-2
returns-in-Some-lowest-2 c =
    rw (after-phases (goal.at.returns-in-Some-lowest-2 c).In_default, after-synchronizers (goal.at.returns-in-Some-lowest-2 c).In_default-lowest, c.at-in-Some-lowest-2.ensures)
    (sym (refused _ _ _ _ (c.lowest-3.ensures (bad_arc c.args.bytes.now c.args.image) (λ i r p. search rules)) c.in-Some-lowest-2.is))

pub returns-in-Some-lowest-3 : goal.returns-in-Some-lowest-3
returns-in-Some-lowest-3 c =
    rw (
      after-phases (goal.at.returns-in-Some-lowest-3 c).In_default,
      after-synchronizers (goal.at.returns-in-Some-lowest-3 c).In_default-lowest,
      after-arcs (goal.at.returns-in-Some-lowest-3 c).In_default-lowest-2,
      c.at-in-Some-lowest-3.ensures,
    ) (sym (refused _ _ _ _ (c.lowest-4.ensures (bad_order c.args.bytes.now c.args.image) (λ i r p. search rules)) c.in-Some-lowest-3.is))

pub returns : goal.returns
returns c =
    rw (
      after-phases (goal.at.returns c).In_default,
      after-synchronizers (goal.at.returns c).In_default-lowest,
      after-arcs (goal.at.returns c).In_default-lowest-2,
    ) (sym (passed_over _ _ _ _ (c.lowest-4.ensures (bad_order c.args.bytes.now c.args.image) (λ i r p. search rules)) c.in_default-lowest-3.not-Some))
