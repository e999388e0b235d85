-- The numbers of a refusal are small: the rule is one of nine, from 1 on, and the record is one of a table's, whose count has passed its limit.
use mathlib.Core.Path.{◌≡◌, refl, sym, subst}
use mathlib.Core.Bool.{Bool, true, false, not}
use mathlib.Core.List.{List}
use mathlib.Core.Logic.{◌⊎◌, inl, inr}
use Rattle.std.specs.Prelude.{Result, Err}
use Prim.Native.Nat.{ℕ, ◌≤◌}
use native.Mathlib.Omega.{arith}
use lib.Dec.{ltb, eqb}
use lib.ListN.{length}
use Rattle.image.specs.Header.{header_of, image_of, most_phases, most_synchronizers, most_arcs}
use Rattle.image.specs.declared.header.Header.{Header}
use Rattle.image.specs.Rules.{bad_cycle, bad_counts, bad_layout, breaks_of, lowest_of}
use Rattle.image.specs.Refusal.{number_of, refusal}
use Rattle.image.specs.Checks.{refuse, refuse_at, records_of, check_of}
use Rattle.image.specs.declared.header.Image.{Image}
use Rattle.image.specs.declared.refusal.Rule.{Rule}
use Rattle.image.specs.declared.refusal.Rule.TheVariants as by
use Rattle.image.specs.declared.refusal.Refusal.{Refusal}
use Rattle.image.proofs.FirstBad.{lowest_is}
use Rattle.image.proofs.Tests.{ltb_iff, or_iff}
use Rattle.image.proofs.Alike.{err_is_not_ok}

abbrev pub Few : Refusal → Type 0
Few why = (1 ≤ number_of why.rule) × (number_of why.rule ≤ 9) × (why.«record» ≤ 2048)

counts_few : (h : Header) → bad_counts h ≡ false →
    (((1 ≤ h.phases) × (h.phases ≤ most_phases)) × (h.synchronizers ≤ most_synchronizers)) × (h.arcs ≤ most_arcs)
counts_few h e = (or_iff _ _ (or_iff _ _ (or_iff _ _ (ltb_iff _ _) (ltb_iff _ _)) (ltb_iff _ _)) (ltb_iff _ _)).0 e

module _ (why : Refusal) where
  -- by this rule, or by a later one
  abbrev Later : Bool → Result Image Refusal → Type 0
  Later b rest = Few why ⊎ ((b ≡ false) × (rest ≡ Err why))

  later : (b : Bool) (r : Rule) (c : ℕ) (rest : Result Image Refusal) → refuse b r c rest ≡ Err why → Few (refusal r c) → Later b rest
  later true r c rest e h = inl (subst Few (given e) h) where
    given : ◌≡◌ {A = Result Image Refusal} (Err (refusal r c)) (Err why) → refusal r c ≡ why
    given e = cc
  later false r c rest e h = inr (refl, e)

  -- a rule about a table of few records
  later_table : (bad : ℕ → Bool) (n : ℕ) (r : Rule) (rest : Result Image Refusal) → refuse_at bad n r rest ≡ Err why → 1 ≤ number_of r → number_of r ≤ 9 → n ≤ 2048 →
      Later (ltb (lowest_of bad n) n) rest
  later_table bad n r rest e some h l = later (ltb (lowest_of bad n) n) r (lowest_of bad n) rest e (some, h, omega (arith, (lowest_is bad n).within))

  module _ (bytes : List ℕ) where
    -- rules 6 to 9, where the counts are within their limits
    table_small : bad_counts (header_of bytes) ≡ false → records_of bytes (image_of (header_of bytes)) ≡ Err why → Few why
    unfolding records_of
    table_small counts e =
        let few = counts_few (header_of bytes) counts in
        let image = image_of (header_of bytes) in
        elim (later_table (breaks_of bytes image by.Phases) image.phases by.Phases _ e (omega arith) (omega arith) (omega (arith, few.0.0.1))) [
          | inl f ↦ f
          | inr a ↦ elim (later_table (breaks_of bytes image by.Synchronizers) image.synchronizers by.Synchronizers _ a.1 (omega arith) (omega arith) (omega (arith, few.0.1))) [
            | inl f ↦ f
            | inr b ↦ elim (later_table (breaks_of bytes image by.Arcs) image.arcs by.Arcs _ b.1 (omega arith) (omega arith) (omega (arith, few.1))) [
              | inl f ↦ f
              | inr c ↦ elim (later_table (breaks_of bytes image by.Order) image.arcs by.Order _ c.1 (omega arith) (omega arith) (omega (arith, few.1))) [
                | inl f ↦ f
                | inr d ↦ absurd (err_is_not_ok (sym d.1))
              ]
            ]
          ]
        ]

    pub refused_small : check_of bytes ≡ Err why → Few why
    unfolding check_of
    refused_small e =
        let header = header_of bytes in
        elim (later (ltb (length bytes) 32) by.Length 0 _ e (omega arith)) [
          | inl f ↦ f
          | inr a ↦ elim (later (not (eqb header.version 1)) by.Version 0 _ a.1 (omega arith)) [
            | inl f ↦ f
            | inr b ↦ elim (later (bad_cycle header) by.Cycle 0 _ b.1 (omega arith)) [
              | inl f ↦ f
              | inr c ↦ elim (later (bad_counts header) by.Counts 0 _ c.1 (omega arith)) [
                | inl f ↦ f
                | inr d ↦ elim (later (bad_layout header (length bytes)) by.Layout 0 _ d.1 (omega arith)) [ inl f ↦ f | inr g ↦ table_small d.0 g.1 ]
              ]
            ]
          ]
        ]
