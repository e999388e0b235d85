-- Two images of which the second has two neighbouring phases exchanged: where the first is refused, so is the second, and by the same rule. Each rule's
-- test answers alike in both, but for the phases, where only this is alike: whether any of them is at fault.
use mathlib.Core.Path.{◌≡◌, refl, sym, ◌∙◌}
use mathlib.Core.Bool.{Bool, true, false, not}
use mathlib.Core.List.{List}
use mathlib.Core.Logic.{◌↔◌, ◌⊎◌, inl, inr}
use Rattle.std.specs.Prelude.{Result, Err}
use Prim.Native.Nat.{ℕ, suc, ◌<◌, ◌-◌}
use native.Mathlib.Omega.{arith}
use lib.Dec.{ltb, leb, eqb}
use lib.ListN.{length}
use Rattle.image.specs.Header.{header_bytes, header_of}
use Rattle.image.specs.Rules.{bad_cycle, bad_counts, bad_layout, bad_phase, bad_synchronizer, bad_arc, bad_order, lowest_of}
use Rattle.image.specs.Refusal.{refusal}
use Rattle.image.specs.Checks.{refuse, refuse_at, records_of, check_of}
use Rattle.image.specs.Valid.{image_in, synchronizer_in}
use Rattle.image.specs.declared.header.Header.{Header}
use Rattle.image.specs.declared.header.Image.{Image}
use Rattle.image.specs.declared.refusal.Rule.{Rule}
use Rattle.image.specs.declared.refusal.Rule.TheVariants as by
use Rattle.image.specs.declared.refusal.Refusal.{Refusal}
use Rattle.image.proofs.Alike.{rule_alike, record_alike}
use Rattle.image.proofs.Tests.{leb_iff}
use Rattle.image.proofs.FirstBad.{lowest_is, lowest_eq}
use Rattle.image.proofs.Validity.{none_iff, phase_iff}
use Rattle.circuit.specs.Exchange.{swapped, Exchanged}
use Rattle.circuit.proofs.Exchange.{swapped_back, swapped_below, both_there, phase_was, closing_same, phases_same, synchronizers_same, arcs_same, cycle_same, exchanged_back}

-- a refusal stays, with its rule, and with its record unless the rule is that of phases
abbrev Kept : Result Image Refusal → Result Image Refusal → Type 0
Kept a b = (rule : Rule) (n : ℕ) → a ≡ Err (refusal rule n) → (m : ℕ) × (b ≡ Err (refusal rule m)) × ((m ≡ n) ⊎ (rule ≡ by.Phases))

-- one rule before the rest, where its test answers alike
refuse_kept : (b d : Bool) (rule : Rule) (c e : ℕ) {rest rest' : Result Image Refusal} → d ≡ b → (e ≡ c) ⊎ (rule ≡ by.Phases) → Kept rest rest' →
    Kept (refuse b rule c rest) (refuse d rule e rest')
refuse_kept true d rule c e same place kept r n h =
    let f = rule_alike h in
    let g = record_alike h in
    rw same (e, rw f, rw (f, g) at place)
refuse_kept false d rule c e same place kept r n h = rw same (kept r n h)

-- tests that agree below n have the same lowest failure
lowest_same : (bad bad' : ℕ → Bool) (n : ℕ) → ((i : ℕ) → i < n → bad' i ≡ bad i) → lowest_of bad' n ≡ lowest_of bad n
lowest_same bad bad' n same =
    let h = lowest_is bad' n in
    lowest_eq bad n (record {
      within = h.within;
      passed = λ j l. sym (same j (omega (arith, h.within))) ∙ h.passed j l;
      fails = λ l. sym (same _ l) ∙ h.fails l;
    })

-- one rule about a table, where its test agrees on each record
table_kept : (bad bad' : ℕ → Bool) (n m : ℕ) (rule : Rule) {rest rest' : Result Image Refusal} → m ≡ n → ((i : ℕ) → i < n → bad' i ≡ bad i) → Kept rest rest' →
    Kept (refuse_at bad n rule rest) (refuse_at bad' m rule rest')
table_kept bad bad' n m rule e same =
    let f : lowest_of bad' m ≡ lowest_of bad n = rw e (lowest_same bad bad' n same) in
    refuse_kept (ltb (lowest_of bad n) n) (ltb (lowest_of bad' m) m) rule (lowest_of bad n) (lowest_of bad' m) (rw (f, e)) (inl f)

-- tests that pass in the same cases answer alike
together : (a b : Bool) → (a ≡ false ↔ b ≡ false) → b ≡ a
together true true h = refl
together true false h = sym (h.1 refl)
together false b h = h.0 refl

-- a phase is below k exactly where its new number is
swapped_within : (p q k : ℕ) → suc p < k → leb k (swapped p q) ≡ leb k q
swapped_within p q k h = together _ _ (
  λ l. (leb_iff _ _).1 (swapped_below p q k h ((leb_iff _ _).0 l)),
  λ l. (leb_iff _ _).1 (rw (swapped_back p q) at (swapped_below p (swapped p q) k h ((leb_iff _ _).0 l))),
)

-- where every phase of the first passes, so does every phase of the second: closing times stay in their places, and active lengths travel
phases_pass : (p : ℕ) (first second : List ℕ) → Exchanged p first second →
    ((q : ℕ) → q < (image_in first).phases → bad_phase first (image_in first) q ≡ false) →
    (q : ℕ) → q < (image_in second).phases → bad_phase second (image_in second) q ≡ false
phases_pass p first second x pass q l =
    let m : q < (image_in first).phases = rw (phases_same p first second x) at l in
    let here = (phase_iff first q).0 (pass q m) in
    let was = (phase_iff first (swapped p q)).0 (pass (swapped p q) (swapped_below p q _ (both_there p first second x) m)) in
    let closing = closing_same p first second x q m in
    let tc = cycle_same p first second x in
    (phase_iff second q).1 (
      (
        (
          rw (phase_was p first second x q m, tc) was.0.0.0,
          rw (closing, tc) here.0.0.1,
        ),
        λ z. rw (closing, closing_same p first second x (q - 1) (omega arith)) (here.0.1 z),
      ),
      λ e. closing ∙ here.1 (e ∙ phases_same p first second x) ∙ sym tc,
    )

module _ (p : ℕ) (first second : List ℕ) (x : Exchanged p first second) where
  -- the tests of rules 7 to 9, record by record
  synchronizer_test : (i : ℕ) → i < (image_in first).synchronizers →
      bad_synchronizer second (image_in second) i ≡ bad_synchronizer first (image_in first) i
  unfolding bad_synchronizer
  synchronizer_test i l =
      let within = swapped_within p (synchronizer_in first i).phase (image_in first).phases (both_there p first second x) in
      rw (x.synchronizer i l, cycle_same p first second x, phases_same p first second x, within)

  arc_test : (i : ℕ) → i < (image_in first).arcs → bad_arc second (image_in second) i ≡ bad_arc first (image_in first) i
  unfolding bad_arc
  arc_test i l = rw (x.arc i l, synchronizers_same p first second x)

  order_test : (i : ℕ) → i < (image_in first).arcs → bad_order second (image_in second) i ≡ bad_order first (image_in first) i
  unfolding bad_order
  order_test i l = rw (x.arc i l, x.arc (i - 1) (omega arith))

  -- the test of rule 6, of the table as a whole: the phase at fault may be one that travels
  phase_test : ltb (lowest_of (bad_phase second (image_in second)) (image_in second).phases) (image_in second).phases
      ≡ ltb (lowest_of (bad_phase first (image_in first)) (image_in first).phases) (image_in first).phases
  phase_test = together _ _ (
    λ h. (none_iff _ _).1 (phases_pass p first second x ((none_iff _ _).0 h)),
    λ h. (none_iff _ _).1 (phases_pass p second first (exchanged_back p first second x) ((none_iff _ _).0 h)),
  )

  tables_kept : Kept (records_of first (image_in first)) (records_of second (image_in second))
  unfolding records_of
  tables_kept =
      refuse_kept _ _ by.Phases _ _ phase_test (inr refl)
      (table_kept _ _ _ _ by.Synchronizers (synchronizers_same p first second x) synchronizer_test
      (table_kept _ _ _ _ by.Arcs (arcs_same p first second x) arc_test
      (table_kept _ _ _ _ by.Order (arcs_same p first second x) order_test
      (λ rule n h. (n, cc, inl refl)))))

  -- a rule about the header and how long the image is, which are the same
  header_kept : (bad : Header → ℕ → Bool) (rule : Rule) {rest rest' : Result Image Refusal} → Kept rest rest' →
      Kept (refuse (bad (header_of first) (length first)) rule 0 rest) (refuse (bad (header_of second) (length second)) rule 0 rest')
  header_kept bad rule =
      let same : bad (header_of second) (length second) ≡ bad (header_of first) (length first) = rw (x.header, x.long) in
      refuse_kept _ _ rule 0 0 same (inl refl)

  image_kept : Kept (check_of first) (check_of second)
  unfolding check_of
  image_kept =
      header_kept (λ h n. ltb n header_bytes) by.Length
      (header_kept (λ h n. not (eqb h.version 1)) by.Version
      (header_kept (λ h n. bad_cycle h) by.Cycle
      (header_kept (λ h n. bad_counts h) by.Counts
      (header_kept bad_layout by.Layout tables_kept))))

  -- an image that is refused stays refused by the same rule; and for the same record, but where phases are at fault
  pub exchanged_refused : {rule : Rule} {n : ℕ} → check_of first ≡ Err (refusal rule n) → (m : ℕ) × (check_of second ≡ Err (refusal rule m)) × ((m ≡ n) ⊎ (rule ≡ by.Phases))
  exchanged_refused {rule} {n} = image_kept rule n
