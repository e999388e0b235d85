-- An image is accepted exactly where it is valid. Each rule's test fails exactly where what the rule forbids does not
-- hold, and an answer is Ok exactly where every test fails.
use mathlib.Core.Path.{◌≡◌, refl}
use mathlib.Core.Bool.{Bool, true, false, not}
use mathlib.Core.List.{List}
use mathlib.Core.Logic.{◌↔◌}
use Rattle.std.specs.Prelude.{Result, Ok}
use Prim.Native.Nat.{ℕ, zero, suc, ◌+◌, ◌*◌, ◌-◌, ◌<◌, ◌≤◌}
use native.Mathlib.Omega.{arith}
use lib.Dec.{ltb, eqb}
use lib.ListN.{length}
use borrow.Author.Tests.{ltb-false, le-ltb}
use Rattle.image.specs.Header.{header_bytes, phase_bytes, synchronizer_bytes, arc_bytes, header_of, most_phases, most_synchronizers, most_arcs, longest_cycle, longest_delay}
use Rattle.image.specs.Rules.{bad_cycle, bad_counts, bad_layout, bad_phase, bad_synchronizer, bad_arc, bad_order, lowest_of, precedes}
use Rattle.image.specs.Checks.{refuse, records_of, check_of}
use Rattle.image.specs.Valid.{image_in, phase_in, synchronizer_in, arc_in, Before, Valid}
use Rattle.image.specs.declared.header.Header.{Header}
use Rattle.image.specs.declared.header.Image.{Image}
use Rattle.image.specs.declared.records.Arc.{Arc}
use Rattle.image.specs.declared.refusal.Rule.{Rule}
use Rattle.image.specs.declared.refusal.Refusal.{Refusal}
use Rattle.image.proofs.FirstBad.{lowest_is, lowest_none}
use Rattle.image.proofs.Tests.{ltb_iff, leb_iff, differs_iff, below_iff, same_iff, or_iff, and_iff, either_iff, both_iff, not_iff}

good_iff : (b : Bool) (rule : Rule) (culprit : ℕ) (rest : Result Image Refusal) (x : Image) → (refuse b rule culprit rest ≡ Ok x) ↔ ((b ≡ false) × (rest ≡ Ok x))
good_iff true rule culprit rest x = (λ h. (cc, cc), λ h. cc)
good_iff false rule culprit rest x = (λ h. (refl, h), λ h. h.1)

pub none_iff : (bad : ℕ → Bool) (n : ℕ) → (ltb (lowest_of bad n) n ≡ false) ↔ ((i : ℕ) → i < n → bad i ≡ false)
none_iff bad n = (λ h i l. (lowest_is bad n).passed i (omega (arith, ltb-false (lowest_of bad n) n h)), λ h. le-ltb (lowest_of bad n) n (omega (arith, lowest_none bad n h)))

back : (i : ℕ) → suc i - 1 ≡ i
back i = omega arith

before_iff : (a b : Arc) → (not (precedes a b) ≡ false) ↔ Before a b
before_iff a b = not_iff _ (either_iff _ _ (below_iff _ _) (both_iff _ _ (same_iff _ _) (below_iff _ _)))

pub counts_iff : (h : Header) → (bad_counts h ≡ false) ↔
    ((((1 ≤ h.phases) × (h.phases ≤ most_phases)) × (h.synchronizers ≤ most_synchronizers)) × (h.arcs ≤ most_arcs))
counts_iff h = or_iff _ _ (or_iff _ _ (or_iff _ _ (ltb_iff _ _) (ltb_iff _ _)) (ltb_iff _ _)) (ltb_iff _ _)

pub layout_iff : (h : Header) (n : ℕ) → (bad_layout h n ≡ false) ↔
    ((((h.phase_table ≡ header_bytes)
    × (h.synchronizer_table ≡ header_bytes + phase_bytes * h.phases))
    × (h.arc_table ≡ header_bytes + phase_bytes * h.phases + synchronizer_bytes * h.synchronizers))
    × (n ≡ header_bytes + phase_bytes * h.phases + synchronizer_bytes * h.synchronizers + arc_bytes * h.arcs))
layout_iff h n = or_iff _ _ (or_iff _ _ (or_iff _ _ (differs_iff _ _) (differs_iff _ _)) (differs_iff _ _)) (differs_iff _ _)

-- every test of the table fails
pub record RulesPassed (bytes : List ℕ) : Type 0 where
  pub long : ltb (length bytes) header_bytes ≡ false
  pub version : not (eqb (header_of bytes).version 1) ≡ false
  pub cycle : bad_cycle (header_of bytes) ≡ false
  pub counts : bad_counts (header_of bytes) ≡ false
  pub layout : bad_layout (header_of bytes) (length bytes) ≡ false
  pub phase : (i : ℕ) → i < (image_in bytes).phases → bad_phase bytes (image_in bytes) i ≡ false
  pub synchronizer : (i : ℕ) → i < (image_in bytes).synchronizers → bad_synchronizer bytes (image_in bytes) i ≡ false
  pub arc : (i : ℕ) → i < (image_in bytes).arcs → bad_arc bytes (image_in bytes) i ≡ false
  pub order : (i : ℕ) → i < (image_in bytes).arcs → bad_order bytes (image_in bytes) i ≡ false

module _ (bytes : List ℕ) where
  pub passed : (x : Image) → check_of bytes ≡ Ok x → RulesPassed bytes
  unfolding check_of records_of
  passed x h =
      let long = (good_iff (ltb (length bytes) header_bytes) _ _ _ x).0 h in
      let version = (good_iff _ _ _ _ x).0 long.1 in
      let cycle = (good_iff _ _ _ _ x).0 version.1 in
      let counts = (good_iff _ _ _ _ x).0 cycle.1 in
      let layout = (good_iff _ _ _ _ x).0 counts.1 in
      let phase = (good_iff _ _ _ _ x).0 layout.1 in
      let synchronizer = (good_iff _ _ _ _ x).0 phase.1 in
      let arc = (good_iff _ _ _ _ x).0 synchronizer.1 in
      let order = (good_iff _ _ _ _ x).0 arc.1 in
      record {
        long = long.0;
        version = version.0;
        cycle = cycle.0;
        counts = counts.0;
        layout = layout.0;
        phase = (none_iff _ _).0 phase.0;
        synchronizer = (none_iff _ _).0 synchronizer.0;
        arc = (none_iff _ _).0 arc.0;
        order = (none_iff _ _).0 order.0;
      }

  pub accepted : RulesPassed bytes → check_of bytes ≡ Ok (image_in bytes)
  unfolding check_of records_of
  accepted p =
      (good_iff _ _ _ _ _).1 (
        p.long,
        (good_iff _ _ _ _ _).1 (
          p.version,
          (good_iff _ _ _ _ _).1 (
            p.cycle,
            (good_iff _ _ _ _ _).1 (
              p.counts,
              (good_iff _ _ _ _ _).1 (
                p.layout,
                (good_iff _ _ _ _ _).1 (
                  (none_iff _ _).1 p.phase,
                  (good_iff _ _ _ _ _).1 (
                    (none_iff _ _).1 p.synchronizer,
                    (good_iff _ _ _ _ _).1 (
                      (none_iff _ _).1 p.arc,
                      (good_iff _ _ _ _ _).1 ((none_iff _ _).1 p.order, refl),
                    ),
                  ),
                ),
              ),
            ),
          ),
        ),
      )

  cycle_iff : (bad_cycle (header_of bytes) ≡ false) ↔ ((1 ≤ (image_in bytes).cycle) × ((image_in bytes).cycle ≤ longest_cycle))
  cycle_iff = or_iff _ _ (ltb_iff _ _) (ltb_iff _ _)

  module _ (i : ℕ) where
    pub phase_iff : (bad_phase bytes (image_in bytes) i ≡ false) ↔
        (((((phase_in bytes i).active ≤ (image_in bytes).cycle)
        × ((phase_in bytes i).closing ≤ (image_in bytes).cycle))
        × (0 < i → (phase_in bytes (i - 1)).closing ≤ (phase_in bytes i).closing))
        × (i + 1 ≡ (image_in bytes).phases → (phase_in bytes i).closing ≡ (image_in bytes).cycle))
    unfolding bad_phase
    phase_iff =
        or_iff _ _
        (or_iff _ _
        (or_iff _ _ (ltb_iff _ _) (ltb_iff _ _))
        (and_iff _ _ (below_iff _ _) (ltb_iff _ _)))
        (and_iff _ _ (same_iff _ _) (differs_iff _ _))

    synchronizer_iff : (bad_synchronizer bytes (image_in bytes) i ≡ false) ↔
        (((((((synchronizer_in bytes i).phase < (image_in bytes).phases)
        × ((synchronizer_in bytes i).kind ≤ 1))
        × ((synchronizer_in bytes i).setup ≤ (image_in bytes).cycle))
        × ((synchronizer_in bytes i).hold ≤ (image_in bytes).cycle))
        × ((synchronizer_in bytes i).least ≤ (synchronizer_in bytes i).greatest))
        × ((synchronizer_in bytes i).greatest ≤ longest_delay))
    unfolding bad_synchronizer
    synchronizer_iff =
        or_iff _ _
        (or_iff _ _
        (or_iff _ _
        (or_iff _ _
        (or_iff _ _ (leb_iff _ _) (ltb_iff _ _))
        (ltb_iff _ _))
        (ltb_iff _ _))
        (ltb_iff _ _))
        (ltb_iff _ _)

    arc_iff : (bad_arc bytes (image_in bytes) i ≡ false) ↔
        (((((arc_in bytes i).from < (image_in bytes).synchronizers)
        × ((arc_in bytes i).to < (image_in bytes).synchronizers))
        × ((arc_in bytes i).least ≤ (arc_in bytes i).greatest))
        × ((arc_in bytes i).greatest ≤ longest_delay))
    unfolding bad_arc
    arc_iff =
        or_iff _ _
        (or_iff _ _
        (or_iff _ _ (leb_iff _ _) (leb_iff _ _))
        (ltb_iff _ _))
        (ltb_iff _ _)

    order_iff : (bad_order bytes (image_in bytes) i ≡ false) ↔ (0 < i → Before (arc_in bytes (i - 1)) (arc_in bytes i))
    unfolding bad_order
    order_iff = and_iff _ _ (below_iff _ _) (before_iff (arc_in bytes (i - 1)) (arc_in bytes i))

  -- each rule's negation, from the tests
  pub valid : RulesPassed bytes → Valid bytes
  valid p =
      let cycle = cycle_iff.0 p.cycle in
      let counts = (counts_iff (header_of bytes)).0 p.counts in
      let layout = (layout_iff (header_of bytes) (length bytes)).0 p.layout in
      record {
        long = (ltb_iff _ _).0 p.long;
        version = (differs_iff _ _).0 p.version;
        some_cycle = cycle.0;
        cycle = cycle.1;
        some_phase = counts.0.0.0;
        phases = counts.0.0.1;
        synchronizers = counts.0.1;
        arcs = counts.1;
        phase_table = layout.0.0.0;
        synchronizer_table = layout.0.0.1;
        arc_table = layout.0.1;
        total = layout.1;
        phase = λ i l. let h = (phase_iff i).0 (p.phase i l) in record { active = h.0.0.0; closing = h.0.0.1 };
        rising = λ i l. let h = ((phase_iff (suc i)).0 (p.phase (suc i) l)).0.1 (omega arith) in rw (back i) at h;
        last = λ i l. ((phase_iff i).0 (p.phase i (omega arith))).1 (omega arith);
        synchronizer = λ i l. let h = (synchronizer_iff i).0 (p.synchronizer i l) in record {
          phase = h.0.0.0.0.0;
          kind = h.0.0.0.0.1;
          setup = h.0.0.0.1;
          hold = h.0.0.1;
          least = h.0.1;
          greatest = h.1;
        };
        arc = λ i l. let h = (arc_iff i).0 (p.arc i l) in record {
          from = h.0.0.0;
          to = h.0.0.1;
          least = h.0.1;
          greatest = h.1;
        };
        ordered = λ i l. let h = (order_iff (suc i)).0 (p.order (suc i) l) (omega arith) in rw (back i) at h;
      }

  -- and the tests, from each rule's negation
  pub fails : Valid bytes → RulesPassed bytes
  fails v = record {
    long = (ltb_iff _ _).1 v.long;
    version = (differs_iff _ _).1 v.version;
    cycle = cycle_iff.1 (v.some_cycle, v.cycle);
    counts = (counts_iff (header_of bytes)).1 (((v.some_phase, v.phases), v.synchronizers), v.arcs);
    layout = (layout_iff (header_of bytes) (length bytes)).1 (((v.phase_table, v.synchronizer_table), v.arc_table), v.total);
    phase = λ i l. let h = v.phase i l in (phase_iff i).1 (((h.active, h.closing), rising i l), λ e. v.last i (omega arith));
    synchronizer = λ i l. let h = v.synchronizer i l in
        (synchronizer_iff i).1 (((((h.phase, h.kind), h.setup), h.hold), h.least), h.greatest);
    arc = λ i l. let h = v.arc i l in (arc_iff i).1 (((h.from, h.to), h.least), h.greatest);
    order = λ i l. (order_iff i).1 (ordered i l);
  }
    where
      rising : (i : ℕ) → i < (image_in bytes).phases → 0 < i → (phase_in bytes (i - 1)).closing ≤ (phase_in bytes i).closing
      rising zero l z = let y : ⊥ = omega arith in absurd y
      rising (suc i) l z = rw (back i) (v.rising i l)

      ordered : (i : ℕ) → i < (image_in bytes).arcs → 0 < i → Before (arc_in bytes (i - 1)) (arc_in bytes i)
      ordered zero l z = let y : ⊥ = omega arith in absurd y
      ordered (suc i) l z = rw (back i) (v.ordered i l)

-- an image is accepted exactly where it is valid, and then the answer is what its header says
pub accepts : (bytes : List ℕ) → Valid bytes ↔ (check_of bytes ≡ Ok (image_in bytes))
accepts bytes = (λ v. accepted bytes (fails bytes v), λ h. valid bytes (passed bytes _ h))

pub accepted_is : (bytes : List ℕ) (x : Image) → check_of bytes ≡ Ok x → x ≡ image_in bytes
accepted_is bytes x h = let k = accepted bytes (passed bytes x h) in cc
