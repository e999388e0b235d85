-- Two images of which the second has two neighbouring phases exchanged: if one is valid so is the other, and their circuits are alike. The order of
-- closing times does not change, since the two close at the same time; and a shift is told by closing times, not by the numbers of phases.
use mathlib.Core.Path.{◌≡◌, refl, sym, ap, fun_ext, ◌∙◌}
use mathlib.Core.Bool.{Bool, true, false, cond}
use mathlib.Core.List.{List, [], ◌∷◌}
use mathlib.Core.Logic.{◌≢◌, ◌⊎◌, inl, inr}
use Prim.Native.Nat.{ℕ, suc, ◌<◌}
use native.Mathlib.Omega.{arith}
use lib.Dec.{eqb, lit<}
use borrow.Author.Tests.{eqb-true, eqb-false}
use Rattle.image.specs.Words.{word_at}
use Rattle.image.specs.Header.{header_of, image_of}
use Rattle.image.specs.Records.{phase_at, synchronizer_at, arc_at}
use Rattle.image.specs.declared.header.Image.{Image}
use Rattle.image.specs.declared.records.Phase.{Phase}
use Rattle.image.specs.Valid.{image_in, phase_in, synchronizer_in, arc_in, Valid}
use Rattle.flow.specs.Flow.{Side, late, early}
use Rattle.flow.specs.Inside.Same.{Same}
use Rattle.flow.proofs.Pigeonhole.{below_suc}
use Rattle.circuit.specs.Circuit.{Circuit, circuit_of}
use Rattle.circuit.specs.Clock.{across, is_latch, opening, launch, delay, weight, flow}
use Rattle.circuit.specs.Times.{setup_slack, hold_slack}
use Rattle.circuit.specs.Exchange.{swapped, Exchanged}
use Rattle.circuit.proofs.Sound.{Sound, sound}
use Rattle.circuit.proofs.Shifts.{shift_same}
use Rattle.circuit.proofs.Unique.{Alike}

-- ---- the relation holds of real images: two latches on two phases that close together, with an arc between them, and the same with the two phases
-- exchanged. Their active lengths differ, so that these are seen to travel along
-- words below 256, the least significant byte first
abbrev pub words : List ℕ → List ℕ
words [] = []
words (n ∷ ns) = n ∷ 0 ∷ 0 ∷ 0 ∷ words ns

-- version, Tc, k, l, m, the three tables; two phases; the phases of the two latches; the arc
abbrev pub image : (active active' phase phase' : ℕ) → List ℕ
image active active' phase phase' = words (
    1 ∷ 100 ∷ 2 ∷ 2 ∷ 1 ∷ 32 ∷ 48 ∷ 96 ∷
    100 ∷ active ∷ 100 ∷ active' ∷
    phase ∷ 0 ∷ 10 ∷ 5 ∷ 5 ∷ 5 ∷
    phase' ∷ 0 ∷ 10 ∷ 5 ∷ 5 ∷ 5 ∷
    0 ∷ 1 ∷ 10 ∷ 10 ∷ [])

abbrev pub first : List ℕ
first = image 50 40 0 1

abbrev pub second : List ℕ
second = image 40 50 1 0

-- what holds of 0, and of 0 and 1
one : (P : ℕ → Type 0) → P 0 → (i : ℕ) → i < 1 → P i
one P a = below_suc P 0 (λ i l. let z : ⊥ = omega arith in absurd z) a

two : (P : ℕ → Type 0) → P 0 → P 1 → (i : ℕ) → i < 2 → P i
two P a b = below_suc P 1 (one P a) b

pub some_exchanged : Exchanged 0 first second
unfolding word_at header_of phase_at synchronizer_at arc_at swapped
some_exchanged = record {
  header = refl;
  long = refl;
  here = lit< tt;
  close = omega arith;
  phase = two _ refl refl;
  synchronizer = two _ refl refl;
  arc = one _ refl;
}

-- ---- of any two images
-- a phase is one of the two, or keeps its number
abbrev Swaps : ℕ → ℕ → ℕ → Type 0
Swaps p q r = ((q ≡ p) × (r ≡ suc p)) ⊎ ((q ≡ suc p) × (r ≡ p)) ⊎ ((q ≢ p) × (q ≢ suc p) × (r ≡ q))

swaps : (p q : ℕ) → Swaps p q (swapped p q)
unfolding swapped
swaps p q = go (eqb q p) refl (eqb q (suc p)) refl
  where
    go : (b : Bool) → eqb q p ≡ b → (t : Bool) → eqb q (suc p) ≡ t → Swaps p q (cond b (suc p) (cond t p q))
    go true e t f = inl (eqb-true q p e, refl)
    go false e true f = inr (inl (eqb-true q (suc p) f, refl))
    go false e false f = inr (inr (eqb-false q p e, eqb-false q (suc p) f, refl))

-- exchanged twice, a phase has its number again
pub swapped_back : (p q : ℕ) → swapped p (swapped p q) ≡ q
swapped_back p q = go (swaps p q) (swaps p (swapped p q))
  where
    go : {r s : ℕ} → Swaps p q r → Swaps p r s → s ≡ q
    go (inl x) (inl y) = omega arith
    go (inl x) (inr (inl y)) = omega arith
    go (inl x) (inr (inr y)) = absurd (y.1 x.1)
    go (inr (inl x)) (inl y) = omega arith
    go (inr (inl x)) (inr (inl y)) = omega arith
    go (inr (inl x)) (inr (inr y)) = absurd (y.0 x.1)
    go (inr (inr x)) (inl y) = absurd (x.0 (sym x.2 ∙ y.0))
    go (inr (inr x)) (inr (inl y)) = absurd (x.1 (sym x.2 ∙ y.0))
    go (inr (inr x)) (inr (inr y)) = y.2 ∙ x.2

pub swapped_below : (p q k : ℕ) → suc p < k → q < k → swapped p q < k
swapped_below p q k h l = go (swaps p q)
  where
    go : {r : ℕ} → Swaps p q r → r < k
    go (inl x) = omega arith
    go (inr (inl x)) = omega arith
    go (inr (inr x)) = omega arith

module _ (p : ℕ) (first second : List ℕ) (x : Exchanged p first second) where
  abbrev k : ℕ
  k = (image_in first).phases

  pub both_there : suc p < k
  both_there = omega (arith, x.here)

  close : (phase_in first p).closing ≡ (phase_in first (suc p)).closing
  close = omega (arith, x.close)

  -- a phase of the second, by its old number
  pub phase_was : (q : ℕ) → q < k → phase_in second q ≡ phase_in first (swapped p q)
  phase_was q l = ap (phase_in second) (sym (swapped_back p q)) ∙ x.phase (swapped p q) (swapped_below p q k both_there l)

  -- phases of one number close at one time
  closing_stays : (q : ℕ) → (phase_in first (swapped p q)).closing ≡ (phase_in first q).closing
  closing_stays q = go (swaps p q)
    where
      go : {r : ℕ} → Swaps p q r → (phase_in first r).closing ≡ (phase_in first q).closing
      go (inl h) = rw (h.0, h.1) (sym close)
      go (inr (inl h)) = rw (h.0, h.1) close
      go (inr (inr h)) = rw h.2

  pub closing_same : (q : ℕ) → q < k → (phase_in second q).closing ≡ (phase_in first q).closing
  closing_same q l = ap (λ (r : Phase). r.closing) (phase_was q l) ∙ closing_stays q

  -- what the header says
  pub exchanged_image : image_in second ≡ image_in first
  exchanged_image = ap image_of x.header

  pub phases_same : (image_in second).phases ≡ k
  phases_same = ap (λ (i : Image). i.phases) exchanged_image

  pub synchronizers_same : (image_in second).synchronizers ≡ (image_in first).synchronizers
  synchronizers_same = ap (λ (i : Image). i.synchronizers) exchanged_image

  pub arcs_same : (image_in second).arcs ≡ (image_in first).arcs
  arcs_same = ap (λ (i : Image). i.arcs) exchanged_image

  pub cycle_same : (image_in second).cycle ≡ (image_in first).cycle
  cycle_same = ap (λ (i : Image). i.cycle) exchanged_image

  pub exchanged_back : Exchanged p second first
  exchanged_back = record {
    header = sym x.header;
    long = sym x.long;
    here = omega (arith, x.here, phases_same);
    close = omega (arith, x.close, closing_same p (omega (arith, both_there)), closing_same (suc p) both_there);
    phase = λ q l. sym (phase_was q (rw phases_same at l));
    synchronizer = λ i l. rw (x.synchronizer i (rw synchronizers_same at l), swapped_back p (synchronizer_in first i).phase) refl;
    arc = λ a l. sym (x.arc a (rw arcs_same at l));
  }

  pub exchanged_valid : Valid first → Valid second
  exchanged_valid v = record {
    long = rw x.long v.long;
    version = rw x.header v.version;
    some_cycle = rw cycle_same v.some_cycle;
    cycle = rw cycle_same v.cycle;
    some_phase = rw phases_same v.some_phase;
    phases = rw phases_same v.phases;
    synchronizers = rw synchronizers_same v.synchronizers;
    arcs = rw arcs_same v.arcs;
    phase_table = rw x.header v.phase_table;
    synchronizer_table = rw x.header v.synchronizer_table;
    arc_table = rw x.header v.arc_table;
    total = rw (x.header, x.long) v.total;
    phase = λ q l. let m : q < k = rw phases_same at l in
        rw (phase_was q m, cycle_same) (v.phase (swapped p q) (swapped_below p q k both_there m));
    rising = λ q l. let m : suc q < k = rw phases_same at l in
        rw (closing_same q (omega arith), closing_same (suc q) m) (v.rising q m);
    last = λ q e. let f : suc q ≡ k = e ∙ phases_same in closing_same q (omega arith) ∙ v.last q f ∙ sym cycle_same;
    synchronizer = λ i l. let m : i < (image_in first).synchronizers = rw synchronizers_same at l in
        let h = v.synchronizer i m in
        rw (x.synchronizer i m, cycle_same, phases_same) (record {
          phase = swapped_below p (synchronizer_in first i).phase k both_there h.phase;
          kind = h.kind;
          setup = h.setup;
          hold = h.hold;
          least = h.least;
          greatest = h.greatest;
        });
    arc = λ a l. let m : a < (image_in first).arcs = rw arcs_same at l in rw (x.arc a m, synchronizers_same) (v.arc a m);
    ordered = λ a l. let m : suc a < (image_in first).arcs = rw arcs_same at l in rw (x.arc a (omega arith), x.arc (suc a) m) (v.ordered a m);
  }

  -- the circuits of the two
  module _ (v : Valid first) where
    abbrev c : Circuit
    c = circuit_of first

    abbrev d : Circuit
    d = circuit_of second

    sound_c : Sound c
    sound_c = sound first v

    sound_d : Sound d
    sound_d = sound second (exchanged_valid v)

    tc_same : d.cycle ≡ c.cycle
    unfolding circuit_of
    tc_same = cycle_same

    end_moved : (j i : ℕ) → j ≡ i → i < c.synchronizers → d.phase j ≡ swapped p (c.phase i)
    unfolding circuit_of
    end_moved j i e l = rw (e, x.synchronizer i l)

    closing_moved : (q : ℕ) → q < c.phases → d.closing (swapped p q) ≡ c.closing q
    unfolding circuit_of
    closing_moved q l = rw (x.phase q l)

    there : (q : ℕ) → q < c.phases → swapped p q < d.phases
    unfolding circuit_of
    there q l = rw phases_same (swapped_below p q k both_there l)

    from_same : (a : ℕ) → a < c.arcs → d.from a ≡ c.from a
    unfolding circuit_of
    from_same a l = rw (x.arc a l)

    to_same : (a : ℕ) → a < c.arcs → d.to a ≡ c.to a
    unfolding circuit_of
    to_same a l = rw (x.arc a l)

    across_same : (a : ℕ) → a < c.arcs → across d a ≡ across c a
    across_same a l =
        let from = sound_c.from a l in
        let to = sound_c.to a l in
        let q = sound_c.phase _ from in
        let r = sound_c.phase _ to in
        rw (end_moved _ _ (from_same a l) from, end_moved _ _ (to_same a l) to)
        (shift_same c d sound_c sound_d tc_same _ _ _ _ q r (there _ q) (there _ r) (closing_moved _ q) (closing_moved _ r))

    delay_same : (s : Side) (a : ℕ) → a < c.arcs → delay s d a ≡ delay s c a
    unfolding circuit_of delay
    delay_same late a l = rw (x.arc a l, x.synchronizer (arc_in first a).from (v.arc a l).from)
    delay_same early a l = rw (x.arc a l, x.synchronizer (arc_in first a).from (v.arc a l).from)

    weight_same : (s : Side) (a : ℕ) → a < c.arcs → weight s d a ≡ weight s c a
    unfolding weight
    weight_same s a l = rw (delay_same s a l, across_same a l)

    latch_same : (i : ℕ) → i < c.synchronizers → is_latch d i ≡ is_latch c i
    unfolding circuit_of is_latch
    latch_same i l = rw (x.synchronizer i l)

    opening_same : (i : ℕ) → i < c.synchronizers → opening d i ≡ opening c i
    unfolding circuit_of opening
    opening_same i l = rw (x.synchronizer i l, x.phase (synchronizer_in first i).phase (v.synchronizer i l).phase, cycle_same)

    launch_same : (i : ℕ) → i < c.synchronizers → launch d i ≡ launch c i
    unfolding launch
    launch_same i l = rw (latch_same i l, opening_same i l, tc_same)

    flow_same : (s : Side) → Same (flow s c) (flow s d)
    unfolding circuit_of
    flow_same s = record {
      nodes = synchronizers_same;
      arcs = arcs_same;
      source = from_same;
      target = to_same;
      weight = weight_same s;
      launch = launch_same;
      latch = latch_same;
    }

    pub exchanged_alike : Alike c d
    unfolding circuit_of setup_slack hold_slack
    exchanged_alike = record {
      flows = flow_same;
      setup = λ i l. fun_ext (λ t. rw (x.synchronizer i l, cycle_same));
      hold = λ i l. fun_ext (λ t. rw (x.synchronizer i l));
    }
