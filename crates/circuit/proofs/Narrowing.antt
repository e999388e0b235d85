-- Demand 3. Of two sound circuits of which the second narrows the first, each flow of the second lies within the first's on its
-- own side, since shifts and launches are the same and each delay lies inside the first's window. The theorems on flows do the rest.
use mathlib.Core.Path.{◌≡◌}
use mathlib.Core.List.{List}
use Prim.Native.Nat.{ℕ, ◌≤◌, ◌<◌}
use native.Mathlib.Omega.{arith}
use lib.IntN.{ℤ, pos, ◌-ℤ◌}
use lib.Signed.{◌≤ℤ◌}
use Rattle.ticks.proofs.Ints.{ints, diff}
use Rattle.image.specs.Valid.{Valid}
use Rattle.flow.specs.Flow.{Side, late, early, When}
use Rattle.flow.specs.Inside.Rounds.{round}
use Rattle.flow.specs.Bounds.{Inside, Nested, neither, nested}
use Rattle.flow.specs.Inside.Within.{Keeps, Within}
use Rattle.flow.proofs.Sides.{inside_refl}
use Rattle.flow.proofs.Settles.{within_settles}
use Rattle.flow.proofs.Rounds.{settled_least}
use Rattle.flow.proofs.Windows.{departures_inside, arrivals_inside}
use Rattle.circuit.specs.Circuit.{Circuit, circuit_of}
use Rattle.circuit.specs.Clock.{across, is_latch, opening, launch, delay, weight, flow}
use Rattle.circuit.specs.Times.{Times, Calm, arrives, setup_slack, hold_slack, Met}
use Rattle.circuit.specs.Narrows.{Stays, Narrows, Narrowed}
use Rattle.circuit.proofs.Sound.{Sound, sound, good}
use Rattle.circuit.proofs.Shifts.{shift_same}
use Rattle.circuit.proofs.Solved.{early_late, early_late_arrivals}

module _ (c d : Circuit) (v : Sound c) (w : Sound d) (n : Narrows c d) where
  across_same : (a b : ℕ) → Stays c b d a → across d a ≡ across c b
  across_same a b s =
      let l = v.from b s.here in
      let m = v.to b s.here in
      let p = v.phase _ l in
      let q = v.phase _ m in
      rw (← s.from, ← s.to, n.phase (c.from b) l, n.phase (c.to b) m)
      (shift_same c d v w n.cycle _ _ _ _ p q (rw n.phases p) (rw n.phases q) (n.closing _ p) (n.closing _ q))

  latch_same : (i : ℕ) → i < c.synchronizers → is_latch d i ≡ is_latch c i
  unfolding is_latch
  latch_same i l = rw (n.kind i l)

  launch_same : (i : ℕ) → i < c.synchronizers → launch d i ≡ launch c i
  unfolding launch opening
  launch_same i l = rw (latch_same i l, n.phase i l, n.active (c.phase i) (v.phase i l), n.cycle)

  late_delay : (a b : ℕ) → Stays c b d a → delay late d a ≤ delay late c b
  unfolding delay
  late_delay a b s = rw (← s.from) (omega (arith, n.greatest (c.from b) (v.from b s.here), s.longest))

  early_delay : (a b : ℕ) → Stays c b d a → delay early c b ≤ delay early d a
  unfolding delay
  early_delay a b s = rw (← s.from) (omega (arith, n.least (c.from b) (v.from b s.here), s.shortest))

  weight_inside : (s : Side) (a b : ℕ) → Stays c b d a → Inside s (weight s d a) (weight s c b)
  unfolding weight
  weight_inside late a b s = rw (across_same a b s)
      (omega (ints, late_delay a b s, diff (pos (delay late d a)) (across c b), diff (pos (delay late c b)) (across c b)))
  weight_inside early a b s = rw (across_same a b s)
      (omega (ints, early_delay a b s, diff (pos (delay early d a)) (across c b), diff (pos (delay early c b)) (across c b)))

  -- each flow of the second lies within the first's
  pub narrows_within : (s : Side) → Within s (flow s d) (flow s c)
  narrows_within s = record {
    nodes = n.synchronizers;
    latch = λ i l. latch_same i (rw n.synchronizers at l);
    launch = λ i l. rw (launch_same i (rw n.synchronizers at l)) (inside_refl s _);
    cover = λ a l. let st = n.arc a l in (
      st.0,
      record {
        here = st.1.here;
        source = st.1.from;
        target = st.1.to;
        weight = weight_inside s a st.0 st.1;
      },
    );
    keeps = keeps s;
  }
    where
      keeps : (s : Side) → Keeps s (flow s d) (flow s c)
      keeps late = tt
      keeps early = n.kept

  -- the second has no growing loop
  pub narrows_calm : Calm c → Calm d
  narrows_calm calm = (
    round late (flow late d) d.synchronizers,
    (settled_least late (flow late d) (good late d w) d.synchronizers
        (within_settles (flow late d) (flow late c) (good late d w) (good late c v) (narrows_within late) calm.0 calm.1 late
        d.synchronizers (omega arith))).fits,
  )

  module _ (E D E' D' : ℕ → ℤ) (t : Times c E D) (t' : Times d E' D') where
    early_departures : (i : ℕ) → i < d.synchronizers → E i ≤ℤ E' i
    early_departures = departures_inside early early (flow early d) (flow early c) (good early d w) (good early c v) (narrows_within early)
        E' E (t'.early.fits, t.early)

    late_departures : (i : ℕ) → i < d.synchronizers → D' i ≤ℤ D i
    late_departures = departures_inside late late (flow late d) (flow late c) (good late d w) (good late c v) (narrows_within late)
        D' D (t'.late, t.late.fits)

    early_arrivals : (i : ℕ) → Nested early (arrives early d E' i) (arrives early c E i)
    early_arrivals = arrivals_inside early early (flow early d) (flow early c) (good early d w) (good early c v) (narrows_within early)
        n.kept E' E (t'.early.fits, t.early)

    late_arrivals : (i : ℕ) → Nested late (arrives late d D' i) (arrives late c D i)
    late_arrivals = arrivals_inside late late (flow late d) (flow late c) (good late d w) (good late c v) (narrows_within late)
        n.kept D' D (t'.late, t.late.fits)

    setup_stays : (i : ℕ) → i < c.synchronizers → {x y : When} → Nested late x y → Met (setup_slack c i) y → Met (setup_slack d i) x
    unfolding setup_slack
    setup_stays i l neither h = tt
    setup_stays i l (nested {t = x} {u = y} k) h =
        let a = pos c.cycle -ℤ pos (c.setup i) in
        let b = pos d.cycle -ℤ pos (d.setup i) in
        omega (ints, n.cycle, n.setup i l, diff (pos c.cycle) (pos (c.setup i)), diff (pos d.cycle) (pos (d.setup i)), diff a y, diff b x)

    hold_stays : (i : ℕ) → i < c.synchronizers → {x y : When} → Nested early x y → Met (hold_slack c i) y → Met (hold_slack d i) x
    unfolding hold_slack
    hold_stays i l neither h = tt
    hold_stays i l (nested {t = x} {u = y} k) h = omega (ints, n.hold i l, diff y (pos (c.hold i)), diff x (pos (d.hold i)))

    pub narrowed : (i : ℕ) → i < c.synchronizers → Narrowed c d E D E' D' i
    narrowed i l =
        let m : i < d.synchronizers = rw n.synchronizers l in record {
          early_departure = early_departures i m;
          departures = early_late d w E' D' t' i m;
          late_departure = late_departures i m;
          early_arrival = early_arrivals i;
          arrivals = early_late_arrivals d w E' D' t' i;
          late_arrival = late_arrivals i;
          setup = setup_stays i l (late_arrivals i);
          hold = hold_stays i l (early_arrivals i);
        }

-- demand 3, from images
pub narrowing : (first second : List ℕ) → Valid first → Valid second → Narrows (circuit_of first) (circuit_of second) →
    Calm (circuit_of first) →
    Calm (circuit_of second) × ((E D E' D' : ℕ → ℤ) → Times (circuit_of first) E D → Times (circuit_of second) E' D' →
    (i : ℕ) → i < (circuit_of first).synchronizers → Narrowed (circuit_of first) (circuit_of second) E D E' D' i)
narrowing first second v w n calm =
    let c = circuit_of first in
    let d = circuit_of second in (
      narrows_calm c d (sound first v) (sound second w) n calm,
      λ E D E' D' t t'. narrowed c d (sound first v) (sound second w) n E D E' D' t t',
    )
