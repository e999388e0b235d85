-- Of the circuits of the list some narrow others: P1 takes one off P2's longest delay, P5 keeps of each of P1's windows the high end,
-- and P7 adds one to P8's shortest delay. So no ring of P5 grows, since none of P1 does, and P7 meets the setup that P8 meets.
use mathlib.Core.Path.{refl}
use Prim.Native.Nat.{ℕ}
use lib.Dec.{lit<}
use lib.IntN.{ℤ}
use Rattle.flow.specs.Flow.{Side, late, early, Least}
use Rattle.flow.specs.Inside.Rounds.{round}
use Rattle.flow.proofs.Rounds.{settled_least}
use Rattle.image.specs.Valid.{Valid}
use Rattle.circuit.specs.Circuit.{Circuit, circuit_of}
use Rattle.circuit.specs.Clock.{flow}
use Rattle.circuit.specs.Times.{Times, Calm, arrives, setup_slack, Met}
use Rattle.circuit.specs.Narrows.{Stays, Narrows, Narrowed}
use Rattle.circuit.proofs.Sound.{sound, good}
use Rattle.circuit.proofs.RulesInWords.{met_exactly}
use Rattle.circuit.proofs.Narrowing.{narrowing}
use Rattle.known.specs.Circuits.{p1, p2, p5, p7, p8}
use Rattle.known.proofs.Checks.{Check, given, ◌and◌, less, at_most, equal, below}
use Rattle.known.proofs.Outcomes.{acceptance, settling}
use Rattle.known.proofs.Computes.{computes}
use Rattle.known.proofs.Mistakes.{calm}

-- the arc a of both
abbrev staying : (c d : Circuit) (a : ℕ) → Check (Stays c a d a)
staying c d a =
    given (λ h. record { here = h.0; from = h.1.0; to = h.1.1.0; shortest = h.1.1.1.0; longest = h.1.1.1.1 })
    (less a c.arcs
    and equal (c.from a) (d.from a)
    and equal (c.to a) (d.to a)
    and at_most (c.shortest a) (d.shortest a)
    and at_most (d.longest a) (c.longest a))

-- d narrows c, with the same arcs in the same order
abbrev narrower : (c d : Circuit) → Check (Narrows c d)
narrower c d =
    given
    (λ h. record {
      cycle = h.0.0;
      phases = h.0.1.0;
      synchronizers = h.0.1.1.0;
      closing = h.0.1.1.1.0;
      active = h.0.1.1.1.1.0;
      phase = h.0.1.1.1.1.1.0;
      kind = h.0.1.1.1.1.1.1;
      setup = h.1.0;
      hold = h.1.1.0;
      least = h.1.1.1.0;
      greatest = h.1.1.1.1.0;
      arc = λ a l. (a, h.1.1.1.1.1.0 a l);
      kept = λ b l. let k = h.1.1.1.1.1.1 b l in (b, k.0, k.1);
    })
    ((equal d.cycle c.cycle
    and equal d.phases c.phases
    and equal d.synchronizers c.synchronizers
    and below (λ p. equal (d.closing p) (c.closing p)) c.phases
    and below (λ p. equal (d.active p) (c.active p)) c.phases
    and below (λ i. equal (d.phase i) (c.phase i)) c.synchronizers
    and below (λ i. equal (d.kind i) (c.kind i)) c.synchronizers)
    and below (λ i. at_most (d.setup i) (c.setup i)) c.synchronizers
    and below (λ i. at_most (d.hold i) (c.hold i)) c.synchronizers
    and below (λ i. at_most (c.least i) (d.least i)) c.synchronizers
    and below (λ i. at_most (d.greatest i) (c.greatest i)) c.synchronizers
    and below (staying c d) d.arcs
    and below (λ b. less b d.arcs and equal (d.to b) (c.to b)) c.arcs)

pub p1_narrows_p2 : Narrows (circuit_of p2) (circuit_of p1)
unfolding computes
p1_narrows_p2 = (narrower (circuit_of p2) (circuit_of p1)).sound tt

pub p5_narrows_p1 : Narrows (circuit_of p1) (circuit_of p5)
unfolding computes
p5_narrows_p1 = (narrower (circuit_of p1) (circuit_of p5)).sound tt

pub p7_narrows_p8 : Narrows (circuit_of p8) (circuit_of p7)
unfolding computes
p7_narrows_p8 = (narrower (circuit_of p8) (circuit_of p7)).sound tt

pub p5_calm : Calm (circuit_of p5)
unfolding computes
p5_calm = (narrowing p1 p5 ((acceptance p1).sound tt) ((acceptance p5).sound tt) p5_narrows_p1 calm).0

p8_valid : Valid p8
unfolding computes
p8_valid = (acceptance p8).sound tt

-- P8's departures, after one round
abbrev departures : Side → ℕ → ℤ
departures s = round s (flow s (circuit_of p8)) 1

p8_least : (s : Side) → Least s (flow s (circuit_of p8)) (departures s)
unfolding computes
p8_least early = settled_least early _ (good early _ (sound p8 p8_valid)) 1 ((settling early (flow early (circuit_of p8)) 1).sound tt)
p8_least late = settled_least late _ (good late _ (sound p8 p8_valid)) 1 ((settling late (flow late (circuit_of p8)) 1).sound tt)

p8_met : Met (setup_slack (circuit_of p8) 1) (arrives late (circuit_of p8) (departures late) 1)
unfolding computes
p8_met = (met_exactly (setup_slack (circuit_of p8) 1) (arrives late (circuit_of p8) (departures late) 1)).0 refl

p7_inside : (E D : ℕ → ℤ) → Times (circuit_of p7) E D → Narrowed (circuit_of p8) (circuit_of p7) (departures early) (departures late) E D 1
unfolding computes
p7_inside E D t = (narrowing p8 p7 p8_valid ((acceptance p7).sound tt) p7_narrows_p8 (departures late, (p8_least late).fits)).1
    (departures early) (departures late) E D (record { early = p8_least early; late = p8_least late }) t 1 (lit< tt)

pub p7_setup_met : (E D : ℕ → ℤ) → Times (circuit_of p7) E D → Met (setup_slack (circuit_of p7) 1) (arrives late (circuit_of p7) D 1)
p7_setup_met E D t = (p7_inside E D t).setup p8_met
