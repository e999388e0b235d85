-- Of the circuits of the list some are others with two phases exchanged, as their bytes show: P12 is P11, and P15 is P14, where there are three phases
-- and a synchronizer on each.
use mathlib.Core.Path.{◌≡◌}
use mathlib.Core.List.{List}
use Prim.Native.Nat.{ℕ, suc}
use lib.ListN.{length}
use Rattle.image.specs.Header.{header_of}
use Rattle.image.specs.Valid.{image_in, phase_in, synchronizer_in, arc_in}
use Rattle.image.specs.declared.header.Header.{Header}
use Rattle.image.specs.declared.records.Phase.{Phase}
use Rattle.image.specs.declared.records.Synchronizer.{Synchronizer}
use Rattle.image.specs.declared.records.Arc.{Arc}
use Rattle.circuit.specs.Exchange.{swapped, renumbered, Exchanged}
use Rattle.known.specs.Circuits.{p11, p12, p14, p15}
use Rattle.known.proofs.Checks.{Check, given, ◌and◌, less, equal, below}
use Rattle.known.proofs.Computes.{computes}

abbrev same_phase : (a b : Phase) → Check (a ≡ b)
same_phase a b =
    given (λ h. rw (h.0, h.1))
    (equal a.closing b.closing and equal a.active b.active)

abbrev same_synchronizer : (a b : Synchronizer) → Check (a ≡ b)
same_synchronizer a b =
    given (λ h. rw (h.0, h.1.0, h.1.1.0, h.1.1.1.0, h.1.1.1.1.0, h.1.1.1.1.1))
    (equal a.phase b.phase
    and equal a.kind b.kind
    and equal a.setup b.setup
    and equal a.hold b.hold
    and equal a.least b.least
    and equal a.greatest b.greatest)

abbrev same_arc : (a b : Arc) → Check (a ≡ b)
same_arc a b =
    given (λ h. rw (h.0, h.1.0, h.1.1.0, h.1.1.1))
    (equal a.from b.from and equal a.to b.to and equal a.least b.least and equal a.greatest b.greatest)

abbrev same_header : (a b : Header) → Check (a ≡ b)
same_header a b =
    given (λ h. rw (h.0, h.1.0, h.1.1.0, h.1.1.1.0, h.1.1.1.1.0, h.1.1.1.1.1.0, h.1.1.1.1.1.1.0, h.1.1.1.1.1.1.1))
    (equal a.version b.version
    and equal a.cycle b.cycle
    and equal a.phases b.phases
    and equal a.synchronizers b.synchronizers
    and equal a.arcs b.arcs
    and equal a.phase_table b.phase_table
    and equal a.synchronizer_table b.synchronizer_table
    and equal a.arc_table b.arc_table)

-- the second image is the first with the phases p and p + 1 exchanged
abbrev exchanging : (p : ℕ) (first second : List ℕ) → Check (Exchanged p first second)
exchanging p first second =
    given
    (λ h. record {
      header = h.0;
      long = h.1.0;
      here = h.1.1.0;
      close = h.1.1.1.0;
      phase = h.1.1.1.1.0;
      synchronizer = h.1.1.1.1.1.0;
      arc = h.1.1.1.1.1.1;
    })
    (same_header (header_of second) (header_of first)
    and equal (length second) (length first)
    and less (suc p) (image_in first).phases
    and equal (phase_in first p).closing (phase_in first (suc p)).closing
    and below (λ q. same_phase (phase_in second (swapped p q)) (phase_in first q)) (image_in first).phases
    and below (λ i. same_synchronizer (synchronizer_in second i) (renumbered p (synchronizer_in first i))) (image_in first).synchronizers
    and below (λ a. same_arc (arc_in second a) (arc_in first a)) (image_in first).arcs)

pub p12_exchanges_p11 : Exchanged 0 p11 p12
unfolding computes
p12_exchanges_p11 = (exchanging 0 p11 p12).sound tt

pub p15_exchanges_p14 : Exchanged 1 p14 p15
unfolding computes
p15_exchanges_p14 = (exchanging 1 p14 p15).sound tt
