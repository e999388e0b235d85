-- All that has to unfold so that an image of the list computes, from its bytes to its results: a declaration that computes says
-- `unfolding computes`.
use Rattle.image.specs.Words.{word_at}
use Rattle.image.specs.Header.{header_of}
use Rattle.image.specs.Records.{phase_at, synchronizer_at, arc_at}
use Rattle.image.specs.Rules.{bad_phase, bad_synchronizer, bad_arc, bad_order, lowest_of}
use Rattle.image.specs.Checks.{records_of, check_of}
use Rattle.ticks.specs.Extremes.{max_ℤ, min_ℤ}
use Rattle.flow.specs.Flow.{into, arrival, next}
use Rattle.flow.specs.Inside.Rounds.{round}
use Rattle.circuit.specs.Circuit.{circuit_of}
use Rattle.circuit.specs.Clock.{tick, together, shift, is_latch, opening, launch, delay, weight}
use Rattle.circuit.specs.Exchange.{swapped}
use Rattle.circuit.specs.Times.{setup_slack, hold_slack, count, six, results}
use Rattle.report.specs.Decimal.{digits_up_to, digits, signed, result_text}
use Rattle.report.specs.Text.{each, text_of}
use Rattle.known.specs.Circuits.{known, p1, p2, p3, p4, p5, p7, p8, p9, p10, p11, p12, p13, p14, p15}

unfoldable pub computes : Unit {0}
unfolding known p1 p2 p3 p4 p5 p7 p8 p9 p10 p11 p12 p13 p14 p15
    word_at header_of phase_at synchronizer_at arc_at
    bad_phase bad_synchronizer bad_arc bad_order lowest_of records_of check_of
    into arrival next round max_ℤ min_ℤ
    circuit_of tick together shift is_latch opening launch delay weight
    swapped setup_slack hold_slack count six results
    digits_up_to digits signed result_text each text_of
computes = tt
