-- The circuits with known numbers (circuits/README.md), as the bytes of their images, and what is known of each.
use Rattle.std.specs.Prelude.{List, [], ◌∷◌, ℕ, ℤ, pos, neg_ℤ}
use Prim.Native.String.{String}
use Rattle.circuit.specs.Times.{mark}
use Rattle.grammar.specs.Layout.{laid}
use Rattle.known.specs.Layout.{Window, ◌to◌, phase, latch, flip_flop, arc}

-- the ring: the latches' delays, the windows of arc 0 and arc 1
abbrev pub ring : Window → Window → Window → List ℕ
ring delays back forth =
    laid 100 (phase 50 40 ∷ phase 100 40 ∷ []) (latch 0 10 5 delays ∷ latch 1 10 5 delays ∷ []) (arc 1 0 back ∷ arc 0 1 forth ∷ [])

unfoldable pub p1 : List ℕ
p1 = ring (5 to 10) (10 to 20) (20 to 60)

unfoldable pub p2 : List ℕ
p2 = ring (5 to 10) (10 to 20) (20 to 61)

unfoldable pub p3 : List ℕ
p3 = ring (5 to 10) (10 to 10) (20 to 70)

unfoldable pub p4 : List ℕ
p4 = ring (5 to 10) (0 to 0) (20 to 80)

unfoldable pub p5 : List ℕ
p5 = ring (10 to 10) (20 to 20) (60 to 60)

-- two flip-flops: the window of the arc between them
abbrev pub flip_flops : Window → List ℕ
flip_flops window =
    laid 100 (phase 100 50 ∷ []) (flip_flop 0 10 10 (8 to 8) ∷ flip_flop 0 10 10 (8 to 8) ∷ []) (arc 0 1 window ∷ [])

unfoldable pub p7 : List ℕ
p7 = flip_flops (2 to 80)

unfoldable pub p8 : List ℕ
p8 = flip_flops (1 to 80)

-- a chain of latches on one phase
unfoldable pub p9 : List ℕ
p9 = laid 100
    (phase 100 40 ∷ [])
    (latch 0 0 0 (0 to 0) ∷ latch 0 0 0 (0 to 0) ∷ latch 0 0 0 (0 to 0) ∷ [])
    (arc 0 1 (100 to 130) ∷ arc 1 2 (100 to 130) ∷ [])

unfoldable pub p10 : List ℕ
p10 = laid 100 (phase 100 40 ∷ []) [] []

-- two latches on two phases that close together, and one arc: the phase of the latch that it leaves, and of the one that it enters
abbrev pub pair : ℕ → ℕ → List ℕ
pair source target =
    laid 100
    (phase 100 50 ∷ phase 100 50 ∷ [])
    (latch source 10 5 (5 to 5) ∷ latch target 10 5 (5 to 5) ∷ [])
    (arc 0 1 (10 to 10) ∷ [])

unfoldable pub p11 : List ℕ
p11 = pair 0 1

-- P11 with its two phases exchanged
unfoldable pub p12 : List ℕ
p12 = pair 1 0

-- a phase that closes at 0 and one that closes at Tc
unfoldable pub p13 : List ℕ
p13 = laid 100
    (phase 0 50 ∷ phase 100 50 ∷ [])
    (latch 0 10 5 (5 to 5) ∷ latch 1 10 5 (5 to 5) ∷ [])
    (arc 1 0 (10 to 20) ∷ arc 0 1 (20 to 60) ∷ [])

-- three phases, of which the last two close together, and a way round over two latches and a flip-flop: these two phases, and those of the latches
abbrev pub around : List (List ℕ) → ℕ → ℕ → List ℕ
around lasts first second =
    laid 100
    (phase 40 20 ∷ lasts)
    (latch first 10 5 (5 to 10) ∷ latch second 10 5 (5 to 10) ∷ flip_flop 0 5 5 (8 to 8) ∷ [])
    (arc 2 0 (20 to 40) ∷ arc 0 1 (30 to 90) ∷ arc 1 2 (10 to 20) ∷ [])

unfoldable pub p14 : List ℕ
p14 = around (phase 100 50 ∷ phase 100 30 ∷ []) 1 2

-- P14 with these two exchanged
unfoldable pub p15 : List ℕ
p15 = around (phase 100 30 ∷ phase 100 50 ∷ []) 2 1

pub data Outcome : Type 0 where
  -- the six results of each synchronizer, how many setups and how many holds are missed, the report
  timed : List ℤ → ℕ → ℕ → String → Outcome
  -- the arcs of the only growing ring in order of travel, the first leaving its lowest-numbered synchronizer; its gain; the report
  growing : List ℕ → ℤ → String → Outcome
  -- the path to a synchronizer: that synchronizer, the launching one, the arcs in order of travel
  path : ℕ → ℕ → List ℕ → Outcome

pub record Known : Type 0 where
  -- P1 is 1
  pub number : ℕ
  pub bytes : List ℕ
  pub outcome : Outcome

abbrev pub minus : ℕ → ℤ
minus n = neg_ℤ (pos n)

-- what P11 and P12 have, and what P14 and P15 have
abbrev pub of_the_pair : Outcome
of_the_pair = timed (
    pos 50 ∷ pos 50 ∷ mark ∷ mark ∷ mark ∷ mark ∷
    pos 50 ∷ pos 50 ∷ minus 35 ∷ minus 35 ∷ minus 40 ∷ pos 125 ∷ []) 0 1
    "timed 2 0 1\n0 50 50 - - - -\n1 50 50 -35 -35 -40 125\n"

abbrev pub of_the_way_round : Outcome
of_the_way_round = timed (
    pos 68 ∷ pos 88 ∷ pos 68 ∷ pos 88 ∷ pos 63 ∷ pos 2 ∷
    pos 70 ∷ pos 88 ∷ pos 3 ∷ pos 88 ∷ minus 2 ∷ pos 2 ∷
    pos 100 ∷ pos 100 ∷ pos 45 ∷ pos 78 ∷ pos 40 ∷ pos 17 ∷ []) 0 1
    "timed 3 0 1\n0 68 88 68 88 63 2\n1 70 88 3 88 -2 2\n2 100 100 45 78 40 17\n"

unfoldable pub known : List Known
known =
    record {
      number = 1;
      bytes = p1;
      outcome = timed (
          pos 60 ∷ pos 60 ∷ pos 25 ∷ pos 60 ∷ pos 20 ∷ pos 30 ∷
          pos 60 ∷ pos 80 ∷ pos 35 ∷ pos 80 ∷ pos 30 ∷ pos 10 ∷ []) 0 0
          "timed 2 0 0\n0 60 60 25 60 20 30\n1 60 80 35 80 30 10\n";
    } ∷
    record { number = 2; bytes = p2; outcome = growing (1 ∷ 0 ∷ []) (pos 1) "loop 2 1\n1\n0\n" } ∷
    record {
      number = 3;
      bytes = p3;
      outcome = timed (
          pos 60 ∷ pos 60 ∷ pos 25 ∷ pos 60 ∷ pos 20 ∷ pos 30 ∷
          pos 60 ∷ pos 90 ∷ pos 35 ∷ pos 90 ∷ pos 30 ∷ pos 0 ∷ []) 0 0
          "timed 2 0 0\n0 60 60 25 60 20 30\n1 60 90 35 90 30 0\n";
    } ∷
    record {
      number = 4;
      bytes = p4;
      outcome = timed (
          pos 60 ∷ pos 60 ∷ pos 15 ∷ pos 60 ∷ pos 10 ∷ pos 30 ∷
          pos 60 ∷ pos 100 ∷ pos 35 ∷ pos 100 ∷ pos 30 ∷ minus 10 ∷ []) 1 0
          "timed 2 1 0\n0 60 60 15 60 10 30\n1 60 100 35 100 30 -10\n";
    } ∷
    record {
      number = 5;
      bytes = p5;
      outcome = timed (
          pos 60 ∷ pos 60 ∷ pos 60 ∷ pos 60 ∷ pos 55 ∷ pos 30 ∷
          pos 80 ∷ pos 80 ∷ pos 80 ∷ pos 80 ∷ pos 75 ∷ pos 10 ∷ []) 0 0
          "timed 2 0 0\n0 60 60 60 60 55 30\n1 80 80 80 80 75 10\n";
    } ∷
    record { number = 6; bytes = p1; outcome = path 0 0 (1 ∷ 0 ∷ []) } ∷
    record {
      number = 7;
      bytes = p7;
      outcome = timed (
          pos 100 ∷ pos 100 ∷ mark ∷ mark ∷ mark ∷ mark ∷
          pos 100 ∷ pos 100 ∷ pos 10 ∷ pos 88 ∷ pos 0 ∷ pos 2 ∷ []) 0 0
          "timed 2 0 0\n0 100 100 - - - -\n1 100 100 10 88 0 2\n";
    } ∷
    record {
      number = 8;
      bytes = p8;
      outcome = timed (
          pos 100 ∷ pos 100 ∷ mark ∷ mark ∷ mark ∷ mark ∷
          pos 100 ∷ pos 100 ∷ pos 9 ∷ pos 88 ∷ minus 1 ∷ pos 2 ∷ []) 0 1
          "timed 2 0 1\n0 100 100 - - - -\n1 100 100 9 88 -1 2\n";
    } ∷
    record {
      number = 9;
      bytes = p9;
      outcome = timed (
          pos 60 ∷ pos 60 ∷ mark ∷ mark ∷ mark ∷ mark ∷
          pos 60 ∷ pos 90 ∷ pos 60 ∷ pos 90 ∷ pos 60 ∷ pos 10 ∷
          pos 60 ∷ pos 120 ∷ pos 60 ∷ pos 120 ∷ pos 60 ∷ minus 20 ∷ []) 1 0
          "timed 3 1 0\n0 60 60 - - - -\n1 60 90 60 90 60 10\n2 60 120 60 120 60 -20\n";
    } ∷
    record { number = 9; bytes = p9; outcome = path 2 0 (0 ∷ 1 ∷ []) } ∷
    record { number = 10; bytes = p10; outcome = timed [] 0 0 "timed 0 0 0\n" } ∷
    record { number = 11; bytes = p11; outcome = of_the_pair } ∷
    record { number = 12; bytes = p12; outcome = of_the_pair } ∷
    record {
      number = 13;
      bytes = p13;
      outcome = timed (
          pos 50 ∷ pos 50 ∷ minus 35 ∷ minus 25 ∷ minus 40 ∷ pos 115 ∷
          pos 50 ∷ pos 50 ∷ minus 25 ∷ pos 15 ∷ minus 30 ∷ pos 75 ∷ []) 0 2
          "timed 2 0 2\n0 50 50 -35 -25 -40 115\n1 50 50 -25 15 -30 75\n";
    } ∷
    record { number = 14; bytes = p14; outcome = of_the_way_round } ∷
    record { number = 15; bytes = p15; outcome = of_the_way_round } ∷
    record { number = 14; bytes = p14; outcome = path 2 2 (0 ∷ 1 ∷ 2 ∷ []) } ∷
    record { number = 15; bytes = p15; outcome = path 2 2 (0 ∷ 1 ∷ 2 ∷ []) } ∷
    []
