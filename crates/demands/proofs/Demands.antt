-- The three demands hold, for every image and all buffers.
use mathlib.Core.List.{List}
use Prim.Native.Nat.{ℕ}
use lib.IntN.{ℤ}
use Rattle.timing.proofs.OnePath.{path_only, path_some}
use Rattle.demands.specs.Demands.{Demand1, Demand2, Demand3}
use Rattle.demands.proofs.ByAnswer.{timed_defined}
use Rattle.demands.proofs.Narrowing.{narrowed_call}
use Rattle.demands.proofs.OneOutcome.{timing_one, report_one}
use Rattle.demands.proofs.SomeOutcome.{timing_some, report_some}
use Rattle.demands.proofs.Loops.{loop_exactly, loop_ring}
use Rattle.demands.proofs.Explains.{path_explains}
use Rattle.demands.proofs.Refusals.{timing_refuses, timing_keeps, path_refuses, path_keeps}

pub demand_1 : (bytes : List ℕ) (numbers : List ℤ) (arcs text : List ℕ) (i : ℕ) → Demand1 bytes numbers arcs text i
demand_1 bytes numbers arcs text i = record {
  timing_some = timing_some bytes numbers arcs;
  path_some = path_some bytes i arcs;
  report_some = report_some bytes text;
  timing_one = timing_one bytes numbers arcs;
  path_one = path_only bytes i arcs;
  report_one = report_one bytes text;
  timing_refuses = timing_refuses bytes numbers arcs;
  path_refuses = path_refuses bytes i arcs;
  timing_keeps = timing_keeps bytes numbers arcs;
  path_keeps = path_keeps bytes i arcs;
}

pub demand_2 : (bytes : List ℕ) (numbers : List ℤ) (arcs : List ℕ) → Demand2 bytes numbers arcs
demand_2 bytes numbers arcs = record {
  defined = timed_defined bytes numbers arcs;
  explained = path_explains bytes numbers arcs _ _;
  loop_exactly = loop_exactly bytes numbers arcs;
  ring = loop_ring bytes numbers arcs;
}

pub demand_3 : (first second : List ℕ) (numbers lent : List ℤ) (arcs room : List ℕ) → Demand3 first second numbers lent arcs room
demand_3 first second numbers lent arcs room = record { calmer = narrowed_call first second numbers lent arcs room }
