-- A circuit: the numbers that an image holds, each under the name that docs/RULES.md gives it.
use Rattle.std.specs.Prelude.{List, ℕ}
use Rattle.image.specs.Valid.{image_in, phase_in, synchronizer_in, arc_in}

pub record Circuit : Type 0 where
  pub cycle : ℕ
  -- how many of each
  pub phases : ℕ
  pub synchronizers : ℕ
  pub arcs : ℕ
  -- of a phase: closing time e and active length T
  pub closing : ℕ → ℕ
  pub active : ℕ → ℕ
  -- of a synchronizer: S and H are setup and hold
  pub phase : ℕ → ℕ
  pub kind : ℕ → ℕ
  pub setup : ℕ → ℕ
  pub hold : ℕ → ℕ
  pub least : ℕ → ℕ
  pub greatest : ℕ → ℕ
  -- of an arc, and its own delays
  pub from : ℕ → ℕ
  pub to : ℕ → ℕ
  pub shortest : ℕ → ℕ
  pub longest : ℕ → ℕ

unfoldable pub circuit_of : List ℕ → Circuit
circuit_of bytes = record {
  cycle = (image_in bytes).cycle;
  phases = (image_in bytes).phases;
  synchronizers = (image_in bytes).synchronizers;
  arcs = (image_in bytes).arcs;
  closing = λ p. (phase_in bytes p).closing;
  active = λ p. (phase_in bytes p).active;
  phase = λ i. (synchronizer_in bytes i).phase;
  kind = λ i. (synchronizer_in bytes i).kind;
  setup = λ i. (synchronizer_in bytes i).setup;
  hold = λ i. (synchronizer_in bytes i).hold;
  least = λ i. (synchronizer_in bytes i).least;
  greatest = λ i. (synchronizer_in bytes i).greatest;
  from = λ a. (arc_in bytes a).from;
  to = λ a. (arc_in bytes a).to;
  shortest = λ a. (arc_in bytes a).least;
  longest = λ a. (arc_in bytes a).greatest;
}
