-- Two flows that are the same wherever they have nodes and arcs.
use Rattle.std.specs.Prelude.{◌≡◌, ℕ, ◌<◌}
use Rattle.flow.specs.Flow.{Flow}

pub record Same (f g : Flow) : Type 0 where
  pub nodes : g.nodes ≡ f.nodes
  pub arcs : g.arcs ≡ f.arcs
  pub source : (a : ℕ) → a < f.arcs → g.source a ≡ f.source a
  pub target : (a : ℕ) → a < f.arcs → g.target a ≡ f.target a
  pub weight : (a : ℕ) → a < f.arcs → g.weight a ≡ f.weight a
  pub launch : (i : ℕ) → i < f.nodes → g.launch i ≡ f.launch i
  pub latch : (i : ℕ) → i < f.nodes → g.latch i ≡ f.latch i
