-- When tables hold a flow.
use Rattle.std.specs.Prelude.{◌≡◌, ℕ, ◌+◌, ◌<◌, ◌≤◌, ℤ}
use Rattle.std.proofs.Math.IntN.{sub_ℕ}
use Rattle.ticks.specs.Inside.Raised.{RAISE, lower}
use Rattle.flow.specs.Flow.{Flow}
use Rattle.tables.specs.Inside.Net.{Arcs, Net}

-- the arcs into a node lie side by side: those into i are the ones from first i up to first (i + 1)
pub record SideBySide (first target : ℕ → ℕ) (nodes arcs : ℕ) : Type 0 where
  pub rises : (i : ℕ) → i < nodes → first i ≤ first (i + 1)
  pub within : (i : ℕ) → i < nodes → first (i + 1) ≤ arcs
  pub inside : (i a : ℕ) → i < nodes → first i ≤ a → a < first (i + 1) → target a ≡ i
  pub outside : (i a : ℕ) → i < nodes → a < arcs → target a ≡ i → (first i ≤ a) × (a < first (i + 1))

-- the tables hold the arcs of the flow f: all that arrivals take from them
pub record HoldsArcs (g : Arcs) (first : ℕ → ℕ) (f : Flow) : Type 0 where
  pub source : (a : ℕ) → a < f.arcs → g.source a ≡ f.source a
  pub weight : (a : ℕ) → a < f.arcs → sub_ℕ (g.lead a) g.cycle ≡ f.weight a
  pub small : (a : ℕ) → a < f.arcs → g.lead a < RAISE
  pub cycle : g.cycle < RAISE
  pub into : SideBySide first f.target f.nodes f.arcs

-- and its nodes too
pub record Models (n : Net) (f : Flow) : Type 0 where
  pub arcs : HoldsArcs n.arcs n.first f
  pub launch : (i : ℕ) → i < f.nodes → lower (n.launch i) ≡ f.launch i
  pub latch : (i : ℕ) → i < f.nodes → n.latch i ≡ f.latch i

-- the times that raised ones stand for
abbrev pub lowered : (ℕ → ℕ) → ℕ → ℤ
lowered D i = lower (D i)
