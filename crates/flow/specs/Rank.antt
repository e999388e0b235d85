-- Rank: the fewest arcs over which a node's departure is reached from a launch.
use Rattle.std.specs.Prelude.{◌≡◌, true, ℕ, zero, suc, ◌<◌, ℤ}
use Rattle.flow.specs.Flow.{Flow, brings}

-- the arc a brings the latch i the time t
pub record Carries (f : Flow) (D : ℕ → ℤ) (i : ℕ) (t : ℤ) (a : ℕ) : Type 0 where
  pub here : a < f.arcs
  pub enters : f.target a ≡ i
  pub holds : f.latch i ≡ true
  pub carries : brings f D a ≡ t

-- it gives the latch's departure
abbrev pub Tight : Flow → (ℕ → ℤ) → ℕ → ℕ → Type 0
Tight f D i a = Carries f D i (D i) a

-- n arcs lead from a launch to i, each giving a departure
abbrev pub Reaches : Flow → (ℕ → ℤ) → ℕ → ℕ → Type 0
Reaches f D i zero = D i ≡ f.launch i
Reaches f D i (suc n) = (a : ℕ) × Tight f D i a × Reaches f D (f.source a) n

-- n is the least number of which P holds
pub record Lowest (P : ℕ → Type 0) (n : ℕ) : Type 0 where
  pub holds : P n
  pub lowest : (m : ℕ) → m < n → P m → ⊥

abbrev pub Rank : Flow → (ℕ → ℤ) → ℕ → ℕ → Type 0
Rank f D i = Lowest (Reaches f D i)
