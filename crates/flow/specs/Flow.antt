-- A flow: arcs that carry times between nodes, and the equations that the nodes' departures have to fit.
use Rattle.std.specs.Prelude.{◌≡◌, Bool, true, false, ℕ, zero, suc, ◌<◌, eqb, ℤ, ◌+ℤ◌, ◌≤ℤ◌}
use Rattle.ticks.specs.Extremes.{max_ℤ, min_ℤ}

-- nodes and arcs are numbered from 0. A node's launch is the time at which it departs by itself; a latch passes a later
-- arrival on, any other node departs at its launch
pub record Flow : Type 0 where
  pub nodes : ℕ
  pub arcs : ℕ
  pub source : ℕ → ℕ
  pub target : ℕ → ℕ
  pub weight : ℕ → ℤ
  pub launch : ℕ → ℤ
  pub latch : ℕ → Bool

-- arcs lead from node to node
pub record Good (f : Flow) : Type 0 where
  pub leaves : (a : ℕ) → a < f.arcs → f.source a < f.nodes
  pub enters : (a : ℕ) → a < f.arcs → f.target a < f.nodes

-- of several arrivals the late side takes the last, the early side the first
pub data Side : Type 0 where
  late early : Side

abbrev pub pick : Side → ℤ → ℤ → ℤ
pick late = max_ℤ
pick early = min_ℤ

-- an arrival: none where no arc leads in
pub data When : Type 0 where
  none : When
  at : ℤ → When

-- the arrival w, and one more arc that brings t if the test holds
abbrev pub join : Side → Bool → ℤ → When → When
join s false t w = w
join s true t none = at t
join s true t (at u) = at (pick s u t)

-- what the arc a brings, where the nodes depart at D
abbrev pub brings : Flow → (ℕ → ℤ) → ℕ → ℤ
brings f D a = D (f.source a) +ℤ f.weight a

-- what the first n arcs bring to node i
unfoldable pub into : Side → Flow → (ℕ → ℤ) → ℕ → ℕ → When
into s f D i zero = none
into s f D i (suc n) = join s (eqb (f.target n) i) (brings f D n) (into s f D i n)

unfoldable pub arrival : Side → Flow → (ℕ → ℤ) → ℕ → When
arrival s f D i = into s f D i f.arcs

-- when a node departs: is it a latch, its launch, its arrival
abbrev pub departs : Bool → ℤ → When → ℤ
departs false l w = l
departs true l none = l
departs true l (at t) = max_ℤ t l

unfoldable pub next : Side → Flow → (ℕ → ℤ) → ℕ → ℤ
next s f D i = departs (f.latch i) (f.launch i) (arrival s f D i)

-- D is a solution of the equations
abbrev pub Fits : Side → Flow → (ℕ → ℤ) → Type 0
Fits s f D = (i : ℕ) → i < f.nodes → D i ≡ next s f D i

-- D is the least solution, at every node at once
pub record Least (s : Side) (f : Flow) (D : ℕ → ℤ) : Type 0 where
  pub fits : Fits s f D
  pub least : (E : ℕ → ℤ) → Fits s f E → (i : ℕ) → i < f.nodes → D i ≤ℤ E i
