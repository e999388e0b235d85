-- The arc that gives an arrival, and one flow within another.
use Rattle.std.specs.Prelude.{◌≡◌, ◌≢◌, ℕ, ◌<◌, ℤ}
use Rattle.flow.specs.Flow.{Flow, Side, late, early, brings}
use Rattle.flow.specs.Bounds.{Inside}

-- D lies inside E at every node of f
abbrev pub Bounded : Side → Flow → (ℕ → ℤ) → (ℕ → ℤ) → Type 0
Bounded s f D E = (i : ℕ) → i < f.nodes → Inside s (D i) (E i)

-- D and E are the same at every node of f
abbrev pub Agree : Flow → (ℕ → ℤ) → (ℕ → ℤ) → Type 0
Agree f D E = (i : ℕ) → i < f.nodes → D i ≡ E i

-- of the first n arcs, a is the lowest-numbered that brings the time t to node i, and t bounds what any of them brings there
pub record Gives (s : Side) (f : Flow) (D : ℕ → ℤ) (i n : ℕ) (t : ℤ) (a : ℕ) : Type 0 where
  pub here : a < n
  pub enters : f.target a ≡ i
  pub gives : brings f D a ≡ t
  pub bounds : (b : ℕ) → b < n → f.target b ≡ i → Inside s (brings f D b) t
  pub lowest : (b : ℕ) → b < a → f.target b ≡ i → brings f D b ≢ t

-- the arc b of f has the ends of the arc a of g, and a weight that bounds a's
pub record Covers (s : Side) (g : Flow) (a : ℕ) (f : Flow) (b : ℕ) : Type 0 where
  pub here : b < f.arcs
  pub source : f.source b ≡ g.source a
  pub target : f.target b ≡ g.target a
  pub weight : Inside s (g.weight a) (f.weight b)

-- a node that an arc of f enters is entered by an arc of g
abbrev pub Kept : Flow → Flow → Type 0
Kept g f = (b : ℕ) → b < f.arcs → (a : ℕ) × (a < g.arcs) × (g.target a ≡ f.target b)

-- only the early side asks for that: a latch without an arrival departs at its launch, the earliest that it can
abbrev pub Keeps : Side → Flow → Flow → Type 0
Keeps late g f = Unit {0}
Keeps early g f = Kept g f

-- g within f, on one side: the same nodes, and f's launches and arcs bound g's
pub record Within (s : Side) (g f : Flow) : Type 0 where
  pub nodes : g.nodes ≡ f.nodes
  pub latch : (i : ℕ) → i < g.nodes → g.latch i ≡ f.latch i
  pub launch : Bounded s g g.launch f.launch
  pub cover : (a : ℕ) → a < g.arcs → (b : ℕ) × Covers s g a f b
  pub keeps : Keeps s g f
