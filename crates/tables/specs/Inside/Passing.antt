-- Passes over all nodes, each of them raised in place.
use Rattle.std.specs.Prelude.{◌≡◌, Bool, true, false, List, ℕ, ◌+◌, ◌-◌, ◌*◌, ◌<◌, ◌≤◌, ℤ, length, get_or}
use Rattle.flow.specs.Flow.{Flow, Good, Side, late, early}
use Rattle.flow.specs.Walk.{GrowingRing, Shown}
use Rattle.tables.specs.Inside.Net.{Net, times_of, launching, Ranged}
use Rattle.tables.specs.Inside.Models.{Models}
use Rattle.tables.specs.Inside.Raise.{raised, Risen, Passed, Room}
use Rattle.tables.specs.Inside.Parents.{Course}
use Rattle.tables.specs.Inside.Sizes.{GROWS, NODES}

-- place z of a pass over l places that goes to, or fro
abbrev pub to_or_fro : Bool → ℕ → ℕ → ℕ
to_or_fro true l z = z
to_or_fro false l z = l - 1 - z

-- the node at that place, where the pass goes over an order
abbrev pub along : List ℕ → Bool → ℕ → ℕ → ℕ
along order forth l z = times_of order (to_or_fro forth l z)

-- E is as D was
abbrev pub Unmoved : ℕ → (ℕ → ℕ) → (ℕ → ℕ) → Type 0
Unmoved l D E = (j : ℕ) → j < l → E j ≡ D j

-- none can be raised
abbrev pub Still : Side → Net → ℕ → (ℕ → ℕ) → Type 0
Still s n l D = (i : ℕ) → i < l → raised s n D i ≡ D i

-- what has risen to D has risen to E, whatever the launches were
abbrev pub Onward : Side → Net → ℕ → (ℕ → ℕ) → (ℕ → ℕ) → Type 0
Onward s n l D E = (launch : ℕ → ℕ) → Risen s n l launch D → Risen s n l launch E

-- the nodes at the places before `start` cannot be raised
abbrev pub Rested : Side → Net → (ℕ → ℕ) → (ℕ → ℕ) → ℕ → Type 0
Rested s n D node start = (z : ℕ) → z < start → raised s n D (node z) ≡ D (node z)

-- of a pass over the given nodes x were tried, or rested, from the departures D on
pub record Swept (s : Side) (n : Net) (l : ℕ) (D node : ℕ → ℕ) (x : ℕ) (departs : List ℕ) : Type 0 where
  pub long : length departs ≡ NODES
  pub onward : Onward s n l D (times_of departs)
  pub later : (j : ℕ) → j < l → D j ≤ get_or departs j 0
  pub tried : (z : ℕ) → z < x → raised s n D (node z) ≤ get_or departs (node z) 0
  pub room : (b : ℕ) → Room l (b + x) D → Room l b (times_of departs)

-- and `last` is the last place at which one was raised, or l: those behind it rest
pub record Sweep (s : Side) (n : Net) (l : ℕ) (D node : ℕ → ℕ) (x : ℕ) (departs : List ℕ) (last : ℕ) : Type 0 where
  pub swept : Swept s n l D node x departs
  pub rests : (z : ℕ) → last < z → z < x → raised s n (times_of departs) (node z) ≡ get_or departs (node z) 0
  pub same : l ≤ last → Unmoved l D (times_of departs)

-- the first passes, which note nothing: they may have settled, and leave room for l passes more
pub record Settling (s : Side) (n : Net) (l : ℕ) (D : ℕ → ℕ) (departs : List ℕ) (done : Bool) : Type 0 where
  pub long : length departs ≡ NODES
  pub onward : Onward s n l D (times_of departs)
  pub room : Room l GROWS (times_of departs)
  pub still : done ≡ true → Still s n l (times_of departs)

-- the same of a pass that notes parents; `last` is the last node that was raised, or l
pub record Passing (s : Side) (n : Net) (l : ℕ) (D P node : ℕ → ℕ) (x : ℕ) (departs parents : List ℕ) (last : ℕ) : Type 0 where
  pub swept : Swept s n l D node x departs
  pub long : length parents ≡ NODES
  pub course : (base : ℕ → ℕ) → Course n l base D P → Course n l base (times_of departs) (times_of parents)
  pub rose : last < l → D last < get_or departs last 0
  pub same : l ≤ last → Unmoved l D (times_of departs)

-- after k passes from the base, with none of l that found nothing
pub record Climbing (s : Side) (n : Net) (l : ℕ) (base : ℕ → ℕ) (departs parents : List ℕ) (k : ℕ) : Type 0 where
  pub few : k ≤ l
  pub long : (length departs ≡ NODES) × (length parents ≡ NODES)
  pub onward : Onward s n l base (times_of departs)
  pub course : Course n l base (times_of departs) (times_of parents)
  pub passed : Passed s n l base k (times_of departs)
  pub room : Room l ((l - k) * NODES) (times_of departs)

-- of every flow that the tables hold, with whatever launches
abbrev pub OfFlows : Net → ℕ → (Flow → (ℕ → ℕ) → Type 0) → Type 0
OfFlows n l P = (launch : ℕ → ℕ) (f : Flow) → Good f → Models (launching n launch) f → f.nodes ≡ l → P f launch

-- what the early side is told of a flow, and the late side finds out by itself
abbrev pub Unringed : Side → Flow → Type 0
Unringed late f = Unit {0}
Unringed early f = GrowingRing f → ⊥

-- D did not rise from the launches of a flow that the tables hold, unless a ring grows that the late side would have found
abbrev pub Never : Side → Net → ℕ → (ℕ → ℕ) → Type 0
Never s n l D = OfFlows n l (λ f launch. Risen s n l launch D → Unringed s f → ⊥)

-- how passes from D end
pub data Ended (s : Side) (n : Net) (l : ℕ) (D : ℕ → ℕ) (departs : List ℕ) : ℕ → ℤ → List ℕ → List ℕ → Type 0 where
  -- none can be raised any more: no ring is counted, the buffer stays
  settled : {gain : ℤ} {arcs : List ℕ} → Onward s n l D (times_of departs) → Ranged l (times_of departs) → Still s n l (times_of departs) → Ended s n l D departs 0 gain arcs arcs
  -- a ring grows, and is shown in the buffer
  ringed : {count : ℕ} {gain : ℤ} {before after : List ℕ} → 0 < count → OfFlows n l (λ f launch. Shown f count gain before after) →
      Ended s n l D departs count gain before after
  -- pass l still raised one, and no ring was found. That cannot be: for the late side never, for the early side where none grows
  beyond : {gain : ℤ} {arcs : List ℕ} → Never s n l D → Ended s n l D departs 0 gain arcs arcs
