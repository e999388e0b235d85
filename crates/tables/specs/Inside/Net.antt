-- A flow as the engine holds it: tables of natural numbers, times raised by a constant, the arcs into a node lying side by side.
use Rattle.std.specs.Prelude.{Bool, true, false, cond, List, ℕ, zero, suc, ◌+◌, ◌-◌, ◌<◌, ◌≤◌, max, min, eqb, get_or}
use Rattle.ticks.specs.Inside.Raised.{RAISE, FAR, SIGNED}
use Rattle.flow.specs.Flow.{Side, late, early}
use Rattle.tables.specs.Inside.Sizes.{ARCS, NODES}

-- code says by a flag which side it works out
abbrev pub side_of : Bool → Side
side_of true = late
side_of false = early

-- a table of times, read as a function
abbrev pub times_of : List ℕ → ℕ → ℕ
times_of table i = get_or table i 0

-- and a table of flags
abbrev pub flags_of : List Bool → ℕ → Bool
flags_of table i = get_or table i false

-- of each arc: the node that it leaves, and its weight with a cycle added, which is never negative
pub record Arcs : Type 0 where
  pub source : ℕ → ℕ
  pub lead : ℕ → ℕ
  pub cycle : ℕ

abbrev pub arcs_of : List ℕ → List ℕ → ℕ → Arcs
arcs_of source lead cycle = record { source = times_of source; lead = times_of lead; cycle = cycle }

pub record Net : Type 0 where
  pub arcs : Arcs
  -- the arcs into node i are those from first i up to first (i + 1)
  pub first : ℕ → ℕ
  -- of a node: its launch, raised, and whether it is a latch
  pub launch : ℕ → ℕ
  pub latch : ℕ → Bool

abbrev pub net_of : Arcs → List ℕ → List ℕ → List Bool → Net
net_of arcs first launch latch = record { arcs = arcs; first = times_of first; launch = times_of launch; latch = flags_of latch }

-- tables with no launches: raising asks for none
abbrev pub web_of : Arcs → List ℕ → List Bool → Net
web_of arcs first latch = record { arcs = arcs; first = times_of first; launch = λ i. 0; latch = flags_of latch }

-- the same tables with other launches
abbrev pub launching : Net → (ℕ → ℕ) → Net
launching n launch = record { arcs = n.arcs; first = n.first; launch = launch; latch = n.latch }

-- what an arc brings, raised
abbrev pub brought : Arcs → (ℕ → ℕ) → ℕ → ℕ
brought g D a = D (g.source a) + g.lead a - g.cycle

abbrev pub better : Side → ℕ → ℕ → ℕ
better late = max
better early = min

-- where no arc has come yet: below every time for the late side, above every time for the early one
abbrev pub unseen : Side → ℕ
unseen late = 0
unseen early = SIGNED

-- the best of k arcs from arc a on
unfoldable pub best : Side → Arcs → (ℕ → ℕ) → ℕ → ℕ → ℕ
best s g D a zero = unseen s
best s g D a (suc k) = better s (best s g D a k) (brought g D (a + k))

abbrev pub degree : Net → ℕ → ℕ
degree n i = n.first (i + 1) - n.first i

-- the arrival at node i, raised, or `unseen`
abbrev pub arrival_n : Side → Net → (ℕ → ℕ) → ℕ → ℕ
arrival_n s n D i = best s n.arcs D (n.first i) (degree n i)

-- when a node departs: a latch with an arc in at the greater of arrival and launch
abbrev pub departing : Bool → ℕ → ℕ → ℕ → ℕ
departing latch degree arrival launch = cond latch (cond (eqb degree 0) launch (max arrival launch)) launch

unfoldable pub depart_n : Side → Net → (ℕ → ℕ) → ℕ → ℕ
depart_n s n D i = departing (n.latch i) (degree n i) (arrival_n s n D i) (n.launch i)

-- the tables of l nodes and m arcs stay within their bounds
pub record Shaped (n : Net) (l m : ℕ) : Type 0 where
  pub nodes : l ≤ NODES
  pub count : m ≤ ARCS
  pub sources : (a : ℕ) → a < m → n.arcs.source a < l
  pub rises : (i : ℕ) → i < l → n.first i ≤ n.first (i + 1)
  pub ends : (i : ℕ) → i < l → n.first (i + 1) ≤ m
  pub cycle : n.arcs.cycle < RAISE

-- times that can be reckoned with: none below what they are raised by, none near the mark of "no arc yet"
pub record Ranged (l : ℕ) (D : ℕ → ℕ) : Type 0 where
  pub low : (i : ℕ) → i < l → RAISE ≤ D i
  pub high : (i : ℕ) → i < l → D i < FAR
