-- Ranks on the tables, found by sweeps.
use Rattle.std.specs.Prelude.{◌≡◌, Bool, true, false, cond, List, ◌⊎◌, ℕ, zero, suc, ◌+◌, ◌<◌, ◌≤◌, eqb, length, get_or, set}
use Rattle.flow.specs.Rank.{Lowest}
use Rattle.tables.specs.Inside.Net.{Arcs, Net, times_of, brought, Shaped, Ranged}
use Rattle.tables.specs.Inside.Sizes.{NODES}

-- k arcs lead from a launch to i, each giving a departure
abbrev pub ReachesN : Net → (ℕ → ℕ) → ℕ → ℕ → Type 0
ReachesN n D i zero = D i ≡ n.launch i
ReachesN n D i (suc k) = (a : ℕ) × (n.first i ≤ a) × (a < n.first (i + 1)) × (n.latch i ≡ true) × (brought n.arcs D a ≡ D i)
    × ReachesN n D (n.arcs.source a) k

-- an arc of the range gives the time t, from a node of rank r
abbrev pub GivenBy : Arcs → (ℕ → ℕ) → (ℕ → ℕ) → ℕ → ℕ → ℕ → ℕ → Type 0
GivenBy g D R t r from to = (a : ℕ) × (from ≤ a) × (a < to) × (brought g D a ≡ t) × (R (g.source a) ≡ r)

-- a number that no rank is
abbrev pub NONE : ℕ
NONE = 65535

-- ranks below r are known: x is the rank of i, or i has none below r
abbrev pub RankedTo : Net → (ℕ → ℕ) → ℕ → ℕ → ℕ → Type 0
RankedTo n D r i x = ((x < r) × Lowest (ReachesN n D i) x) ⊎ ((x ≡ NONE) × ((q : ℕ) → q < r → ReachesN n D i q → ⊥))

-- node i was looked at in the sweep after rank r: it has the next rank, or nothing changed
pub data Ranked (n : Net) (D : ℕ → ℕ) (i r : ℕ) (ranks : List ℕ) : Bool → List ℕ → Type 0 where
  next : get_or ranks i 0 ≡ NONE → n.latch i ≡ true → GivenBy n.arcs D (times_of ranks) (D i) r (n.first i) (n.first (i + 1)) →
      Ranked n D i r ranks true (set ranks i (suc r))
  known : (get_or ranks i 0 ≡ NONE → ⊥) → Ranked n D i r ranks false ranks
  none : get_or ranks i 0 ≡ NONE → (n.latch i ≡ true → GivenBy n.arcs D (times_of ranks) (D i) r (n.first i) (n.first (i + 1)) → ⊥) →
      Ranked n D i r ranks false ranks

-- a sweep can start after rank r
pub record SweepReady (n : Net) (l m : ℕ) (D : ℕ → ℕ) (r : ℕ) (ranks : List ℕ) : Type 0 where
  pub shaped : Shaped n l m
  pub ranged : Ranged l D
  pub few : r < 65534
  pub long : length ranks ≡ NODES
  pub all : (j : ℕ) → j < l → RankedTo n D (suc r) j (get_or ranks j 0)

-- before the first sweep
abbrev pub first_rank : (ℕ → ℕ) → (ℕ → ℕ) → ℕ → ℕ
first_rank launch D i = cond (eqb (D i) (launch i)) 0 NONE

-- the first i nodes were looked at, from the table `before` on
pub record Sweeping (n : Net) (D : ℕ → ℕ) (r : ℕ) (before after : List ℕ) (i : ℕ) (found : Bool) : Type 0 where
  pub long : length after ≡ length before
  pub done : (j : ℕ) → j < i → RankedTo n D (suc (suc r)) j (get_or after j 0)
  pub rest : (j : ℕ) → i ≤ j → get_or after j 0 ≡ get_or before j 0
  pub each : (j : ℕ) → (get_or after j 0 ≡ get_or before j 0) ⊎ ((get_or before j 0 ≡ NONE) × (get_or after j 0 ≡ suc r))
  pub still : found ≡ false → (j : ℕ) → j < i → get_or after j 0 ≡ get_or before j 0

-- ranks below the level are known, and no node has that rank, or the level is above the number of nodes
pub record RanksUpTo (n : Net) (l : ℕ) (D R : ℕ → ℕ) : Type 0 where
  pub level : ℕ
  pub all : (j : ℕ) → j < l → RankedTo n D level j (R j)
  pub top : (l < level) ⊎ ((j : ℕ) → j < l → Lowest (ReachesN n D j) level → ⊥)
