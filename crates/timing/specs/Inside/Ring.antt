-- What the search for a growing ring keeps: the walk back over parents.
use Rattle.std.specs.Prelude.{◌≡◌, List, [], ◌∷◌, ◌++◌, ◌≢◌, ℕ, suc, ◌+◌, ◌-◌, ◌*◌, ◌<◌, ◌≤◌, ℤ, pos, Option, None, Some, length, get_or, take, drop}
use Rattle.std.proofs.Math.IntN.{sub_ℕ}
pub use Rattle.flow.specs.Inside.WalkBack.{route_back}
use Rattle.tables.specs.Inside.Net.{times_of}
use Rattle.tables.specs.Inside.Parents.{Notes, noted}
use Rattle.tables.specs.Inside.Sizes.{NODES}
use Rattle.timing.specs.declared.ring.Ring.{Ring}
use Rattle.timing.specs.declared.web.Web.{Web}
use Rattle.timing.specs.Inside.Web.{net_in}

-- the first node that comes a second time
pub record Repeats (node : ℕ → ℕ) (l first second : ℕ) : Type 0 where
  pub order : first < second
  pub bound : second ≤ l
  pub same : node first ≡ node second
  pub fresh : (y : ℕ) → y < second → (x : ℕ) → x < y → node x ≢ node y

-- each place before d is noted under its node, and nothing else is
pub record Placed (node : ℕ → ℕ) (d : ℕ) (places : List (Option ℕ)) : Type 0 where
  pub long : length places ≡ NODES
  pub noted : (x : ℕ) → x < d → get_or places (node x) None ≡ Some x
  pub real : (i x : ℕ) → get_or places i None ≡ Some x → (x < d) × (node x ≡ i)

-- of the places after `first`, up to `second`, `low` has the lowest node
pub record LowestBetween (node : ℕ → ℕ) (first second low : ℕ) : Type 0 where
  pub above : first < low
  pub below : low ≤ second
  pub lowest : (x : ℕ) → first < x → x ≤ second → node low ≤ node x

-- a buffer with `count` arcs of a walk back written at `at`
abbrev pub written : (ℕ → ℕ) → ℕ → ℕ → ℕ → List ℕ → List ℕ
written arc high count at buffer = take at buffer ++ (route_back arc high count ++ drop (at + count) buffer)

-- the leads of a list of arcs, added up
abbrev pub leads : (ℕ → ℕ) → List ℕ → ℕ
leads lead [] = 0
leads lead (a ∷ p) = lead a + leads lead p

-- from the lowest node to the repeated one, and from there to the lowest node
abbrev pub turned : (ℕ → ℕ) → ℕ → ℕ → ℕ → List ℕ
turned arc first low second = route_back arc low (low - first) ++ route_back arc second (second - low)

-- the walk's first closed stretch, turned and written out
pub record Turned (node arc lead : ℕ → ℕ) (cycle l count : ℕ) (total : ℤ) (before after : List ℕ) : Type 0 where
  pub first : ℕ
  pub second : ℕ
  pub low : ℕ
  pub repeats : Repeats node l first second
  pub lowest : LowestBetween node first second low
  pub counted : count ≡ second - first
  pub gains : total ≡ sub_ℕ (leads lead (turned arc first low second)) ((second - first) * cycle)
  pub written : after ≡ turned arc first low second ++ drop (second - first) before

-- a walk back over parents from u: d arcs, each from a node that departs after its base
pub record Climbs (k : Notes) (l u d : ℕ) (nodes trail : ℕ → ℕ) (node : ℕ) : Type 0 where
  pub few : d ≤ l
  pub here : node < l
  pub start : d ≡ 0 → node ≡ u
  pub begin : 0 < d → nodes 0 ≡ u
  pub small : (x : ℕ) → x < d → nodes x < l
  pub raised : (x : ℕ) → x < d → k.departs (nodes x) ≡ k.base (nodes x) → ⊥
  pub arc : (x : ℕ) → x < d → trail x ≡ k.parents (nodes x)
  pub onto : (x : ℕ) → suc x < d → k.source (trail x) ≡ nodes (suc x)
  pub last : (x : ℕ) → suc x ≡ d → k.source (trail x) ≡ node

-- it came to an end: after l arcs, or at a node that departs at its base
pub record WalkedBack (k : Notes) (l u d : ℕ) (nodes trail : ℕ → ℕ) : Type 0 where
  pub walk : Climbs k l u d nodes trail (nodes d)
  pub ends : d < l → k.departs (nodes d) ≡ k.base (nodes d)

-- the walk of l arcs back from u, and its first closed stretch written out
pub record Looped (k : Notes) (lead : ℕ → ℕ) (cycle l u count : ℕ) (total : ℤ) (before after : List ℕ) : Type 0 where
  pub nodes : ℕ → ℕ
  pub trail : ℕ → ℕ
  pub walk : Climbs k l u l nodes trail (nodes l)
  pub turned : Turned nodes trail lead cycle l count total before after

-- the walk comes to a node that departs at its base
pub record Short (k : Notes) (l u : ℕ) : Type 0 where
  pub length : ℕ
  pub nodes : ℕ → ℕ
  pub trail : ℕ → ℕ
  pub walk : WalkedBack k l u length nodes trail
  pub ends : length < l

-- what a walk back goes by, on the tables of one side
abbrev pub notes_in : Web → List ℕ → List ℕ → List ℕ → Notes
notes_in w parents base departs = noted (net_in w) (times_of parents) (times_of base) (times_of departs)

-- what the search after pass n came to
pub data Closed (k : Notes) (lead : ℕ → ℕ) (cycle l u n : ℕ) : Option Ring → List ℕ → List ℕ → Type 0 where
  -- no ring, or it was not asked; after pass l it is
  short : {arcs : List ℕ} → (n ≡ l → Short k l u) → Closed k lead cycle l u n None arcs arcs
  ring : {r : Ring} {before after : List ℕ} → Looped k lead cycle l u r.count r.gain before after → Closed k lead cycle l u n (Some r) before after

-- how many arcs are counted, and what they gain: none where there is no ring
abbrev pub count_of : Option Ring → ℕ
count_of None = 0
count_of (Some r) = r.count

abbrev pub gain_of : Option Ring → ℤ
gain_of None = pos 0
gain_of (Some r) = r.gain
