-- What the loaded tables hold of a circuit, and what is loaded at each step. A table is a list, and reads 0 past its end.
use Rattle.std.specs.Prelude.{◌≡◌, Bool, false, List, cond, ℕ, ◌-◌, ◌≤◌, ◌<◌, ltb, length, get_or}
use Rattle.std.proofs.Math.IntN.{sub_ℕ}
use Rattle.ticks.specs.Inside.Raised.{RAISE, lower}
use Rattle.flow.specs.Flow.{Side, late, early}
use Rattle.circuit.specs.Circuit.{Circuit}
use Rattle.circuit.specs.Clock.{tick, is_latch, launch, weight}
use Rattle.tables.specs.Inside.Filled.{Filled}
use Rattle.tables.specs.Inside.Models.{SideBySide}
use Rattle.tables.specs.Inside.Net.{times_of}
use Rattle.timing.specs.declared.load.Notes.{Notes}
use Rattle.timing.specs.declared.loaded.Tables.{Tables}
use Rattle.tables.specs.Inside.Sizes.{ARCS, FIRSTS, NODES, PHASES}

-- a synchronizer: its launch, raised, and whether it is a latch
pub record Launched (c : Circuit) (i at : ℕ) (mark : Bool) : Type 0 where
  pub launch : lower at ≡ launch c i
  pub latch : mark ≡ is_latch c i

-- the first n synchronizers are loaded, and the tables have kept their sizes
pub record NodesUpTo (n : ℕ) (c : Circuit) (launches : List ℕ) (latches : List Bool) : Type 0 where
  pub long : (length launches ≡ NODES) × (length latches ≡ NODES)
  pub each : (i : ℕ) → i < n → Launched c i (get_or launches i 0) (get_or latches i false)

abbrev pub LoadedNodes : Circuit → List ℕ → List Bool → Type 0
LoadedNodes c = NodesUpTo c.synchronizers c

-- what is noted of the phases and of the first n synchronizers while the arcs are loaded
pub record NotedUpTo (n : ℕ) (c : Circuit) (notes : Notes) : Type 0 where
  pub tick : Filled PHASES (tick c) notes.ticks c.phases
  pub phase : Filled NODES c.phase notes.phase n
  pub least : Filled NODES c.least notes.least n
  pub greatest : Filled NODES c.greatest notes.greatest n

abbrev pub Noted : Circuit → Notes → Type 0
Noted c = NotedUpTo c.synchronizers c

-- the shift from a phase that closes at tick x to one that closes at tick y. For the phases of a sound circuit it is the circuit's (`shifted`, proofs/Shifts)
unfoldable pub shift_of : ℕ → ℕ → ℕ → ℕ
shift_of cycle x y = cond (ltb x y) (y - x) (cycle - (x - y))

-- an arc's weight, late or early, with a cycle added
pub record LeadOf (s : Side) (c : Circuit) (a lead : ℕ) : Type 0 where
  pub weight : sub_ℕ lead c.cycle ≡ weight s c a
  pub small : lead < RAISE

-- an arc: the synchronizer that it leaves, and its leads
pub record LoadedArc (c : Circuit) (a left most least : ℕ) : Type 0 where
  pub source : left ≡ c.from a
  pub late : LeadOf late c a most
  pub early : LeadOf early c a least

-- the first n arcs are loaded, and the tables have kept their sizes
pub record ArcsUpTo (n : ℕ) (c : Circuit) (sources lates earlies : List ℕ) : Type 0 where
  pub long : (length sources ≡ ARCS) × (length lates ≡ ARCS) × (length earlies ≡ ARCS)
  pub each : (a : ℕ) → a < n → LoadedArc c a (get_or sources a 0) (get_or lates a 0) (get_or earlies a 0)

abbrev pub LoadedArcs : Circuit → List ℕ → List ℕ → List ℕ → Type 0
LoadedArcs c = ArcsUpTo c.arcs c

-- the table of leads of either side
abbrev pub leads_of : Side → List ℕ → List ℕ → List ℕ
leads_of late lates earlies = lates
leads_of early lates earlies = earlies

-- a table in which the places above `from` and up to `to` hold a, and those up to `from` what they held before
pub record Spread (before : List ℕ) (from to a : ℕ) (after : List ℕ) : Type 0 where
  pub long : length after ≡ length before
  pub kept : (i : ℕ) → i ≤ from → get_or after i 0 ≡ get_or before i 0
  pub new : (i : ℕ) → from < i → i ≤ to → get_or after i 0 ≡ a

-- where the arcs into each synchronizer begin
pub record LoadedFirst (c : Circuit) (first : List ℕ) : Type 0 where
  pub long : length first ≡ FIRSTS
  pub into : SideBySide (times_of first) c.to c.synchronizers c.arcs

-- all tables are loaded
pub record Loaded (c : Circuit) (sources lates earlies first launches : List ℕ) (latches : List Bool) : Type 0 where
  pub nodes : LoadedNodes c launches latches
  pub arcs : LoadedArcs c sources lates earlies
  pub firsts : LoadedFirst c first

-- the same of the tables as the engine holds them
abbrev pub LoadedInto : Circuit → Tables → Type 0
LoadedInto c t = Loaded c t.source t.late t.early t.first t.launch t.latch
