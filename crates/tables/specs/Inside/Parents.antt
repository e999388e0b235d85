-- Parents on the tables: of each node that was raised, the arc that raised it.
use Rattle.std.specs.Prelude.{◌≡◌, true, List, ◌⊎◌, ℕ, ◌+◌, ◌<◌, ◌≤◌}
use Rattle.tables.specs.Inside.Net.{Net, times_of, brought}
use Rattle.tables.specs.Inside.Sizes.{ARCS}

-- a is a parent of i by the stamps T: it gives at least the departure, and where it gives exactly that, its source was stamped before
pub record ParentN (n : Net) (D T : ℕ → ℕ) (i a : ℕ) : Type 0 where
  pub above : n.first i ≤ a
  pub below : a < n.first (i + 1)
  pub holds : n.latch i ≡ true
  pub gives : D i ≤ brought n.arcs D a
  pub older : D i ≡ brought n.arcs D a → T (n.arcs.source a) < T i

-- every node departs at its base or has a parent; no stamp is above p
pub record Parented (n : Net) (l : ℕ) (base D P T : ℕ → ℕ) (p : ℕ) : Type 0 where
  pub each : (i : ℕ) → i < l → (D i ≡ base i) ⊎ ParentN n D T i (P i)
  pub stamps : (i : ℕ) → i < l → T i ≤ p

-- of each node that was raised since the base, the arc that raised it
pub record Course (n : Net) (l : ℕ) (base D P : ℕ → ℕ) : Type 0 where
  pub raises : ℕ
  pub stamps : ℕ → ℕ
  pub parented : Parented n l base D P stamps raises

-- what a walk back goes by: which node each arc leaves, and of each node its parent, and when it departed at the base and departs now
pub record Notes : Type 0 where
  pub source : ℕ → ℕ
  pub parents : ℕ → ℕ
  pub base : ℕ → ℕ
  pub departs : ℕ → ℕ

abbrev pub notes_of : List ℕ → List ℕ → List ℕ → List ℕ → Notes
notes_of source parents base departs = record { source = times_of source; parents = times_of parents; base = times_of base; departs = times_of departs }

-- the same, of the tables n
abbrev pub noted : Net → (ℕ → ℕ) → (ℕ → ℕ) → (ℕ → ℕ) → Notes
noted n P base D = record { source = n.arcs.source; parents = P; base = base; departs = D }

-- the parents of raised nodes lie within the tables
abbrev pub ParentsIn : Notes → ℕ → Type 0
ParentsIn k l = (i : ℕ) → i < l → (k.departs i ≡ k.base i → ⊥) → (k.parents i < ARCS) × (k.source (k.parents i) < l)
