-- The path question on the tables: which arc gives a node its arrival, and the way back over such arcs. R has each node's rank.
use Rattle.std.specs.Prelude.{◌≡◌, Bool, true, false, List, [], ◌∷◌, ◌++◌, ◌⊎◌, ℕ, zero, suc, ◌+◌, ◌<◌, ◌≤◌, drop}
use Rattle.tables.specs.Inside.Net.{Arcs, brought}

-- of the arcs from `from` up to `to`, a brings the latest time; of those that do, its source has the least rank; of those, a is the first
pub record Nearest (g : Arcs) (D R : ℕ → ℕ) (from to a : ℕ) : Type 0 where
  pub above : from ≤ a
  pub below : a < to
  pub latest : (b : ℕ) → from ≤ b → b < to → brought g D b ≤ brought g D a
  pub least : (b : ℕ) → from ≤ b → b < to → brought g D b ≡ brought g D a → R (g.source a) ≤ R (g.source b)
  pub first : (b : ℕ) → from ≤ b → b < a → brought g D b ≡ brought g D a → R (g.source a) < R (g.source b)

-- a is better than b: it brings a later time, or the same from a node of lower rank
abbrev pub Ahead : Arcs → (ℕ → ℕ) → (ℕ → ℕ) → ℕ → ℕ → Type 0
Ahead g D R a b = (brought g D b < brought g D a) ⊎ ((brought g D a ≡ brought g D b) × (R (g.source a) < R (g.source b)))

-- a flag says whether P holds
pub data Tells (P : Type 0) : Bool → Type 0 where
  is : P → Tells P true
  not : (P → ⊥) → Tells P false

-- of the arcs into i, those from first i up to first (i + 1)
abbrev pub Via : Arcs → (ℕ → ℕ) → (ℕ → ℕ) → (ℕ → ℕ) → ℕ → ℕ → Type 0
Via g first D R i = Nearest g D R (first i) (first (i + 1))

-- d such arcs, in order of travel, lead from s to i
abbrev pub Trail : Arcs → (ℕ → ℕ) → (ℕ → ℕ) → (ℕ → ℕ) → ℕ → ℕ → List ℕ → ℕ → Type 0
Trail g first D R s zero p i = (s ≡ i) × (p ≡ [])
Trail g first D R s (suc d) p i = (a : ℕ) × (q : List ℕ) × Via g first D R i a × Trail g first D R s d q (g.source a) × (p ≡ q ++ (a ∷ []))

-- a trail written to the front of a buffer
pub record Traced (g : Arcs) (first D R : ℕ → ℕ) (s d i : ℕ) (before after : List ℕ) : Type 0 where
  pub path : List ℕ
  pub trail : Trail g first D R s d path i
  pub written : after ≡ path ++ drop d before

-- stepping back from a node lowers the rank by one, until rank 0
pub record Stepping (g : Arcs) (first D R : ℕ → ℕ) (l : ℕ) : Type 0 where
  pub entered : (i r : ℕ) → i < l → R i ≡ suc r → first i < first (i + 1)
  pub lowers : (i r a : ℕ) → i < l → R i ≡ suc r → Via g first D R i a → R (g.source a) ≡ r
