-- The path question: over which arcs a node's late arrival comes, from the node that launched it.
use Rattle.std.specs.Prelude.{◌≡◌, List, [], ◌∷◌, ◌++◌, ℕ, zero, suc, ◌<◌, ℤ}
use Rattle.flow.specs.Flow.{Flow, late, at, brings, arrival}
use Rattle.flow.specs.Rank.{Lowest, Rank}

-- the arc a brings node i the time t, from a source of rank r
pub record Brought (f : Flow) (D : ℕ → ℤ) (i : ℕ) (t : ℤ) (r a : ℕ) : Type 0 where
  pub here : a < f.arcs
  pub enters : f.target a ≡ i
  pub gives : brings f D a ≡ t
  pub from : Rank f D (f.source a) r

-- the last arc: among those giving the late arrival at i, the one whose source has least rank, then the lowest number
pub record Last (f : Flow) (D : ℕ → ℤ) (i r a : ℕ) : Type 0 where
  pub time : ℤ
  pub arrives : arrival late f D i ≡ at time
  pub least : Lowest (λ m. (b : ℕ) × Brought f D i time m b) r
  pub lowest : Lowest (Brought f D i time r) a

-- the arcs before it: p leads from s to i, of rank r. A node of rank 0 launches the path; from a node of rank r + 1 the step back is
-- over the lowest-numbered arc that gives its late departure and whose source has rank r
abbrev pub Back : Flow → (ℕ → ℤ) → ℕ → ℕ → List ℕ → ℕ → Type 0
Back f D s zero p i = Rank f D i zero × (s ≡ i) × (p ≡ [])
Back f D s (suc r) p i = (a : ℕ) × (q : List ℕ) × Rank f D i (suc r) × Lowest (Brought f D i (D i) r) a
    × Back f D s r q (f.source a) × (p ≡ q ++ (a ∷ []))

-- the path to i: launched at s, its arcs p in order of travel
pub record PathTo (f : Flow) (D : ℕ → ℤ) (i s : ℕ) (p : List ℕ) : Type 0 where
  pub rank : ℕ
  pub last : ℕ
  pub before : List ℕ
  pub ends : Last f D i rank last
  pub back : Back f D s rank before (f.source last)
  pub whole : p ≡ before ++ (last ∷ [])
