-- Walks from latch to latch, what they add to a time, and rings.
use Rattle.std.specs.Prelude.{◌≡◌, true, List, [], ◌∷◌, ◌++◌, ◌≢◌, ℕ, zero, suc, ◌≤◌, ◌<◌, ℤ, pos, ◌+ℤ◌, length, drop, ◌<ℤ◌}
use Rattle.flow.specs.Flow.{Flow}

-- the arc a leaves i and enters a latch
pub record Step (f : Flow) (i a : ℕ) : Type 0 where
  pub here : a < f.arcs
  pub from : f.source a ≡ i
  pub holds : f.latch (f.target a) ≡ true

-- the arcs of the list lead from i to j, in order of travel
abbrev pub Walk : Flow → ℕ → List ℕ → ℕ → Type 0
Walk f i [] j = i ≡ j
Walk f i (a ∷ p) j = Step f i a × Walk f (f.target a) p j

-- the sum of the weights
abbrev pub gain : Flow → List ℕ → ℤ
gain f [] = pos 0
gain f (a ∷ p) = f.weight a +ℤ gain f p

-- the nodes that the arcs leave
abbrev pub sources : Flow → List ℕ → List ℕ
sources f [] = []
sources f (a ∷ p) = f.source a ∷ sources f p

-- P holds of every element
abbrev pub Every : (ℕ → Type 0) → List ℕ → Type 0
Every P [] = Unit {0}
Every P (x ∷ xs) = P x × Every P xs

-- no element occurs in the rest
abbrev pub Distinct : List ℕ → Type 0
Distinct [] = Unit {0}
Distinct (x ∷ xs) = Every (λ y. x ≢ y) xs × Distinct xs

-- a way round distinct nodes. All of them are latches: each arc enters one, and the last enters the first one's source
pub record Ring (f : Flow) : Type 0 where
  pub start : ℕ
  pub path : List ℕ
  pub some : 0 < length path
  pub closed : Walk f start path start
  pub distinct : Distinct (sources f path)

pub record GrowingRing (f : Flow) : Type 0 where
  pub ring : Ring f
  pub grows : pos 0 <ℤ gain f ring.path

-- a growing ring as it is shown: the arcs in order of travel at the front of the buffer, the first leaving the ring's lowest-numbered
-- node, the rest of the buffer as it was
pub record Shown (f : Flow) (count : ℕ) (total : ℤ) (before after : List ℕ) : Type 0 where
  pub grows : GrowingRing f
  pub lowest : Every (λ i. grows.ring.start ≤ i) (sources f grows.ring.path)
  pub counted : count ≡ length grows.ring.path
  pub gains : total ≡ gain f grows.ring.path
  pub written : after ≡ grows.ring.path ++ drop (length grows.ring.path) before
