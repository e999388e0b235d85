-- An order of the nodes, and what finding one keeps: a list without repeats and a stack.
use Rattle.std.specs.Prelude.{◌≡◌, Bool, true, false, List, ℕ, ◌<◌, ◌≤◌, length, get_or}
use Rattle.tables.specs.Inside.Sizes.{NODES}

-- j is one of the first n of the list
abbrev pub Listed : (ℕ → ℕ) → ℕ → ℕ → Type 0
Listed list n j = (x : ℕ) × (x < n) × (list x ≡ j)

-- a list of nodes without repeats: those that are marked
pub record Enlisted (l : ℕ) (marks : List Bool) (list : List ℕ) (count : ℕ) : Type 0 where
  pub long : (length marks ≡ NODES) × (length list ≡ NODES)
  pub nodes : (x : ℕ) → x < count → get_or list x 0 < l
  pub apart : (y : ℕ) → y < count → (x : ℕ) → x < y → get_or list x 0 ≡ get_or list y 0 → ⊥
  pub marked : (x : ℕ) → x < count → get_or marks (get_or list x 0) false ≡ true
  pub listed : (j : ℕ) → get_or marks j false ≡ true → ∥ Listed (λ x. get_or list x 0) count j ∥₁

-- all l nodes, in some order
pub record Order (l : ℕ) (list : ℕ → ℕ) : Type 0 where
  pub nodes : (x : ℕ) → x < l → list x < l
  pub all : (j : ℕ) → j < l → Listed list l j

-- a stack of nodes
pub record Stacked (l : ℕ) (stack : List ℕ) (depth : ℕ) : Type 0 where
  pub long : length stack ≡ NODES
  pub few : depth ≤ l
  pub nodes : (x : ℕ) → x < depth → get_or stack x 0 < l
