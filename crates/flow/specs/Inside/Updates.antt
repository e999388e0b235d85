-- Departures worked out in place: one node after the other is given the departure that the others' present ones lead to.
use Rattle.std.specs.Prelude.{◌≡◌, ℕ, ◌<◌, ℤ}
use Rattle.flow.specs.Flow.{Flow, Side, next}

-- F is E but at node i, which departs as E says
pub record Update (s : Side) (f : Flow) (i : ℕ) (E F : ℕ → ℤ) : Type 0 where
  pub here : i < f.nodes
  pub new : F i ≡ next s f E i
  pub rest : (j : ℕ) → j < f.nodes → (j ≡ i → ⊥) → F j ≡ E j

-- what updates make of the launches
pub data Updated (s : Side) (f : Flow) : (ℕ → ℤ) → Type 0 where
  launched : {E : ℕ → ℤ} → ((i : ℕ) → i < f.nodes → E i ≡ f.launch i) → Updated s f E
  updated : {E F : ℕ → ℤ} (i : ℕ) → Updated s f E → Update s f i E F → Updated s f F
