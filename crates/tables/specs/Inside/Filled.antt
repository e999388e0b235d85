-- A table that is filled from the front.
use Rattle.std.specs.Prelude.{◌≡◌, List, ℕ, ◌<◌, length, get_or}

-- it has that size, and f gives what stands below place i
pub record Filled (size : ℕ) (f : ℕ → ℕ) (xs : List ℕ) (i : ℕ) : Type 0 where
  pub long : length xs ≡ size
  pub holds : (j : ℕ) → j < i → get_or xs j 0 ≡ f j
