-- When one time bounds another, and nodes that no arc enters.
use Rattle.std.specs.Prelude.{◌≡◌, ◌≢◌, ℕ, ◌<◌, ℤ, ◌≤ℤ◌}
use Rattle.flow.specs.Flow.{Flow, Side, late, early, When, none, at, brings}

-- x lies inside the bound t: not above a late bound, not below an early one
abbrev pub Inside : Side → ℤ → ℤ → Type 0
Inside late x t = x ≤ℤ t
Inside early x t = t ≤ℤ x

-- none of the first n arcs enters i
abbrev pub Unentered : Flow → ℕ → ℕ → Type 0
Unentered f i n = (a : ℕ) → a < n → f.target a ≢ i

-- two arrivals: both are none, or the first lies inside the second
pub data Nested (s : Side) : When → When → Type 0 where
  neither : Nested s none none
  nested : {t u : ℤ} → Inside s t u → Nested s (at t) (at u)
