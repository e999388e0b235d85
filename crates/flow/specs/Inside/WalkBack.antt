-- A walk back, told in order of travel.
use Rattle.std.specs.Prelude.{List, [], ◌∷◌, ℕ, zero, suc}

-- d arcs of a walk back in order of travel, from place b on
abbrev pub route_back : (ℕ → ℕ) → ℕ → ℕ → List ℕ
route_back arc b zero = []
route_back arc zero (suc d) = []
route_back arc (suc b) (suc d) = arc b ∷ route_back arc b d
