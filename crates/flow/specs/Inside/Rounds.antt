-- Departures worked out in rounds: all nodes at once, each from the round before.
use Rattle.std.specs.Prelude.{◌≡◌, ℕ, zero, suc, ◌<◌, ℤ}
use Rattle.flow.specs.Flow.{Flow, Side, next}

-- the departures after n rounds
unfoldable pub round : Side → Flow → ℕ → ℕ → ℤ
round s f zero = f.launch
round s f (suc n) = next s f (round s f n)

-- round n + 1 changes nothing
abbrev pub Settled : Side → Flow → ℕ → Type 0
Settled s f n = (i : ℕ) → i < f.nodes → round s f (suc n) i ≡ round s f n i
