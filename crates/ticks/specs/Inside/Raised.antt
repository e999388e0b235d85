-- A tick as code holds it: a natural number, raised by a constant so that no time of a circuit is below zero.
use Rattle.std.specs.Prelude.{ℕ, ℤ, pos, ◌-ℤ◌}

-- 2^32: no time of a circuit is below -1,000,000,000
abbrev pub RAISE : ℕ
RAISE = 4_294_967_296

-- 2^63: numbers below it are signed words too
abbrev pub SIGNED : ℕ
SIGNED = 9_223_372_036_854_775_808

-- 2^62: departures stay below it, so that a lead can be added to each
abbrev pub FAR : ℕ
FAR = 4_611_686_018_427_387_904

-- the time that a raised tick stands for; proofs/Raised.antt has its laws
unfoldable pub lower : ℕ → ℤ
lower n = pos n -ℤ pos RAISE
