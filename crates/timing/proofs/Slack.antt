-- Times and slacks, from raised times: each is one difference of two natural numbers.
use mathlib.Core.Path.{◌≡◌}
use Prim.Native.Nat.{ℕ, ◌+◌, ◌-◌, ◌<◌}
use lib.IntN.{ℤ, pos, sub_ℕ, ◌-ℤ◌}
use lib.Signed.{mag}
use mir.Syntax.{w64}
use mir.Val.{to_z, of_z}
use mir.ValLaws.{to_z-of_z}
use Rattle.ticks.specs.Inside.Raised.{RAISE, lower, SIGNED}
use Rattle.ticks.proofs.Ints.{ints, apart, diff}
use Rattle.ticks.proofs.Raised.{span}
use Rattle.timing.specs.Inside.Results.{setup_by, hold_by}

-- a signed number that a call gave comes back out of its word
pub out_of_word : (z : ℤ) → mag z < SIGNED → to_z w64 (of_z w64 z) ≡ z
out_of_word z h = to_z-of_z w64 z (record { sfits = h })

pub time_is : (t : ℕ) → sub_ℕ t RAISE ≡ lower t
time_is t = omega (ints, apart t RAISE, span t)

pub hold_is : (t hold : ℕ) → sub_ℕ t (RAISE + hold) ≡ hold_by hold (lower t)
hold_is t hold = omega (ints, apart t (RAISE + hold), span t, diff (lower t) (pos hold))

pub setup_is : (t cycle setup : ℕ) → setup < RAISE → sub_ℕ (RAISE + cycle - setup) t ≡ setup_by cycle setup (lower t)
setup_is t cycle setup h =
    let x = pos cycle -ℤ pos setup in
    omega (ints, apart (RAISE + cycle - setup) t, span t, diff (pos cycle) (pos setup), diff x (lower t))
