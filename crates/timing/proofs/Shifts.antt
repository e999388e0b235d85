-- The shift that loading works out, from the ticks at which two phases close, is the circuit's: it too leads to the next close, and only one number
-- does.
use mathlib.Core.Path.{◌≡◌, refl}
use mathlib.Core.Bool.{Bool, true, false, cond}
use Prim.Native.Nat.{ℕ, ◌-◌, ◌<◌}
use native.Mathlib.Omega.{arith}
use lib.Dec.{ltb}
use lib.IntN.{pos}
use borrow.Author.Tests.{ltb-true, ltb-false}
use Rattle.circuit.specs.Circuit.{Circuit}
use Rattle.circuit.specs.Clock.{tick, shift}
use Rattle.circuit.proofs.Sound.{Sound}
use Rattle.circuit.proofs.Shifts.{NextClose, next_one, lands_now, lands_later, tick_below, shift_next}
use Rattle.timing.specs.Inside.Loaded.{shift_of}

leads : {tc x y : ℕ} → x < tc → y < tc → (b : Bool) → ltb x y ≡ b → NextClose tc x y (pos (cond b (y - x) (tc - (x - y))))
leads {x = x} {y} l m true e = let h = ltb-true x y e in lands_now (omega arith) (omega arith) (omega arith)
leads {x = x} {y} l m false e = let h = ltb-false x y e in lands_later (omega arith) (omega arith) (omega arith)

pub shifted : (c : Circuit) → Sound c → (p q : ℕ) → p < c.phases → q < c.phases → pos (shift_of c.cycle (tick c p) (tick c q)) ≡ shift c p q
unfolding shift_of
shifted c v p q l m = next_one (leads (tick_below c v p l) (tick_below c v q m) _ refl) (shift_next c v p q l m)
