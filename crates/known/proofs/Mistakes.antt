-- The mistakes to keep out, each at a circuit of the list where it gives another answer, or none. All of it is
-- computed, except that P5's swinging has no end: that is an induction, as equal departures have equal next rounds.
use mathlib.Core.Path.{◌≡◌, refl, sym, ◌∙◌}
use mathlib.Core.Bool.{Bool, true, false, not}
use mathlib.Core.List.{[], ◌∷◌}
use mathlib.Core.Logic.{◌≢◌}
use Prim.Native.Nat.{ℕ, zero, suc}
use native.Mathlib.Omega.{arith}
use lib.Dec.{lit<}
use lib.IntN.{ℤ, pos, ◌-ℤ◌}
use Rattle.ticks.specs.Extremes.{min_ℤ}
use Rattle.ticks.proofs.Ints.{ints}
use Rattle.flow.specs.Flow.{Flow, Good, late, early, at, arrival, next, Fits}
use Rattle.flow.specs.Inside.Rounds.{round, Settled}
use Rattle.flow.specs.Inside.Within.{Agree}
use Rattle.flow.specs.Walk.{Walk, gain, GrowingRing}
use Rattle.flow.proofs.Agree.{next_agree}
use Rattle.flow.proofs.Walks.{fits_calm}
use Rattle.circuit.specs.Circuit.{circuit_of}
use Rattle.circuit.specs.Clock.{flow, delay}
use Rattle.circuit.specs.Times.{Calm}
use Rattle.circuit.proofs.Sound.{sound, good}
use Rattle.known.specs.Circuits.{known, p1, p4, p5, p9}
use Rattle.known.proofs.Checks.{below, equal_ℤ}
use Rattle.known.proofs.Outcomes.{acceptance, settling, walking}
use Rattle.known.proofs.Computes.{computes}
use Rattle.known.proofs.Known.{known_holds}

-- 1. P5's early departures, started at 90 and 90 (Tc - S) and not at the openings
abbrev loop : Flow
loop = flow early (circuit_of p5)

unfoldable pub swing : Bool → ℕ → ℤ
swing false i = pos 90
swing true zero = pos 70
swing true (suc i) = pos 110

-- one round takes 90, 90 to 70, 110, and the next takes it back
pub swings : (side : Bool) → Agree loop (next early loop (swing side)) (swing (not side))
unfolding computes swing
swings false = (below (λ i. equal_ℤ (next early loop (swing false) i) (swing true i)) 2).sound tt
swings true = (below (λ i. equal_ℤ (next early loop (swing true) i) (swing false i)) 2).sound tt

-- the departures after n rounds from there
unfoldable pub from90 : ℕ → ℕ → ℤ
from90 zero = swing false
from90 (suc n) = next early loop (from90 n)

abbrev odd : ℕ → Bool
odd zero = false
odd (suc n) = not (odd n)

p5_good : Good loop
unfolding computes
p5_good = good early (circuit_of p5) (sound p5 ((acceptance p5).sound tt))

turns : (n : ℕ) → Agree loop (from90 n) (swing (odd n))
unfolding from90
turns zero i l = refl
turns (suc n) i l = next_agree loop p5_good (from90 n) (swing (odd n)) (turns n) early i ∙ swings (odd n) i l

moves : (side : Bool) → swing (not side) 0 ≢ swing side 0
unfolding swing
moves false e = omega ints
moves true e = omega ints

-- so no round is the last
pub never_settles : (n : ℕ) → from90 (suc n) 0 ≢ from90 n 0
unfolding computes
never_settles n e = moves (odd n) (sym (turns (suc n) 0 (lit< tt)) ∙ e ∙ turns n 0 (lit< tt))

-- 2. the chain P9 stopped after one round: the second moves synchronizer 2 from 90 to 120, and only the third changes nothing
abbrev chain : Flow
chain = flow late (circuit_of p9)

pub after_one : round late chain 1 2 ≡ pos 90
unfolding computes
after_one = refl

pub after_two : round late chain 2 2 ≡ pos 120
unfolding computes
after_two = refl

pub one_is_too_few : Settled late chain 1 → ⊥
unfolding computes
one_is_too_few done = let e : pos 120 ≡ pos 90 = done 2 (lit< tt) in omega ints

pub two_are_enough : Settled late chain 2
unfolding computes
two_are_enough = (settling late chain 2).sound tt

-- 3. the ring of P1 has gain 0, and does not grow: late departures fit
abbrev ring : Flow
ring = flow late (circuit_of p1)

pub closed : Walk ring 0 (1 ∷ 0 ∷ []) 0
unfolding computes
closed = (walking ring 0 (1 ∷ 0 ∷ []) 0).sound tt

pub gains_nothing : gain ring (1 ∷ 0 ∷ []) ≡ pos 0
unfolding computes
gains_nothing = refl

pub calm : Calm (circuit_of p1)
unfolding known
calm = let h = known_holds.0.comes in (h.latest, h.times.late.fits)

pub no_ring_grows : GrowingRing ring → ⊥
unfolding computes
no_ring_grows = fits_calm ring (good late (circuit_of p1) (sound p1 ((acceptance p1).sound tt))) calm.0 calm.1

-- 4. the shift of a phase to itself is Tc (`shift_self` of circuit). Read as 0, it would bring synchronizer 1 of P9 its arrival 100
-- later
abbrev unshifted : Flow
unshifted = record {
  nodes = chain.nodes;
  arcs = chain.arcs;
  source = chain.source;
  target = chain.target;
  weight = λ a. pos (delay late (circuit_of p9) a);
  launch = chain.launch;
  latch = chain.latch;
}

pub arrives_at_90 : arrival late chain (round late chain 2) 1 ≡ at (pos 90)
unfolding computes
arrives_at_90 = refl

pub would_arrive_at_190 : arrival late unshifted (round late unshifted 2) 1 ≡ at (pos 190)
unfolding computes
would_arrive_at_190 = refl

pub another_arrival : arrival late unshifted (round late unshifted 2) 1 ≢ arrival late chain (round late chain 2) 1
unfolding computes
another_arrival e = let z : at (pos 190) ≡ at (pos 90) = e in let y : ◌≡◌ {A = ℕ} 190 90 = cc in omega arith

-- 5. synchronizer 1 of P4 departs at 100, past its setup limit, Tc - S. Held back there, it would bring synchronizer 0 its
-- arrival 10 sooner; and the departures would not fit
abbrev missing : Flow
missing = flow late (circuit_of p4)

abbrev limit : ℕ → ℤ
limit i = pos (circuit_of p4).cycle -ℤ pos ((circuit_of p4).setup i)

unfoldable pub held : ℕ → ℤ
held i = min_ℤ (round late missing 1 i) (limit i)

pub settled_late : Settled late missing 1
unfolding computes
settled_late = (settling late missing 1).sound tt

pub departs_at_100 : round late missing 1 1 ≡ pos 100
unfolding computes
departs_at_100 = refl

pub limit_of_90 : limit 1 ≡ pos 90
unfolding computes
limit_of_90 = refl

pub arrives_at_60 : arrival late missing (round late missing 1) 0 ≡ at (pos 60)
unfolding computes
arrives_at_60 = refl

pub would_arrive_at_50 : arrival late missing held 0 ≡ at (pos 50)
unfolding computes held
would_arrive_at_50 = refl

pub held_does_not_fit : Fits late missing held → ⊥
unfolding computes held
held_does_not_fit fits = let e : pos 90 ≡ pos 100 = fits 1 (lit< tt) in omega ints
