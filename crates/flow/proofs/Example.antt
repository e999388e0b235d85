-- The definitions at three nodes. Node 0 is no latch and launches at 5; arc 0 leads from it to the latch 1, with weight 3. The
-- latches 1 and 2 feed one another: arc 1 adds 4 on the way out, arc 2 takes 5 off on the way back.
use mathlib.Core.Path.{◌≡◌, refl}
use mathlib.Core.Bool.{Bool, true, false}
use mathlib.Core.List.{[], ◌∷◌}
use Prim.Native.Nat.{ℕ, zero, suc, ◌<◌}
use native.Mathlib.Omega.{arith}
use lib.Dec.{lit<}
use lib.IntN.{ℤ, pos, negsuc, ◌+ℤ◌}
use lib.Signed.{◌≤ℤ◌, ≤ℤ_refl, lt_z_yes}
use Rattle.ticks.specs.Extremes.{max_ℤ, min_ℤ}
use Rattle.ticks.proofs.Order.{plus_mono}
use Rattle.flow.specs.Flow.{Flow, Good, late, early, at, into, arrival, next, Fits, Least}
use Rattle.flow.specs.Inside.Rounds.{round, Settled}
use Rattle.flow.specs.Inside.Within.{Within}
use Rattle.flow.specs.Walk.{GrowingRing}
use Rattle.flow.specs.Rank.{Reaches}
use Rattle.flow.proofs.Rounds.{settled_least}
use Rattle.flow.proofs.Windows.{departures_inside}
use Rattle.flow.proofs.Walks.{fits_calm}

abbrev from : ℕ → ℕ
from zero = 0
from (suc zero) = 1
from (suc (suc n)) = 2

abbrev to : ℕ → ℕ
to zero = 1
to (suc zero) = 2
to (suc (suc n)) = 1

abbrev adds : ℕ → ℤ
adds zero = pos 3
adds (suc zero) = pos 4
adds (suc (suc n)) = negsuc 4

abbrev sets_out : ℕ → ℤ
sets_out zero = pos 5
sets_out (suc n) = pos 0

abbrev passes : ℕ → Bool
passes zero = false
passes (suc n) = true

-- the flow, with each arc longer by more
abbrev toy : ℤ → Flow
toy more = record { nodes = 3; arcs = 3; source = from; target = to; weight = λ a. adds a +ℤ more; launch = sets_out; latch = passes }

toy_good : (more : ℤ) → Good (toy more)
toy_good more = record { leaves = leaves; enters = enters }
  where
    leaves : (a : ℕ) → a < 3 → from a < 3
    leaves zero h = lit< tt
    leaves (suc zero) h = lit< tt
    leaves (suc (suc n)) h = lit< tt

    enters : (a : ℕ) → a < 3 → to a < 3
    enters zero h = lit< tt
    enters (suc zero) h = lit< tt
    enters (suc (suc n)) h = lit< tt

-- as given: two rounds, and no more, bring the latch 2 the time 5 + 3 + 4
abbrev calm : Flow
calm = toy (pos 0)

calm_settles : Settled late calm 2
unfolding round next arrival into max_ℤ
calm_settles zero l = refl
calm_settles (suc zero) l = refl
calm_settles (suc (suc zero)) l = refl
calm_settles (suc (suc (suc n))) l = let z : ⊥ = omega arith in absurd z

calm_least : Least late calm (round late calm 2)
calm_least = settled_least late calm (toy_good (pos 0)) 2 calm_settles

late_departure : round late calm 2 2 ≡ pos 12
unfolding round next arrival into max_ℤ
late_departure = refl

late_arrival : arrival late calm (round late calm 2) 1 ≡ at (pos 8)
unfolding round next arrival into max_ℤ
late_arrival = refl

-- the early side: the latch 2 sends back sooner than the node 0
early_arrival : arrival early calm (round early calm 2) 1 ≡ at (negsuc 0)
unfolding round next arrival into max_ℤ min_ℤ
early_arrival = refl

-- the latch 2 is reached from the launch of 0 over the arcs 0 and 1
calm_reaches : Reaches calm (round late calm 2) 2 2
unfolding round next arrival into max_ℤ
calm_reaches = (
  1,
  record { here = lit< tt; enters = refl; holds = refl; carries = refl },
  (0, record { here = lit< tt; enters = refl; holds = refl; carries = refl }, refl),
)

-- shorter arcs lie within longer ones: least early departures over the ones are no later than late departures over the others
toy_within : (less more : ℤ) → less ≤ℤ more → Within late (toy less) (toy more)
toy_within less more h = record {
  nodes = refl;
  latch = λ i l. refl;
  launch = λ i l. ≤ℤ_refl _;
  cover = λ a l. (a, record { here = l; source = refl; target = refl; weight = plus_mono (≤ℤ_refl (adds a)) h });
  keeps = tt;
}

toy_window : (less more : ℤ) → less ≤ℤ more → (D E : ℕ → ℤ) → Least early (toy less) D → Fits late (toy more) E →
    (i : ℕ) → i < 3 → D i ≤ℤ E i
toy_window less more h D E least fits =
    departures_inside late early (toy less) (toy more) (toy_good less) (toy_good more) (toy_within less more h) D E (least, fits)

-- with each arc longer by 2 the ring of the latches gains 3, and nothing fits
abbrev hot : Flow
hot = toy (pos 2)

hot_ring : GrowingRing hot
hot_ring = record {
  ring = record {
    start = 1;
    path = 1 ∷ 2 ∷ [];
    some = lit< tt;
    closed = (record { here = lit< tt; from = refl; holds = refl }, (record { here = lit< tt; from = refl; holds = refl }, refl));
    distinct = ((λ e. omega arith, tt), (tt, tt));
  };
  grows = lt_z_yes tt;
}

hot_never : (D : ℕ → ℤ) → Fits late hot D → ⊥
hot_never D fits = fits_calm hot (toy_good (pos 2)) D fits hot_ring
