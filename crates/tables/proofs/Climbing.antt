-- Passes one after the other: each starts where the one before ended.
use mathlib.Core.Path.{◌≡◌, refl}
use mathlib.Core.List.{List}
use Prim.Native.Nat.{ℕ, suc, ◌+◌, ◌-◌, ◌*◌, ◌<◌}
use native.Mathlib.Omega.{arith}
use lib.IntN.{ℤ}
use lib.ListN.{length}
use Rattle.ticks.proofs.Ints.{ints}
use Rattle.ticks.proofs.Raised.{lower-lt}
use Rattle.flow.specs.Flow.{Flow, Good, Side, Least}
use Rattle.flow.specs.Inside.Rounds.{round}
use Rattle.flow.specs.Walk.{GrowingRing, Shown}
use Rattle.flow.proofs.Settles.{settles_least}
use Rattle.flow.proofs.Updates.{updated_fits}
use Rattle.tables.specs.Inside.Net.{Net, times_of, launching, Ranged}
use Rattle.tables.specs.Inside.Models.{Models, lowered}
use Rattle.tables.specs.Inside.Raise.{Risen, at_launch, Passed, none, pass, Room, Sweepable}
use Rattle.tables.specs.Inside.Listing.{Order}
use Rattle.tables.specs.Inside.Passing.{Onward, Passing, Climbing, Unringed, Ended, settled, ringed, beyond}
use Rattle.tables.proofs.Raising.{risen_launch, risen_updated, risen_least, passed_from, passed_round, room_ranged, room_less}
use Rattle.tables.proofs.Stamping.{course_none}
use Rattle.tables.specs.Inside.Sizes.{GROWS, NODES}

module _ {s : Side} {n : Net} {l : ℕ} (t : Sweepable n l) where
  pub climb_none : {departs parents : List ℕ} → length departs ≡ NODES → length parents ≡ NODES → Room l GROWS (times_of departs) →
      Climbing s n l (times_of departs) departs parents 0
  climb_none {departs} {parents} e f room = record {
    few = omega arith;
    long = (e, f);
    onward = λ launch h. h;
    course = course_none n l (times_of departs) (times_of parents);
    passed = none {D = times_of departs} (λ i h. omega arith);
    room = room_less ((l - 0) * NODES) (omega (arith, t.shaped.nodes)) room;
  }

  module _ {base : ℕ → ℕ} {departs parents : List ℕ} {k : ℕ} (c : Climbing s n l base departs parents k) (more : k < l) where
    -- there is room for a pass
    pub climb_room : Room l l (times_of departs)
    climb_room = room_less l (omega (arith, t.shaped.nodes)) c.room

    module _ {node : ℕ → ℕ} (order : Order l node) {after parents' : List ℕ} {last : ℕ}
        (p : Passing s n l (times_of departs) (times_of parents) node l after parents' last) where
      pub climb_more : Climbing s n l base after parents' (k + 1)
      climb_more =
          let q : k + 1 ≡ suc k = omega arith in
          let all : (j : ℕ) → j < l → _ = λ j h. let o = order.all j h in rw o.2 at (p.swept.tried o.0 o.1) in
          record {
            few = omega arith;
            long = (p.swept.long, p.long);
            onward = λ launch h. p.swept.onward launch (c.onward launch h);
            course = p.course base c.course;
            passed = rw q (pass {k = k} {D = times_of departs} {E = times_of after} c.passed (room_ranged c.room) all);
            room = p.swept.room ((l - (k + 1)) * NODES) (room_less ((l - (k + 1)) * NODES + l) (omega (arith, t.shaped.nodes)) c.room);
          }

  -- pass l raises none where no ring grows: as many rounds give the least departures, and raises stay below them
  pub climb_calm : {base D E : ℕ → ℕ} {k : ℕ} (u : ℕ) → l ≡ suc k → Passed s n l base k E → Onward s n l base D → u < l → E u < D u →
      (launch : ℕ → ℕ) (f : Flow) → Good f → Models (launching n launch) f → f.nodes ≡ l → Risen s n l launch base → (GrowingRing f → ⊥) → ⊥
  climb_calm {k = k} u e passed onward here up launch f good models same risen calm =
      let j : u < f.nodes = rw same here in
      let low = passed_round s t.shaped good models same (passed_from s t.shaped (risen_launch s t.shaped risen) passed) u j in
      let least = settles_least s f good k (omega (arith, same, e)) calm in
      let high = updated_fits s f good (round s f k) least.fits (risen_updated s t.shaped good models same (onward launch risen)) u j in
      omega (ints, low, high, lower-lt up)

-- how passes end, where they go on from others
pub ended_from : {s : Side} {n : Net} {l : ℕ} {D E : ℕ → ℕ} {departs : List ℕ} {count : ℕ} {gain : ℤ} {before after : List ℕ} → Onward s n l D E →
    Ended s n l E departs count gain before after → Ended s n l D departs count gain before after
ended_from on (settled more ranged still) = settled (λ launch h. more launch (on launch h)) ranged still
ended_from on (ringed some shown) = ringed some shown
ended_from on (beyond never) = beyond (λ launch f good models same h. never launch f good models same (on launch h))

-- what the end means, in a flow that the tables hold
module _ {s : Side} {n : Net} {l : ℕ} (t : Sweepable n l) {launch : ℕ → ℕ} {f : Flow} (good : Good f) (models : Models (launching n launch) f)
    (same : f.nodes ≡ l) where
  -- no ring is counted: the departures are the least, and the buffer stays
  pub ended_least : {departs : List ℕ} {count : ℕ} {gain : ℤ} {before after : List ℕ} → Ended s n l launch departs count gain before after →
      count ≡ 0 → Unringed s f → Least s f (lowered (times_of departs)) × Ranged l (times_of departs) × (after ≡ before)
  ended_least (settled on ranged still) e calm =
      (risen_least s t.shaped good models same (on launch (at_launch {D = launch} (λ i h. refl))) ranged still, ranged, refl)
  ended_least (ringed some shown) e calm = let z : ⊥ = omega arith in absurd z
  ended_least (beyond never) e calm = absurd (never launch f good models same (at_launch {D = launch} (λ i h. refl)) calm)

  pub ended_shown : {departs : List ℕ} {count : ℕ} {gain : ℤ} {before after : List ℕ} → Ended s n l launch departs count gain before after →
      0 < count → Shown f count gain before after
  ended_shown (settled on ranged still) h = let z : ⊥ = omega arith in absurd z
  ended_shown (ringed some shown) h = shown launch f good models same
  ended_shown (beyond never) h = let z : ⊥ = omega arith in absurd z
