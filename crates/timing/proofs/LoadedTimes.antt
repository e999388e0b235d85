-- The parts put together: passes that settled on loaded tables give the least departures, a ring that they show grows, and early passes settle where
-- late ones did.
use mathlib.Core.Path.{◌≡◌, refl, sym}
use mathlib.Core.Bool.{true, false}
use mathlib.Core.List.{List}
use Prim.Native.Nat.{ℕ, ◌<◌}
use native.Mathlib.Omega.{arith}
use native.Mathlib.Decide.{dec_lt}
use lib.IntN.{ℤ}
use Rattle.std.specs.Prelude.{Option, None, Some, IfSome, is_some}
use Rattle.timing.specs.declared.ring.Ring.{Ring}
use Rattle.timing.specs.Inside.Ring.{count_of}
use Rattle.image.specs.Valid.{Valid}
use Rattle.flow.specs.Flow.{Side, late, early}
use Rattle.flow.specs.Walk.{Shown}
use Rattle.flow.proofs.Settles.{within_calm}
use Rattle.circuit.specs.Circuit.{circuit_of}
use Rattle.circuit.specs.Clock.{flow}
use Rattle.circuit.proofs.Sound.{sound, good}
use Rattle.circuit.proofs.Ranges.{early_within}
use Rattle.tables.specs.Inside.Net.{times_of}
use Rattle.tables.specs.Inside.Passing.{Unringed, Ended}
use Rattle.tables.specs.Inside.Models.{Models, lowered}
use Rattle.tables.proofs.Climbing.{ended_least, ended_shown}
use Rattle.timing.specs.Inside.Told.{LeastTable}
use Rattle.timing.specs.Inside.Web.{side_in, net_in, launched_in}
use Rattle.timing.specs.declared.web.Web.{Web}
use Rattle.timing.proofs.LoadedTables.{Held}
use Rattle.timing.proofs.Sweepable.{sweepable}

module _ {bytes : List ℕ} (v : Valid bytes) where
  module _ {s : Side} {launches : List ℕ} {w : Web} (h : Held s (circuit_of bytes) launches w) where
    pub models : Models (launched_in w launches) (flow s (circuit_of bytes))
    models = record { arcs = h.arcs; launch = λ i l. (h.launched.each i l).launch; latch = λ i l. (h.launched.each i l).latch }

    -- departures raised in place, from the launches on
    module _ {D : List ℕ} {count : ℕ} {gain : ℤ} {before after : List ℕ}
        (e : Ended (side_in w) (net_in w) w.nodes (times_of launches) D count gain before after) where
      -- no ring is counted
      pub risen_known : count ≡ 0 → Unringed s (flow s (circuit_of bytes)) → LeastTable s (circuit_of bytes) D × (after ≡ before)
      risen_known none calm =
          let k = ended_least (sweepable w) (good s _ (sound bytes v)) models (sym h.nodes) (rw h.side at e) none calm in
          (record { least = k.0; ranged = rw (← h.nodes) k.1 }, k.2)

      -- one is: it grows
      pub risen_ring : 0 < count → Shown (flow s (circuit_of bytes)) count gain before after
      risen_ring = ended_shown (sweepable w) (good s _ (sound bytes v)) models (sym h.nodes) (rw h.side at e)

  -- where late departures fit no ring grows, late or early
  calm : {D : List ℕ} → LeastTable late (circuit_of bytes) D → Unringed early (flow early (circuit_of bytes))
  calm {D} k =
      let c = circuit_of bytes in
      let u = sound bytes v in
      within_calm (flow early c) (flow late c) (good early c u) (good late c u) (early_within c u) (lowered (times_of D)) k.least.fits

  -- so the early passes settle
  pub risen_early : {D E launches : List ℕ} → LeastTable late (circuit_of bytes) D → {w : Web} → Held early (circuit_of bytes) launches w →
      {count : ℕ} {gain : ℤ} {before after : List ℕ} → Ended (side_in w) (net_in w) w.nodes (times_of launches) E count gain before after →
      LeastTable early (circuit_of bytes) E × (after ≡ before)
  risen_early k h {count} e = risen_known h e none (calm k)
    where
      none : count ≡ 0
      none = elim (dec_lt 0 count) [ yes l ↦ absurd (calm k (risen_ring h e l).grows) | no l ↦ omega arith ]

-- what an answer says of its count of arcs
pub some_arcs : (r : Option Ring) → is_some r ≡ true → IfSome r (λ ring. 0 < ring.count) → 0 < count_of r
some_arcs None e some = cc
some_arcs (Some ring) e some = some

pub no_arcs : (r : Option Ring) → is_some r ≡ false → count_of r ≡ 0
no_arcs None e = refl
no_arcs (Some ring) e = cc
