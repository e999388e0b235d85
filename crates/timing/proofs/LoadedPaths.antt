-- The path question on loaded tables. The table of first arcs says whether an arc leads in; where the passes do not settle a ring grows; where
-- they do, their departures and ranks can be traced back, and the trail written is the path.
use mathlib.Core.Path.{◌≡◌, sym, ◌∙◌}
use mathlib.Core.List.{List, [], ◌∷◌, ◌++◌}
use mathlib.Core.Logic.{◌≢◌}
use Rattle.std.specs.Prelude.{Ok}
use Prim.Native.Nat.{ℕ, suc, ◌+◌, ◌<◌}
use native.Mathlib.Omega.{arith}
use lib.ListN.{length, length-append}
use Rattle.image.specs.Valid.{Valid}
use Rattle.flow.specs.Flow.{late}
use Rattle.flow.specs.Bounds.{Unentered}
use Rattle.flow.specs.Rank.{Rank}
use Rattle.flow.proofs.Rank.{lowest_unique, rank}
use Rattle.circuit.specs.Circuit.{circuit_of}
use Rattle.circuit.specs.Clock.{flow}
use Rattle.circuit.proofs.Sound.{sound, good}
use Rattle.tables.specs.Inside.Net.{times_of}
use Rattle.tables.specs.Inside.Ranks.{RanksUpTo}
use Rattle.tables.proofs.Ranking.{ranks_found}
use Rattle.tables.specs.Inside.Trail.{Stepping}
use Rattle.tables.specs.Inside.Models.{lowered}
use Rattle.tables.proofs.Trails.{trail_length, stepping, trail_path}
use Rattle.timing.specs.Inside.Told.{LeastTable}
use Rattle.timing.specs.Inside.Traceable.{PathWritten}
use Rattle.timing.specs.Inside.Web.{arcs_in, launched_in}
use Rattle.timing.specs.declared.web.Web.{Web}
use Rattle.timing.specs.PathPromise.{Asked, PathCall, found}
use Rattle.timing.proofs.WebShape.{launched_shape}
use Rattle.timing.proofs.Tracing.{behind}
use Rattle.timing.proofs.LoadedTables.{Held}
use Rattle.timing.proofs.LoadedTimes.{models}

module _ {bytes : List ℕ} (v : Valid bytes) {launches : List ℕ} {w : Web} (h : Held late (circuit_of bytes) launches w) where
  module _ {i : ℕ} (here : i < (circuit_of bytes).synchronizers) where
    pub none_in : times_of w.first.now i ≡ times_of w.first.now (i + 1) → Unentered (flow late (circuit_of bytes)) i (circuit_of bytes).arcs
    none_in e a l k = let h = h.arcs.into.outside i a here l k in omega (arith, h.0, h.1)

    pub some_in : times_of w.first.now i ≢ times_of w.first.now (i + 1) → times_of w.first.now i < times_of w.first.now (i + 1)
    some_in d = omega (arith, h.arcs.into.rises i here, d)

    pub first_in : times_of w.first.now i < times_of w.first.now (i + 1) →
        (times_of w.first.now i < (circuit_of bytes).arcs) × ((circuit_of bytes).to (times_of w.first.now i) ≡ i)
    first_in l = (omega (arith, h.arcs.into.within i here), h.arcs.into.inside i (times_of w.first.now i) here (omega arith) l)

  module _ {D : List ℕ} (known : LeastTable late (circuit_of bytes) D) {R : ℕ → ℕ} (up : RanksUpTo (launched_in w launches) w.nodes (times_of D) R) where
    ranks : (i : ℕ) → i < (circuit_of bytes).synchronizers → Rank (flow late (circuit_of bytes)) (lowered (times_of D)) i (R i)
    ranks i l = ranks_found (launched_shape w launches) (good late _ (sound bytes v)) (models v h) (sym h.nodes) (rw h.nodes known.ranged) known.least
        R up i (rw h.nodes l)

    -- no rank is above the nodes' number
    pub low : (i : ℕ) → i < w.nodes → R i < w.nodes
    low i l =
        let c = circuit_of bytes in
        let here : i < c.synchronizers = rw h.nodes at l in
        let r = rank (flow late c) (good late c (sound bytes v)) (lowered (times_of D)) known.least i here in
        omega (arith, h.nodes, r.1, lowest_unique _ r.0 (R i) r.2 (ranks i here))

    pub steps : Stepping (arcs_in w) (times_of w.first.now) (times_of D) R w.nodes
    steps = rw h.nodes (stepping (good late _ (sound bytes v)) (models v h) R known.ranged known.least.fits ranks)

    pub path_found : {i s count : ℕ} {before after : List ℕ} → Asked bytes i before →
        PathWritten (arcs_in w) (times_of w.first.now) (times_of D) R i s count before after →
        PathCall bytes i before (Ok (record { launch = s; count = count })) after
    path_found {i} {s} {before = before} asked p =
        let a = p.stepped.arc in
        let q = p.traced.path in
        let d = R p.source in
        let here : i < w.nodes = rw h.nodes asked.inside in
        let from : p.source < w.nodes = rw p.stepped.from (w.shaped.sources a (omega (arith, p.stepped.via.below, w.shaped.ends i here))) in
        let few : d < length before = omega (arith, low p.source from, h.nodes, asked.arcs_fit) in
        let path = trail_path (good late _ (sound bytes v)) (models v h) R known.ranged known.least.fits ranks q asked.inside
        p.stepped.via (rw p.stepped.from at p.traced.trail) in
        let long = trail_length (arcs_in w) (times_of w.first.now) (times_of D) R d p.source s q p.traced.trail in
        let e : suc d ≡ length (q ++ (a ∷ [])) = sym (length-append q (a ∷ []) ∙ omega arith) in
        rw (p.counted ∙ e, rw e at (behind a d q before few p.stepped.written p.traced.written))
        (found (lowered (times_of D)) s (q ++ (a ∷ [])) asked known.least path)
