-- A path that is found leads from the launching synchronizer to the one asked about, and gives the late arrival that timing writes.
use mathlib.Core.Path.{◌≡◌, refl, sym, ap, ◌∙◌}
use mathlib.Core.List.{List, [], ◌∷◌, ◌++◌}
use mathlib.Core.Logic.{inl, inr}
use Rattle.std.specs.Prelude.{Result, Ok}
use Prim.Native.Nat.{ℕ, ◌<◌}
use lib.IntN.{ℤ, ◌+ℤ◌}
use lib.ListN.{length, drop}
use Rattle.image.specs.declared.refusal.Refusal.{Refusal}
use Rattle.flow.specs.Flow.{late, Least}
use Rattle.flow.specs.Walk.{Walk}
use Rattle.flow.specs.Path.{PathTo}
use Rattle.flow.proofs.Path.{path_launch, path_walk, path_time}
use Rattle.flow.proofs.Walks.{fits_calm}
use Rattle.circuit.specs.Circuit.{Circuit, circuit_of}
use Rattle.circuit.specs.Clock.{flow}
use Rattle.circuit.specs.Times.{or_mark}
use Rattle.circuit.proofs.Sound.{Sound, good}
use Rattle.circuit.proofs.Unique.{departure_same, arrival_same}
use Rattle.timing.specs.TimingPromise.{Served, Timing}
use Rattle.timing.specs.PathPromise.{Asked, PathCall, found}
use Rattle.timing.specs.declared.timing_call.Answer.{Answer}
use Rattle.demands.specs.Buffers.{IsTimed, late_departure_at, late_arrival_at, Defined}
use Rattle.demands.specs.Rings.{Leads, adds, Explained}
use Rattle.demands.proofs.Reading.{front_of, rest_of}
use Rattle.demands.proofs.ByAnswer.{outcome, timed_defined, loop_shown, served_sound}

leads_on : (c : Circuit) (p : List ℕ) (a i : ℕ) → Walk (flow late c) i p (c.from a) → a < c.arcs → Leads c i (p ++ (a ∷ [])) (c.to a)
leads_on c [] a i w l = (l, sym w, refl)
leads_on c (b ∷ p) a i w l = (w.0.here, w.0.from, leads_on c p a (c.to b) w.1 l)

-- what leads somewhere over an arc starts at a synchronizer
leads_from : (c : Circuit) → Sound c → (p : List ℕ) (a i j : ℕ) → Leads c i (p ++ (a ∷ [])) j → i < c.synchronizers
leads_from c v [] a i j h = rw h.1 at (v.from a h.0)
leads_from c v (b ∷ p) a i j h = rw h.1 at (v.from b h.0)

module _ (bytes : List ℕ) (i : ℕ) (arcs : List ℕ) where
  record IsFound (s n : ℕ) (B : List ℕ) : Type 0 where
    latest : ℕ → ℤ
    path : List ℕ
    asked : Asked bytes i arcs
    least : Least late (flow late (circuit_of bytes)) latest
    leads : PathTo (flow late (circuit_of bytes)) latest i s path
    counted : n ≡ length path
    written : B ≡ path ++ drop (length path) arcs

  is_found : {s n : ℕ} {B : List ℕ} → PathCall bytes i arcs (Ok (record { launch = s; count = n })) B → IsFound s n B
  is_found (found D s p asked least path) =
      record { latest = D; path = p; asked = asked; least = least; leads = path; counted = refl; written = refl }

-- the path p and the results R of one image
module _ (c : Circuit) (v : Sound c) (D : ℕ → ℤ) (least : Least late (flow late c) D) (i s : ℕ) (p : List ℕ) (path : PathTo (flow late c) D i s p)
    (setups holds : ℕ) (numbers R : List ℤ) (d : Defined c setups holds numbers R) where
  path_leads : Leads c s p i
  path_leads =
      let w = path_walk (flow late c) D i s p path in
      rw path.whole (rw w.2 at (leads_on c path.before path.last s w.0 w.1))

  path_gives : s < c.synchronizers → i < c.synchronizers → (late_departure_at R s +ℤ adds c p) ≡ late_arrival_at R i
  path_gives l m =
      let a = d.late_departure s l ∙ sym (departure_same c v late D d.latest least d.least.late s l) ∙ (path_launch (flow late c) D i s p path).holds in
      let b = arrival_same c v late d.latest D d.least.late least i ∙ path_time (flow late c) D i s p path in
      rw a (sym (d.late_arrival i m ∙ ap (or_mark (λ t. t)) b))

module _ (bytes : List ℕ) (numbers : List ℤ) (arcs arcs' : List ℕ) (i : ℕ) where
  -- timing, served, times; and the path explains the late arrival that it writes
  pub path_explains : {X : Result Answer Refusal} {R : List ℤ} {A B : List ℕ} {s n : ℕ} → PathCall bytes i arcs' (Ok (record { launch = s; count = n })) B → Served bytes numbers arcs →
      Timing bytes numbers arcs X R A → IsTimed X × Explained (circuit_of bytes) i s n arcs' B R
  path_explains {B} {s} {n} y served x =
      let c = circuit_of bytes in
      let v = served_sound bytes numbers arcs served in
      let h = is_found bytes i arcs' y in
      let p = h.path in
      elim (outcome bytes numbers arcs served x) [
        | inl t ↦ (
            let d = (timed_defined bytes numbers arcs (rw t.2 at x)).0 in
            let leads = path_leads c v h.latest h.least i s p h.leads _ _ numbers _ d in
            let l = leads_from c v h.leads.before h.leads.last s i (rw h.leads.whole at leads) in
            let e = front_of p arcs' B n h.counted h.written in (
              t,
              record {
                counted = rw e (sym h.counted);
                leads = rw e leads;
                gives = rw e (path_gives c v h.latest h.least i s p h.leads _ _ numbers _ d l h.asked.inside);
                rest = rest_of p arcs' B n h.counted h.written;
              },
            )
            )
        | inr l ↦ (
            let ring = (loop_shown bytes numbers arcs (rw l.2 at x)).0.grows in
            absurd (fits_calm (flow late c) (good late c v) h.latest h.least.fits ring)
            )
      ]
