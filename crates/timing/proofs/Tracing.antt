-- Stepping back lowers the rank. An arc stored behind the trail to its source makes a trail that is one arc longer.
use mathlib.Core.Path.{◌≡◌, refl, sym, ◌∙◌}
use mathlib.Core.List.{List, [], ◌∷◌, ◌++◌, append_assoc}
use Prim.Native.Nat.{ℕ, suc, ◌-◌, ◌<◌}
use native.Mathlib.Omega.{arith}
use lib.ListN.{length, take, drop, set}
use lib.Seq.{length-take-le, set_split, drop_at}
use Rattle.tables.specs.Inside.Net.{Arcs}
use Rattle.tables.specs.Inside.Trail.{Traced, Stepping}
use Rattle.timing.specs.Inside.Traceable.{Stepped}

-- a step leads to a node whose rank is one lower
pub lower : {g : Arcs} {first D R : ℕ → ℕ} {i s l : ℕ} {before after : List ℕ} → Stepping g first D R l → i < l → 0 < R i →
    Stepped g first D R i s before after → suc (R s) ≡ R i
lower {R = R} {i = i} steps here some h =
    let r = R i - 1 in
    let e : R i ≡ suc r = omega arith in
    rw (h.from, steps.lowers i r h.arc here e h.via) (sym e)

-- an arc stored behind a list of d arcs that is then written before it
pub behind : (a d : ℕ) (q before : List ℕ) {mid after : List ℕ} → d < length before → mid ≡ set before d a → after ≡ q ++ drop d mid →
    after ≡ (q ++ (a ∷ [])) ++ drop (suc d) before
behind a d q before {mid} room e w =
    let rest : drop d mid ≡ a ∷ drop (suc d) before =
    rw (e, set_split before d a room) (drop_at (take d before) (a ∷ drop (suc d) before) d (length-take-le d before (omega arith))) in
    w ∙ rw rest (sym (append_assoc q (a ∷ []) (drop (suc d) before)))

module _ {g : Arcs} {first D R : ℕ → ℕ} where
  pub traced_more : {i s z d : ℕ} {before mid after : List ℕ} → d < length before → R s ≡ d →
      Stepped g first D R i s before mid → Traced g first D R z d s mid after → Traced g first D R z (suc d) i before after
  traced_more {d = d} {before} room e h k = record {
    path = k.path ++ (h.arc ∷ []);
    trail = (h.arc, k.path, h.via, rw h.from at k.trail, refl);
    written = behind h.arc d k.path before room (rw e at h.written) k.written;
  }
