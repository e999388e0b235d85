-- Every node with an arrival has a path, of no more arcs than there are nodes. Every node has a rank, so "has rank r" is decided, and
-- least ranks and lowest arcs are found by searching.
use mathlib.Core.Path.{◌≡◌, refl}
use mathlib.Core.Logic.{inl, inr}
use mathlib.Core.List.{List, [], ◌∷◌, ◌++◌}
use Prim.Native.Nat.{ℕ, zero, suc, ◌≤◌, ◌<◌}
use native.Mathlib.Omega.{arith}
use native.Mathlib.Decide.{dec_lt, ℕ_discrete}
use lib.IntN.{ℤ, ℤ_discrete}
use lib.ListN.{length}
use Rattle.flow.specs.Flow.{Flow, Good, late, When, none, at, brings, arrival, Least}
use Rattle.flow.specs.Rank.{Rank}
use Rattle.flow.specs.Path.{Brought, Last, Back, PathTo}
use Rattle.flow.proofs.Pigeonhole.{some_or_all}
use Rattle.flow.proofs.Arrival.{arrival_at, arrival_none}
use Rattle.flow.proofs.Rank.{lowest_unique, lowest, rank, rank_back}
use Rattle.flow.proofs.Path.{path_length}

module _ (f : Flow) (good : Good f) (D : ℕ → ℤ) (least : Least late f D) where
  ranked : (i r : ℕ) → i < f.nodes → Dec (Rank f D i r)
  ranked i r l =
      let h = rank f good D least i l in
      elim (ℕ_discrete h.0 r) [ yes e ↦ yes (rw e at h.2) | no d ↦ no (λ k. d (lowest_unique _ h.0 r h.2 k)) ]

  brought : (i : ℕ) (t : ℤ) (r a : ℕ) → Dec (Brought f D i t r a)
  brought i t r a = elim (dec_lt a f.arcs) [
    | no d ↦ no (λ h. d h.here)
    | yes l ↦ elim (ℕ_discrete (f.target a) i) [
      | no d ↦ no (λ h. d h.enters)
      | yes e ↦ elim (ℤ_discrete (brings f D a) t) [
        | no d ↦ no (λ h. d h.gives)
        | yes g ↦ elim (ranked (f.source a) r (good.leaves a l)) [
          | no d ↦ no (λ h. d h.from)
          | yes k ↦ yes (record { here = l; enters = e; gives = g; from = k })
        ]
      ]
    ]
  ]

  some_brought : (i : ℕ) (t : ℤ) (r : ℕ) → Dec ((a : ℕ) × Brought f D i t r a)
  some_brought i t r = elim (some_or_all (Brought f D i t r) (λ a. Brought f D i t r a → ⊥) f.arcs
      (λ a l. elim (brought i t r a) [ yes h ↦ inl h | no d ↦ inr d ])) [
        | inl h ↦ yes (h.0, h.2)
        | inr d ↦ no (λ h. d h.0 h.1.here h.1)
      ]

  has_back : (r i : ℕ) → Rank f D i r → (s : ℕ) × (p : List ℕ) × Back f D s r p i
  has_back zero i h = (i, [], (h, refl, refl))
  has_back (suc r) i h =
      let k = rank_back f D i r h in
      let x : Brought f D i (D i) r k.0 =
      record { here = k.1.here; enters = k.1.enters; gives = k.1.carries; from = k.2 } in
      let m = lowest (Brought f D i (D i) r) (brought i (D i) r) k.0 x in
      let b = has_back r (f.source m.0) m.2.holds.from in
      (b.0, b.1 ++ (m.0 ∷ []), (m.0, b.1, h, m.2, b.2, refl))

  module _ (i : ℕ) (t : ℤ) (arrives : arrival late f D i ≡ at t) where
    has_last : (r : ℕ) × (a : ℕ) × (r < f.nodes) × Last f D i r a
    has_last =
        let g = (arrival_at late f D i t).0 arrives in
        let k = rank f good D least (f.source g.0) (good.leaves g.0 g.1.here) in
        let x : Brought f D i t k.0 g.0 =
        record { here = g.1.here; enters = g.1.enters; gives = g.1.gives; from = k.2 } in
        let m = lowest (λ r. (a : ℕ) × Brought f D i t r a) (some_brought i t) k.0 (g.0, x) in
        let n = lowest (Brought f D i t m.0) (brought i t m.0) m.2.holds.0 m.2.holds.1 in
        (m.0, n.0, omega arith, record { time = t; arrives = arrives; least = m.2; lowest = n.2 })

    pub has_path : (s : ℕ) × (p : List ℕ) × (length p ≤ f.nodes) × PathTo f D i s p
    has_path =
        let l = has_last in
        let a = l.1 in
        let b = has_back l.0 (f.source a) l.3.lowest.holds.from in
        let p = b.1 ++ (a ∷ []) in
        let h : PathTo f D i b.0 p = record { rank = l.0; last = a; before = b.1; ends = l.3; back = b.2; whole = refl } in
        (b.0, p, omega (arith, path_length f D i b.0 p h), h)

  -- so has every node that an arc enters
  pub entered_path : (i a : ℕ) → a < f.arcs → f.target a ≡ i → (s : ℕ) × (p : List ℕ) × (length p ≤ f.nodes) × PathTo f D i s p
  entered_path i a l e = go (arrival late f D i) refl
    where
      go : (w : When) → arrival late f D i ≡ w → (s : ℕ) × (p : List ℕ) × (length p ≤ f.nodes) × PathTo f D i s p
      go none k = absurd ((arrival_none late f D i).0 k a l e)
      go (at t) k = has_path i t k
