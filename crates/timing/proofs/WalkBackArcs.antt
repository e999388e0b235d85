-- Arcs of a walk back, in order of travel: one more at either end, their leads, and how they are written to a buffer.
use mathlib.Core.Path.{◌≡◌, refl, sym, ap, ◌∙◌}
use mathlib.Core.List.{List, [], ◌∷◌, ◌++◌, append_assoc}
use Prim.Native.Nat.{ℕ, zero, suc, ◌+◌, ◌-◌, ◌<◌, ◌≤◌}
use native.Mathlib.Omega.{arith}
use native.Mathlib.Numerals.{add-one}
use lib.ListN.{length, take, drop, set, length-append, take-append-drop}
use lib.Seq.{length-take-le, drop-cons, set_at, take_at, drop-append-add, drop-drop}
use Rattle.timing.specs.Inside.Ring.{route_back, written, leads, turned}

pub leads_join : (lead : ℕ → ℕ) (p q : List ℕ) → leads lead (p ++ q) ≡ leads lead p + leads lead q
leads_join lead [] q = omega arith
leads_join lead (a ∷ p) q = omega (arith, leads_join lead p q)

module _ (arc : ℕ → ℕ) where
  -- an arc before the others
  pub route_cons : (from d : ℕ) → from ≤ d → route_back arc (d + 1) (d + 1 - from) ≡ arc d ∷ route_back arc d (d - from)
  route_cons from d h = let e : d + 1 - from ≡ suc (d - from) = omega arith in rw (e, add-one)

  -- an arc after the others
  route_snoc : (high x : ℕ) → x < high → route_back arc high (suc x) ≡ route_back arc high x ++ (arc (high - suc x) ∷ [])
  route_snoc zero x h = let z : ⊥ = omega arith in absurd z
  route_snoc (suc high) zero h = let e : suc high - 1 ≡ high = omega arith in rw e
  route_snoc (suc high) (suc x) h =
      let e : suc high - suc (suc x) ≡ high - suc x = omega arith in
      rw e (ap (λ (l : List ℕ). arc high ∷ l) (route_snoc high x (omega arith)))

  pub route_length : (high x : ℕ) → x ≤ high → length (route_back arc high x) ≡ x
  route_length high zero h = refl
  route_length zero (suc x) h = let z : ⊥ = omega arith in absurd z
  route_length (suc high) (suc x) h = ap suc (route_length high x (omega arith))

  pub written_none : (high at : ℕ) (buffer : List ℕ) → written arc high 0 at buffer ≡ buffer
  written_none high at buffer = let e : at + 0 ≡ at = omega arith in rw e (take-append-drop at buffer)

  pub written_more : (high x at : ℕ) (buffer : List ℕ) (v : ℕ) → x < high → at + x < length buffer → v ≡ arc (high - 1 - x) →
      set (written arc high x at buffer) (at + x) v ≡ written arc high (x + 1) at buffer
  written_more high x at buffer v h k e =
      let i : high - 1 - x ≡ high - suc x = omega arith in
      let w : v ≡ arc (high - suc x) = e ∙ ap arc i in
      let p = take at buffer in
      let q = route_back arc high x in
      let size : length (p ++ q) ≡ at + x = length-append p q ∙ rw (length-take-le at buffer (omega arith), route_length high x (omega arith)) in
      let s : at + suc x ≡ suc (at + x) = omega arith in
      rw (add-one, route_snoc high x h, s, ← w, append_assoc, drop-cons buffer (at + x) 0 k, ← append_assoc) (set_at (p ++ q) _ _ v (at + x) size ∙ append_assoc p q _)

  pub leads_more : (lead : ℕ → ℕ) (from d : ℕ) → from ≤ d →
      leads lead (route_back arc (d + 1) (d + 1 - from)) ≡ lead (arc d) + leads lead (route_back arc d (d - from))
  leads_more lead from d h = ap (leads lead) (route_cons from d h)

  module _ (first low second : ℕ) (h : first < low) (k : low ≤ second) where
    pub turned_length : length (turned arc first low second) ≡ second - first
    turned_length =
        length-append (route_back arc low (low - first)) (route_back arc second (second - low))
        ∙ rw (route_length low (low - first) (omega arith), route_length second (second - low) (omega arith)) (omega arith)

    -- the two parts of a ring written one after the other
    pub turned_written : (buffer : List ℕ) →
        written arc second (second - low) (low - first) (written arc low (low - first) 0 buffer)
        ≡ turned arc first low second ++ drop (second - first) buffer
    turned_written buffer =
        let n = low - first in
        let q = route_back arc low n in
        let p = route_back arc second (second - low) in
        let size : length q ≡ n = route_length low n (omega arith) in
        let front : 0 + n ≡ n = omega arith in
        let whole : n + (second - low) ≡ second - first = omega arith in
        let tail : drop (n + (second - low)) (q ++ drop n buffer) ≡ drop (second - first) buffer =
        ap (λ (x : ℕ). drop (x + (second - low)) (q ++ drop n buffer)) (sym size)
        ∙ drop-append-add q (drop n buffer) (second - low)
        ∙ drop-drop (second - low) n buffer
        ∙ ap (λ (x : ℕ). drop x buffer) whole in
        rw (front, take_at q (drop n buffer) n size, tail) (sym (append_assoc q p _))
