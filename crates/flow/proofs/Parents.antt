-- Parents: of each node that departs after its launch, an arc that gave it its departure, or less than that arc gives by now. Where it still gives
-- exactly that, its source was stamped before the node. So a walk back over parents that comes to a node twice has closed a ring of
-- gain above zero: with gain 0 all its arcs would give exactly the departures, and the stamps would fall all the way round.
use mathlib.Core.Path.{◌≡◌, refl}
use mathlib.Core.Bool.{true}
use mathlib.Core.List.{List, ◌++◌}
use mathlib.Core.Logic.{inl, inr}
use Prim.Native.Nat.{ℕ, zero, suc, ◌+◌, ◌-◌, ◌<◌, ◌≤◌}
use native.Mathlib.Omega.{arith}
use native.Mathlib.Decide.{ℕ_discrete}
use lib.IntN.{ℤ, pos, ◌+ℤ◌}
use lib.Signed.{◌≤ℤ◌, ◌<ℤ◌}
use Rattle.ticks.proofs.Ints.{ints, sum}
use Rattle.ticks.proofs.Order.{compare_ℤ, ≤ℤ_eq}
use Rattle.flow.specs.Flow.{Flow, late, brings}
use Rattle.flow.specs.Inside.Rounds.{round}
use Rattle.flow.specs.Walk.{gain, GrowingRing}
use Rattle.flow.specs.Inside.WalkBack.{route_back}
use Rattle.flow.proofs.Pigeonhole.{Fresh}
use Rattle.flow.proofs.Joined.{gain_join}
use Rattle.flow.proofs.Closing.{Steps, front, rest, ring_closed, ring_distinct}
use Rattle.flow.proofs.Chain.{grows_some}
use Rattle.flow.proofs.OneRound.{arc_next}

-- the arc a is a parent of node i, by the stamps t
pub record Parent (f : Flow) (E : ℕ → ℤ) (t : ℕ → ℕ) (i a : ℕ) : Type 0 where
  pub here : a < f.arcs
  pub enters : f.target a ≡ i
  pub holds : f.latch i ≡ true
  pub gives : E i ≤ℤ brings f E a
  pub older : E i ≡ brings f E a → t (f.source a) < t i

-- a walk back over parents
pub record Line (f : Flow) (E : ℕ → ℤ) (t : ℕ → ℕ) (n : ℕ) (node arc : ℕ → ℕ) : Type 0 where
  pub small : (d : ℕ) → d ≤ n → node d < f.nodes
  pub parent : (d : ℕ) → d < n → Parent f E t (node d) (arc d)
  pub next : (d : ℕ) → d < n → f.source (arc d) ≡ node (suc d)

module _ (f : Flow) (E : ℕ → ℤ) (t : ℕ → ℕ) (n : ℕ) (node arc : ℕ → ℕ) (line : Line f E t n node arc) where
  pub line_steps : Steps f n node arc
  line_steps = record {
    small = line.small;
    step = λ d l. let p = line.parent d l in record { here = p.here; from = line.next d l; holds = rw p.enters p.holds };
    enters = λ d l. (line.parent d l).enters;
  }

  -- from place b to place a: less than the walk gives, or exactly that and the stamps have fallen
  record Falls (b a : ℕ) (g : ℤ) : Type 0 where
    most : E (node a) ≤ℤ (E (node b) +ℤ g)
    fallen : (a ≡ b → ⊥) → E (node a) ≡ (E (node b) +ℤ g) → t (node b) < t (node a)

  along : (d b a : ℕ) → a + d ≡ b → b ≤ n → Falls b a (gain f (route_back arc b d))
  along zero b a e l =
      let x : b ≡ a = omega arith in
      rw x (record { most = omega (ints, sum (E (node a)) (pos 0)); fallen = λ d q. absurd (d refl) })
  along (suc d) zero a e l = let z : ⊥ = omega arith in absurd z
  along (suc d) (suc b) a e l =
      let h = along d b a (omega arith) (omega arith) in
      let p = line.parent b (omega arith) in
      let from = line.next b (omega arith) in
      let g = gain f (route_back arc b d) in
      let w = f.weight (arc b) in
      let x = E (node (suc b)) in
      let gives = rw from at p.gives in
      record {
        most = omega (ints, h.most, gives, sum (E (node b)) g, sum x w, sum w g, sum x (w +ℤ g));
        fallen = λ k q.
            let tight : E (node b) ≡ (x +ℤ w) = omega (ints, q, h.most, gives, sum (E (node b)) g, sum x w, sum w g, sum x (w +ℤ g)) in
            let old = rw from at p.older tight in
            elim (ℕ_discrete a b) [
              | yes s ↦ rw s old
              | no s ↦ (
                  let even : E (node a) ≡ (E (node b) +ℤ g) = omega (ints, q, tight, sum (E (node b)) g, sum x w, sum w g, sum x (w +ℤ g)) in
                  omega (arith, old, h.fallen s even))
            ];
      }

  module _ (a b low : ℕ) (above : a < low) (below : low ≤ b) (bound : b ≤ n) (same : node a ≡ node b) (fresh : Fresh node b) where
    abbrev ahead : List ℕ
    ahead = front f n node arc line_steps a b low above below bound same fresh

    abbrev behind : List ℕ
    behind = rest f n node arc line_steps a b low above below bound same fresh

    pub line_grows : pos 0 <ℤ gain f (ahead ++ behind)
    line_grows =
        let p = along (low - a) low a (omega arith) (omega arith) in
        let q = along (b - low) b low (omega arith) bound in
        let g = gain f ahead in
        let h = gain f behind in
        elim (compare_ℤ (pos 0) (gain f (ahead ++ behind))) [
          | inl k ↦ k
          | inr k ↦ absurd (stuck p q k)
        ]
      where
        stuck : Falls low a (gain f ahead) → Falls b low (gain f behind) → gain f (ahead ++ behind) ≤ℤ pos 0 → ⊥
        stuck p q k =
            let g = gain f ahead in
            let h = gain f behind in
            let x = E (node low) in
            let y = E (node b) in
            let facts = gain_join f ahead behind in
            let m = rw same at p.most in
            let even : E (node a) ≡ (x +ℤ g) = rw same (omega (ints, k, facts, m, q.most, sum g h, sum x g, sum y h)) in
            let flat : x ≡ (y +ℤ h) = omega (ints, k, facts, m, q.most, sum g h, sum x g, sum y h) in
            let one = rw same at (p.fallen (λ z. omega arith) even) in
            elim (ℕ_discrete low b) [
              | yes z ↦ (let o = rw z at one in omega arith)
              | no z ↦ omega (arith, one, q.fallen z flat)
            ]

    abbrev pub line_ring : GrowingRing f
    line_ring = record {
      ring = record {
        start = node low;
        path = ahead ++ behind;
        some = grows_some f (ahead ++ behind) line_grows;
        closed = ring_closed f n node arc line_steps a b low above below bound same fresh;
        distinct = ring_distinct f n node arc line_steps a b low above below bound same fresh;
      };
      grows = line_grows;
    }

-- a walk back over parents that ends at a launch gives no more than as many rounds
pub line_round : (f : Flow) (E : ℕ → ℤ) (t : ℕ → ℕ) (n : ℕ) (node arc : ℕ → ℕ) → Line f E t n node arc → E (node n) ≡ f.launch (node n) →
    (k d : ℕ) → d + k ≡ n → E (node d) ≤ℤ round late f k (node d)
unfolding round
line_round f E t n node arc line ends zero d e = let q : d ≡ n = omega arith in rw q (≤ℤ_eq ends)
line_round f E t n node arc line ends (suc k) d e =
    let p = line.parent d (omega arith) in
    let h = line_round f E t n node arc line ends k (suc d) (omega arith) in
    let from = line.next d (omega arith) in
    let up = rw (p.enters, from) at (arc_next f (round late f k) (arc d) p.here (rw p.enters p.holds)) in
    let w = f.weight (arc d) in
    let x = E (node (suc d)) in
    let y = round late f k (node (suc d)) in
    omega (ints, rw from at p.gives, h, up, sum x w, sum y w)
