-- A round that still changes a node, as late as the number of nodes, shows a ring of gain above zero. An arc raised the node, and
-- its source rose in the round before: so a chain of arcs goes back to the first round. It has more places than there are nodes,
-- so a node comes twice. From the one place to the other the walk is closed, its nodes are distinct, and it adds to the time:
-- the rounds rose by no more than its gain. It may be started at any of its nodes.
use mathlib.Core.Path.{◌≡◌, refl, sym}
use mathlib.Core.Bool.{Bool, true, false}
use mathlib.Core.List.{List, [], ◌∷◌, ◌++◌}
use Prim.Native.Nat.{ℕ, zero, suc, ◌+◌, ◌-◌, ◌<◌, ◌≤◌}
use native.Mathlib.Omega.{arith}
use lib.IntN.{ℤ, pos, ◌+ℤ◌}
use lib.ListN.{length}
use lib.Signed.{◌≤ℤ◌, ◌<ℤ◌}
use Rattle.ticks.proofs.Ints.{ints, sum}
use Rattle.ticks.proofs.Order.{≤ℤ_trans, ≤ℤ_eq, ≤ℤ-<ℤ_trans}
use Rattle.ticks.proofs.Extremes.{max_left, greater}
use Rattle.flow.specs.Flow.{Flow, Good, Side, late, early, When, at, brings, departs, next}
use Rattle.flow.specs.Inside.Rounds.{round}
use Rattle.flow.specs.Inside.Within.{Gives}
use Rattle.flow.specs.Walk.{Step, gain, GrowingRing}
use Rattle.flow.specs.Inside.WalkBack.{route_back}
use Rattle.flow.proofs.Pigeonhole.{Fresh, pigeons}
use Rattle.flow.proofs.Arrival.{Found, nothing, found, find}
use Rattle.flow.proofs.OneRound.{launch_next}
use Rattle.flow.proofs.Rounds.{rises_by}
use Rattle.flow.proofs.Joined.{gain_join}
use Rattle.flow.proofs.Closing.{Steps, front, rest, ring_closed, ring_distinct}

-- the arc a brings the latch i all of the time t from E, and no more than the time u from D
record Pull (f : Flow) (D E : ℕ → ℤ) (i : ℕ) (u t : ℤ) (a : ℕ) : Type 0 where
  here : a < f.arcs
  enters : f.target a ≡ i
  holds : f.latch i ≡ true
  most : brings f D a ≤ℤ u
  carry : t ≤ℤ brings f E a

-- of two arrivals on one side: late, the arc that gives the second; early, the arc that gives the first
shared : (s : Side) (f : Flow) (D E : ℕ → ℤ) (i n : ℕ) (u t : ℤ) (a b : ℕ) → Gives s f D i n u a → Gives s f E i n t b →
    (c : ℕ) × (c < n) × (f.target c ≡ i) × (brings f D c ≤ℤ u) × (t ≤ℤ brings f E c)
shared late f D E i n u t a b h k = (b, k.here, k.enters, h.bounds b k.here k.enters, ≤ℤ_eq (sym k.gives))
shared early f D E i n u t a b h k = (a, h.here, h.enters, ≤ℤ_eq h.gives, k.bounds a h.here h.enters)

-- a latch that departs above its launch is pulled by an arc; in other departures that arc brings no more than the latch's
pull : (s : Side) (f : Flow) (D E : ℕ → ℤ) (i : ℕ) → f.launch i <ℤ next s f E i →
    (a : ℕ) × Pull f D E i (next s f D i) (next s f E i) a
unfolding next
pull s f D E i h = go (f.latch i) refl (find s f D i) (find s f E i) h
  where
    go : (b : Bool) → f.latch i ≡ b → {w v : When} → Found s f D i f.arcs w → Found s f E i f.arcs v →
        f.launch i <ℤ departs b (f.launch i) v →
        (a : ℕ) × Pull f D E i (departs b (f.launch i) w) (departs b (f.launch i) v) a
    go false e k m h = let z : ⊥ = omega ints in absurd z
    go true e k (nothing m) h = let z : ⊥ = omega ints in absurd z
    go true e (nothing k) (found b m) h = absurd (k b m.here m.enters)
    go true e (found {t = u} a k) (found {t} b m) h =
        let c = shared s f D E i f.arcs u t a b k m in (
          c.0,
          record {
            here = c.1;
            enters = c.2;
            holds = e;
            most = ≤ℤ_trans c.3 (max_left u (f.launch i));
            carry = omega (ints, greater t (f.launch i), c.4);
          },
        )

-- round n changed i
abbrev RoseInRound : Side → Flow → ℕ → ℕ → Type 0
RoseInRound s f zero i = Unit {0}
RoseInRound s f (suc n) i = round s f n i <ℤ round s f (suc n) i

-- the arc a from i changes the latch j at round n + 1
pub record Link (s : Side) (f : Flow) (n i a j : ℕ) : Type 0 where
  pub step : Step f i a
  pub enters : f.target a ≡ j
  pub carry : round s f (suc n) j ≤ℤ (round s f n i +ℤ f.weight a)
  pub rose : round s f n j <ℤ round s f (suc n) j

link : (s : Side) (f : Flow) (n j : ℕ) (D : ℕ → ℤ) (u : ℤ) (a : ℕ) →
    RoseInRound s f (suc n) j → Pull f D (round s f n) j u (round s f (suc n) j) a → Link s f n (f.source a) a j
link s f n j D u a h p = record {
  step = record { here = p.here; from = refl; holds = rw p.enters p.holds };
  enters = p.enters;
  carry = p.carry;
  rose = h;
}

-- where round n + 1 changed j, an arc did, from a node that round n changed
back : (s : Side) (f : Flow) (n j : ℕ) → RoseInRound s f (suc n) j → (a : ℕ) × Link s f n (f.source a) a j × RoseInRound s f n (f.source a)
unfolding round
back s f zero j h = let p = pull s f f.launch f.launch j h in (p.0, link s f zero j f.launch _ p.0 h p.1, tt)
back s f (suc n) j h =
    let D = round s f n in
    let E = round s f (suc n) in
    let p = pull s f D E j (≤ℤ-<ℤ_trans (launch_next s f D j) h) in
    let i = f.source p.0 in
    let w = f.weight p.0 in
    (p.0, link s f (suc n) j D _ p.0 h p.1, omega (ints, h, p.1.most, p.1.carry, sum (D i) w, sum (E i) w))

-- nodes back from one that round n changed, each changed by the arc from the next
pub record RaisedTrail (s : Side) (f : Flow) (n : ℕ) (node arc : ℕ → ℕ) : Type 0 where
  pub small : (d : ℕ) → d ≤ n → node d < f.nodes
  pub link : (d k : ℕ) → d + suc k ≡ n → Link s f k (node (suc d)) (arc d) (node d)

-- a trail back from u
record Chain (s : Side) (f : Flow) (n u : ℕ) : Type 0 where
  node : ℕ → ℕ
  arc : ℕ → ℕ
  ends : node 0 ≡ u
  trail : RaisedTrail s f n node arc

abbrev push : ℕ → (ℕ → ℕ) → ℕ → ℕ
push x g zero = x
push x g (suc d) = g d

extend : (s : Side) (f : Flow) (n u a : ℕ) → u < f.nodes →
    Link s f n (f.source a) a u → Chain s f n (f.source a) → Chain s f (suc n) u
extend s f n u a l h c = record {
  node = push u c.node;
  arc = push a c.arc;
  ends = refl;
  trail = record { small = small; link = links };
}
  where
    small : (d : ℕ) → d ≤ suc n → push u c.node d < f.nodes
    small zero k = l
    small (suc d) k = c.trail.small d (omega arith)

    links : (d k : ℕ) → d + suc k ≡ suc n → Link s f k (c.node d) (push a c.arc d) (push u c.node d)
    links zero k e = let q : k ≡ n = omega arith in rw (q, c.ends) h
    links (suc d) k e = c.trail.link d k (omega arith)

chain : (s : Side) (f : Flow) → Good f → (n u : ℕ) → u < f.nodes → RoseInRound s f n u → Chain s f n u
chain s f good zero u l h = record {
  node = λ d. u;
  arc = λ d. 0;
  ends = refl;
  trail = record { small = λ d k. l; link = λ d k e. let z : ⊥ = omega arith in absurd z };
}
chain s f good (suc n) u l h = let b = back s f n u h in
    extend s f n u b.0 l b.1 (chain s f good n (f.source b.0) (good.leaves b.0 b.1.step.here) b.2)

-- what adds to a time is not empty
pub grows_some : (f : Flow) (p : List ℕ) → pos 0 <ℤ gain f p → 0 < length p
grows_some f [] h = omega ints
grows_some f (a ∷ p) h = omega arith

-- what the rounds say of a walk's gain
module _ (s : Side) (f : Flow) (n : ℕ) (node arc : ℕ → ℕ) (trail : RaisedTrail s f n node arc) where
  pub trail_steps : Steps f n node arc
  trail_steps = record {
    small = trail.small;
    step = λ d l. (trail.link d (n - suc d) (omega arith)).step;
    enters = λ d l. (trail.link d (n - suc d) (omega arith)).enters;
  }

  along : (d b a : ℕ) → a + d ≡ b → (m k : ℕ) → b + m ≡ n → a + k ≡ n →
      round s f k (node a) ≤ℤ (round s f m (node b) +ℤ gain f (route_back arc b d))
  along zero b a e m k p q =
      let x : b ≡ a = omega arith in
      let y : m ≡ k = omega arith in
      rw (x, y) (omega (ints, sum (round s f k (node a)) (pos 0)))
  along (suc d) zero a e m k p q = let z : ⊥ = omega arith in absurd z
  along (suc d) (suc b) a e m k p q =
      let h = along d b a (omega arith) (suc m) k (omega arith) q in
      let l = trail.link b m (omega arith) in
      let g = gain f (route_back arc b d) in
      let w = f.weight (arc b) in
      let t = round s f m (node (suc b)) in
      omega (ints, h, l.carry, sum (round s f (suc m) (node b)) g, sum t w, sum w g, sum t (w +ℤ g))

  module _ (a b low : ℕ) (above : a < low) (below : low ≤ b) (bound : b ≤ n) (same : node a ≡ node b) (fresh : Fresh node b) where
    abbrev ahead : List ℕ
    ahead = front f n node arc trail_steps a b low above below bound same fresh

    abbrev behind : List ℕ
    behind = rest f n node arc trail_steps a b low above below bound same fresh

    pub ring_grows : Good f → pos 0 <ℤ gain f (ahead ++ behind)
    ring_grows good =
        let k = n - suc a in
        let l = rw same at (trail.link a k (omega arith)).rose in
        let r = rises_by s f good (k - (n - b)) (n - b) k (omega arith) (node b) (trail.small b bound) in
        let p = rw same at (along (low - a) low a (omega arith) (n - low) (suc (n - suc a)) (omega arith) (omega arith)) in
        let q = along (b - low) b low (omega arith) (n - b) (n - low) (omega arith) (omega arith) in
        omega (
          ints,
          l,
          r,
          p,
          q,
          gain_join f ahead behind,
          sum (gain f ahead) (gain f behind),
          sum (round s f (n - low) (node low)) (gain f ahead),
          sum (round s f (n - b) (node b)) (gain f behind),
        )

    abbrev pub turned_ring : Good f → GrowingRing f
    turned_ring good = record {
      ring = record {
        start = node low;
        path = ahead ++ behind;
        some = grows_some f (ahead ++ behind) (ring_grows good);
        closed = ring_closed f n node arc trail_steps a b low above below bound same fresh;
        distinct = ring_distinct f n node arc trail_steps a b low above below bound same fresh;
      };
      grows = ring_grows good;
    }

pub growing : (s : Side) (f : Flow) → Good f → (n u : ℕ) → u < f.nodes →
    round s f n u <ℤ round s f (suc n) u → f.nodes ≤ suc n → GrowingRing f
growing s f good n u l h big =
    let c = chain s f good (suc n) u l h in
    let t = pigeons f.nodes (suc (suc n)) c.node (λ i k. c.trail.small i (omega arith)) (omega arith) in
    turned_ring s f (suc n) c.node c.arc c.trail
    t.first t.second t.second t.order (omega arith) (omega (arith, t.bound)) t.same t.fresh good
