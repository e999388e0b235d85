-- The changes that demand 3 allows, one at a time: another number for one synchronizer or arc, or one arc dropped.
use Rattle.std.specs.Prelude.{cond, List, [], ◌∷◌, ◌≢◌, ◌≡◌, ℕ, suc, ◌-◌, ◌≤◌, ◌<◌, ltb, eqb}
use Rattle.circuit.specs.Circuit.{Circuit}

-- f, but x at i
unfoldable pub put : (ℕ → ℕ) → ℕ → ℕ → ℕ → ℕ
put f i x j = cond (eqb j i) x (f j)

-- the numbers with a left out: 0, .., a - 1, a + 1, ..
unfoldable pub past : ℕ → ℕ → ℕ
past a b = cond (ltb b a) b (suc b)

-- c with these setup and hold times and windows, and so many arcs, of which a was the arc `was a` of c
abbrev pub revised : Circuit → ℕ → (ℕ → ℕ) → (setup hold least greatest shortest longest : ℕ → ℕ) → Circuit
revised c arcs was setup hold least greatest shortest longest = record {
  cycle = c.cycle;
  phases = c.phases;
  synchronizers = c.synchronizers;
  arcs = arcs;
  closing = c.closing;
  active = c.active;
  phase = c.phase;
  kind = c.kind;
  setup = setup;
  hold = hold;
  least = least;
  greatest = greatest;
  from = λ a. c.from (was a);
  to = λ a. c.to (was a);
  shortest = λ a. shortest (was a);
  longest = λ a. longest (was a);
}

-- a number of a synchronizer or arc, and what it becomes; or an arc goes
pub data Change : Type 0 where
  setup : ℕ → ℕ → Change
  hold : ℕ → ℕ → Change
  least : ℕ → ℕ → Change
  greatest : ℕ → ℕ → Change
  shortest : ℕ → ℕ → Change
  longest : ℕ → ℕ → Change
  drop : ℕ → Change

-- a setup or hold time falls, an end of a window moves inside it, an arc goes that is not the only one to where it leads
abbrev pub Allowed : Circuit → Change → Type 0
Allowed c (setup i x) = x ≤ c.setup i
Allowed c (hold i x) = x ≤ c.hold i
Allowed c (least i x) = (c.least i ≤ x) × (x ≤ c.greatest i)
Allowed c (greatest i x) = (c.least i ≤ x) × (x ≤ c.greatest i)
Allowed c (shortest a x) = (c.shortest a ≤ x) × (x ≤ c.longest a)
Allowed c (longest a x) = (c.shortest a ≤ x) × (x ≤ c.longest a)
Allowed c (drop a) = (a < c.arcs) × (other : ℕ) × (other < c.arcs) × (other ≢ a) × (c.to other ≡ c.to a)

-- what the change is made to is in the circuit
abbrev pub Applies : Circuit → Change → Type 0
Applies c (setup i x) = i < c.synchronizers
Applies c (hold i x) = i < c.synchronizers
Applies c (least i x) = i < c.synchronizers
Applies c (greatest i x) = i < c.synchronizers
Applies c (shortest a x) = a < c.arcs
Applies c (longest a x) = a < c.arcs
Applies c (drop a) = a < c.arcs

abbrev pub changed : Circuit → Change → Circuit
changed c (setup i x) = revised c c.arcs (λ b. b) (put c.setup i x) c.hold c.least c.greatest c.shortest c.longest
changed c (hold i x) = revised c c.arcs (λ b. b) c.setup (put c.hold i x) c.least c.greatest c.shortest c.longest
changed c (least i x) = revised c c.arcs (λ b. b) c.setup c.hold (put c.least i x) c.greatest c.shortest c.longest
changed c (greatest i x) = revised c c.arcs (λ b. b) c.setup c.hold c.least (put c.greatest i x) c.shortest c.longest
changed c (shortest a x) = revised c c.arcs (λ b. b) c.setup c.hold c.least c.greatest (put c.shortest a x) c.longest
changed c (longest a x) = revised c c.arcs (λ b. b) c.setup c.hold c.least c.greatest c.shortest (put c.longest a x)
changed c (drop a) = revised c (c.arcs - 1) (past a) c.setup c.hold c.least c.greatest c.shortest c.longest

-- one after the other, each allowed in the circuit that those before it leave
abbrev pub changed_by : Circuit → List Change → Circuit
changed_by c [] = c
changed_by c (x ∷ xs) = changed_by (changed c x) xs

abbrev pub AllAllowed : Circuit → List Change → Type 0
AllAllowed c [] = Unit {0}
AllAllowed c (x ∷ xs) = Allowed c x × AllAllowed (changed c x) xs
