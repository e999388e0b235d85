-- The clock: shifts between phases, when a synchronizer departs by itself, and the two flows of a circuit.
use Rattle.std.specs.Prelude.{Bool, cond, ℕ, ◌+◌, ltb, eqb, ℤ, pos, ◌-ℤ◌}
use Rattle.flow.specs.Flow.{Flow, Side, late, early}
use Rattle.circuit.specs.Circuit.{Circuit}

-- the tick of the cycle at which a phase closes. Tc is tick 0 of the next cycle
unfoldable pub tick : Circuit → ℕ → ℕ
tick c p = cond (eqb (c.closing p) c.cycle) 0 (c.closing p)

-- phases close together where they close at one tick: so a phase closing at 0 closes together with one closing at Tc
unfoldable pub together : Circuit → ℕ → ℕ → Bool
together c p q = eqb (tick c p) (tick c q)

-- the shift from phase p to phase q (docs/RULES.md, "The equations"). Between phases that close together it is Tc, and so from a phase to itself
unfoldable pub shift : Circuit → ℕ → ℕ → ℤ
shift c p q = cond (together c p q) (pos c.cycle)
    (cond (ltb p q) (pos (c.closing q) -ℤ pos (c.closing p)) (pos (c.cycle + c.closing q) -ℤ pos (c.closing p)))

-- the shift along an arc
abbrev pub across : Circuit → ℕ → ℤ
across c a = shift c (c.phase (c.from a)) (c.phase (c.to a))

-- kind 0 is a latch, kind 1 a flip-flop
unfoldable pub is_latch : Circuit → ℕ → Bool
is_latch c i = eqb (c.kind i) 0

-- when its phase opens: Tc - T
unfoldable pub opening : Circuit → ℕ → ℤ
opening c i = pos c.cycle -ℤ pos (c.active (c.phase i))

-- a latch departs no sooner than its opening, a flip-flop departs at Tc
unfoldable pub launch : Circuit → ℕ → ℤ
launch c i = cond (is_latch c i) (opening c i) (pos c.cycle)

-- the delay of an arc and of the synchronizer that it leaves: the greatest for late times, the least for early ones
unfoldable pub delay : Side → Circuit → ℕ → ℕ
delay late c a = c.greatest (c.from a) + c.longest a
delay early c a = c.least (c.from a) + c.shortest a

unfoldable pub weight : Side → Circuit → ℕ → ℤ
weight s c a = pos (delay s c a) -ℤ across c a

abbrev pub flow : Side → Circuit → Flow
flow s c = record {
  nodes = c.synchronizers;
  arcs = c.arcs;
  source = c.from;
  target = c.to;
  weight = weight s c;
  launch = launch c;
  latch = is_latch c;
}
