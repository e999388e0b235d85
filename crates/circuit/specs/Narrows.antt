-- Demand 3's relation: the second circuit only narrows delay windows, lowers setup or hold times, or drops arcs.
use Rattle.std.specs.Prelude.{◌≡◌, ℕ, ◌≤◌, ◌<◌, ℤ, ◌≤ℤ◌}
use Rattle.flow.specs.Flow.{late, early}
use Rattle.flow.specs.Bounds.{Nested}
use Rattle.circuit.specs.Circuit.{Circuit}
use Rattle.circuit.specs.Times.{arrives, setup_slack, hold_slack, Met}

-- the arc a of d is the arc b of c, with a window inside b's
pub record Stays (c : Circuit) (b : ℕ) (d : Circuit) (a : ℕ) : Type 0 where
  pub here : b < c.arcs
  pub from : c.from b ≡ d.from a
  pub to : c.to b ≡ d.to a
  pub shortest : c.shortest b ≤ d.shortest a
  pub longest : d.longest a ≤ c.longest b

pub record Narrows (c d : Circuit) : Type 0 where
  -- the same clock, phases and kinds
  pub cycle : d.cycle ≡ c.cycle
  pub phases : d.phases ≡ c.phases
  pub synchronizers : d.synchronizers ≡ c.synchronizers
  pub closing : (p : ℕ) → p < c.phases → d.closing p ≡ c.closing p
  pub active : (p : ℕ) → p < c.phases → d.active p ≡ c.active p
  pub phase : (i : ℕ) → i < c.synchronizers → d.phase i ≡ c.phase i
  pub kind : (i : ℕ) → i < c.synchronizers → d.kind i ≡ c.kind i
  -- lower setup and hold times
  pub setup : (i : ℕ) → i < c.synchronizers → d.setup i ≤ c.setup i
  pub hold : (i : ℕ) → i < c.synchronizers → d.hold i ≤ c.hold i
  -- narrower windows
  pub least : (i : ℕ) → i < c.synchronizers → c.least i ≤ d.least i
  pub greatest : (i : ℕ) → i < c.synchronizers → d.greatest i ≤ c.greatest i
  -- no new arcs, and a synchronizer that had arcs in keeps one
  pub arc : (a : ℕ) → a < d.arcs → (b : ℕ) × Stays c b d a
  pub kept : (b : ℕ) → b < c.arcs → (a : ℕ) × (a < d.arcs) × (d.to a ≡ c.to b)

-- what demand 3 concludes at a synchronizer: E and D are the first circuit's departures, E' and D' the second's. The second's times
-- lie inside the first's window, its early ones no later than its late ones, and each check that was met is met
pub record Narrowed (c d : Circuit) (E D E' D' : ℕ → ℤ) (i : ℕ) : Type 0 where
  pub early_departure : E i ≤ℤ E' i
  pub departures : E' i ≤ℤ D' i
  pub late_departure : D' i ≤ℤ D i
  pub early_arrival : Nested early (arrives early d E' i) (arrives early c E i)
  pub arrivals : Nested late (arrives early d E' i) (arrives late d D' i)
  pub late_arrival : Nested late (arrives late d D' i) (arrives late c D i)
  pub setup : Met (setup_slack c i) (arrives late c D i) → Met (setup_slack d i) (arrives late d D' i)
  pub hold : Met (hold_slack c i) (arrives early c E i) → Met (hold_slack d i) (arrives early d E' i)
