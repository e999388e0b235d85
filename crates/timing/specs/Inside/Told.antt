-- When departures are known.
use Rattle.std.specs.Prelude.{List, ℕ}
use Rattle.flow.specs.Flow.{Side, Least}
use Rattle.circuit.specs.Circuit.{Circuit}
use Rattle.circuit.specs.Clock.{flow}
use Rattle.tables.specs.Inside.Net.{times_of, Ranged}
use Rattle.tables.specs.Inside.Models.{lowered}

-- the table has the least departures of one side, raised
pub record LeastTable (s : Side) (c : Circuit) (table : List ℕ) : Type 0 where
  pub least : Least s (flow s c) (lowered (times_of table))
  pub ranged : Ranged c.synchronizers (times_of table)
