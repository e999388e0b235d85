-- What a valid image says of its circuit, under the circuit's names: all that the laws above this file use of validity.
use mathlib.Core.Path.{◌≡◌}
use mathlib.Core.List.{List}
use mathlib.Core.Logic.{◌⊎◌}
use Prim.Native.Nat.{ℕ, ◌≤◌, ◌<◌}
use Rattle.image.specs.Valid.{Valid}
use Rattle.image.proofs.Orders.{closing_rises, arcs_rise}
use Rattle.flow.specs.Flow.{Side, Good}
use Rattle.circuit.specs.Circuit.{Circuit, circuit_of}
use Rattle.circuit.specs.Clock.{flow}

pub record Sound (c : Circuit) : Type 0 where
  pub some_cycle : 1 ≤ c.cycle
  pub cycle : c.cycle ≤ 1000000000
  pub synchronizers : c.synchronizers ≤ 512
  pub arcs : c.arcs ≤ 2048
  pub closing : (p : ℕ) → p < c.phases → c.closing p ≤ c.cycle
  pub active : (p : ℕ) → p < c.phases → c.active p ≤ c.cycle
  pub rising : (p q : ℕ) → p ≤ q → q < c.phases → c.closing p ≤ c.closing q
  pub phase : (i : ℕ) → i < c.synchronizers → c.phase i < c.phases
  pub kind : (i : ℕ) → i < c.synchronizers → c.kind i ≤ 1
  pub setup : (i : ℕ) → i < c.synchronizers → c.setup i ≤ c.cycle
  pub hold : (i : ℕ) → i < c.synchronizers → c.hold i ≤ c.cycle
  pub least : (i : ℕ) → i < c.synchronizers → c.least i ≤ c.greatest i
  pub greatest : (i : ℕ) → i < c.synchronizers → c.greatest i ≤ 1000000000
  pub from : (a : ℕ) → a < c.arcs → c.from a < c.synchronizers
  pub to : (a : ℕ) → a < c.arcs → c.to a < c.synchronizers
  pub shortest : (a : ℕ) → a < c.arcs → c.shortest a ≤ c.longest a
  pub longest : (a : ℕ) → a < c.arcs → c.longest a ≤ 1000000000
  pub ordered : (a b : ℕ) → a < b → b < c.arcs → (c.to a < c.to b) ⊎ ((c.to a ≡ c.to b) × (c.from a < c.from b))

pub sound : (bytes : List ℕ) → Valid bytes → Sound (circuit_of bytes)
unfolding circuit_of
sound bytes v = record {
  some_cycle = v.some_cycle;
  cycle = v.cycle;
  synchronizers = v.synchronizers;
  arcs = v.arcs;
  closing = λ p l. (v.phase p l).closing;
  active = λ p l. (v.phase p l).active;
  rising = closing_rises bytes v;
  phase = λ i l. (v.synchronizer i l).phase;
  kind = λ i l. (v.synchronizer i l).kind;
  setup = λ i l. (v.synchronizer i l).setup;
  hold = λ i l. (v.synchronizer i l).hold;
  least = λ i l. (v.synchronizer i l).least;
  greatest = λ i l. (v.synchronizer i l).greatest;
  from = λ a l. (v.arc a l).from;
  to = λ a l. (v.arc a l).to;
  shortest = λ a l. (v.arc a l).least;
  longest = λ a l. (v.arc a l).greatest;
  ordered = arcs_rise bytes v;
}

pub good : (s : Side) (c : Circuit) → Sound c → Good (flow s c)
good s c v = record { leaves = v.from; enters = v.to }
