-- Departures raised in place, on the tables: one node after the other is given its arrival, where that is later than its departure.
use Rattle.std.specs.Prelude.{◌≡◌, Bool, true, false, List, ℕ, zero, suc, ◌+◌, ◌*◌, ◌<◌, ◌≤◌, get_or, set}
use Rattle.ticks.specs.Inside.Raised.{RAISE, FAR}
use Rattle.flow.specs.Flow.{Side}
use Rattle.tables.specs.Inside.Net.{Arcs, Net, times_of, brought, degree, arrival_n, departing, Shaped, Ranged}

-- when node i departs, if it departs no sooner than it does
unfoldable pub raised : Side → Net → (ℕ → ℕ) → ℕ → ℕ
raised s n D i = departing (n.latch i) (degree n i) (arrival_n s n D i) (D i)

-- E is D but at node i, which is raised
pub record Raise (s : Side) (n : Net) (l i : ℕ) (D E : ℕ → ℕ) : Type 0 where
  pub here : i < l
  pub new : E i ≡ raised s n D i
  pub rest : (j : ℕ) → j < l → (j ≡ i → ⊥) → E j ≡ D j

-- what raises make of the launches, each from times that can be reckoned with
pub data Risen (s : Side) (n : Net) (l : ℕ) (launch : ℕ → ℕ) : (ℕ → ℕ) → Type 0 where
  at_launch : {D : ℕ → ℕ} → ((i : ℕ) → i < l → D i ≡ launch i) → Risen s n l launch D
  raise : {D E : ℕ → ℕ} (i : ℕ) → Risen s n l launch D → Ranged l D → Raise s n l i D E → Risen s n l launch E

-- after k passes from a base: each gave every node at least what the departures before it lead to, and those could be reckoned with
pub data Passed (s : Side) (n : Net) (l : ℕ) (base : ℕ → ℕ) : ℕ → (ℕ → ℕ) → Type 0 where
  none : {D : ℕ → ℕ} → ((i : ℕ) → i < l → base i ≤ D i) → Passed s n l base zero D
  pass : {k : ℕ} {D E : ℕ → ℕ} → Passed s n l base k D → Ranged l D → ((i : ℕ) → i < l → raised s n D i ≤ E i) → Passed s n l base (suc k) E

-- times that can be reckoned with, and after b more raises too
pub record Room (l b : ℕ) (D : ℕ → ℕ) : Type 0 where
  pub low : (i : ℕ) → i < l → RAISE ≤ D i
  pub high : (i : ℕ) → i < l → D i + b * RAISE < FAR

-- tables of l nodes that passes can go over: they stay within their bounds, and no arc adds much
pub record Sweepable (n : Net) (l : ℕ) : Type 0 where
  pub arcs : ℕ
  pub shaped : Shaped n l arcs
  pub leads : (a : ℕ) → a < arcs → n.arcs.lead a < RAISE

-- one of the arcs from `from` up to `to` brings the time
abbrev pub Given : Arcs → (ℕ → ℕ) → ℕ → ℕ → ℕ → Type 0
Given g D from to time = (a : ℕ) × (from ≤ a) × (a < to) × (brought g D a ≡ time)

-- a is the first of them that does
pub record Brings (g : Arcs) (D : ℕ → ℕ) (from to time a : ℕ) : Type 0 where
  pub above : from ≤ a
  pub below : a < to
  pub brings : brought g D a ≡ time
  pub first : (b : ℕ) → from ≤ b → b < a → brought g D b ≡ time → ⊥

-- node i was raised in place; the flag says whether that changed it
pub record Lifted (s : Side) (n : Net) (i : ℕ) (before : List ℕ) (changed : Bool) (after : List ℕ) : Type 0 where
  pub stored : after ≡ set before i (raised s n (times_of before) i)
  pub rises : changed ≡ true → get_or before i 0 < raised s n (times_of before) i
  pub stays : changed ≡ false → raised s n (times_of before) i ≡ get_or before i 0

-- node i was tried: it stays, or it was raised and the arc that brought its arrival is noted
pub data Tried (s : Side) (n : Net) (i : ℕ) (departs parents : List ℕ) : Bool → List ℕ → List ℕ → Type 0 where
  stays : raised s n (times_of departs) i ≡ get_or departs i 0 → Tried s n i departs parents false departs parents
  rises : (a : ℕ) → get_or departs i 0 < raised s n (times_of departs) i → Brings n.arcs (times_of departs) (n.first i) (n.first (i + 1)) (arrival_n s n (times_of departs) i) a →
      Tried s n i departs parents true (set departs i (raised s n (times_of departs) i)) (set parents i a)
