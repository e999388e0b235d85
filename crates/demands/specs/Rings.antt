-- Arcs that lead somewhere, as they stand at the front of the arc buffer that a call leaves.
use Rattle.std.specs.Prelude.{◌≡◌, true, List, [], ◌∷◌, ◌++◌, ℕ, ◌≤◌, ◌<◌, ℤ, pos, ◌+ℤ◌, length, take, drop, ◌<ℤ◌, Result, Ok}
use Rattle.image.specs.declared.refusal.Refusal.{Refusal}
use Rattle.flow.specs.Flow.{late}
use Rattle.flow.specs.Walk.{gain, sources, Every, Distinct}
use Rattle.circuit.specs.Circuit.{Circuit}
use Rattle.circuit.specs.Clock.{is_latch, flow}
use Rattle.timing.specs.declared.timing_call.Answer.{Answer}
use Rattle.timing.specs.declared.timing_call.Answer.TheVariants.{Growing}
use Rattle.demands.specs.Buffers.{late_departure_at, late_arrival_at}

-- the arcs lead from synchronizer i to synchronizer j, in order of travel
abbrev pub Leads : Circuit → ℕ → List ℕ → ℕ → Type 0
Leads c i [] j = i ≡ j
Leads c i (a ∷ p) j = (a < c.arcs) × (c.from a ≡ i) × Leads c (c.to a) p j

-- the synchronizers that the arcs leave
abbrev pub left : Circuit → List ℕ → List ℕ
left c p = sources (flow late c) p

-- the sum, over the arcs, of source's greatest delay + arc's greatest delay - shift
abbrev pub adds : Circuit → List ℕ → ℤ
adds c p = gain (flow late c) p

-- the first n arcs of A are a ring of distinct latches that adds g, above zero; the first of them leaves the lowest-numbered. What arcs
-- held behind them stays
pub record RealRing (c : Circuit) (n : ℕ) (g : ℤ) (arcs A : List ℕ) : Type 0 where
  pub start : ℕ
  pub some : 0 < n
  pub counted : length (take n A) ≡ n
  pub round : Leads c start (take n A) start
  pub latches : Every (λ i. is_latch c i ≡ true) (left c (take n A))
  pub distinct : Distinct (left c (take n A))
  pub lowest : Every (λ i. start ≤ i) (left c (take n A))
  pub gains : adds c (take n A) ≡ g
  pub grows : pos 0 <ℤ g
  pub rest : drop n A ≡ drop n arcs

-- the first n arcs of A lead from s to i. The late departure of s and what they add make up the late arrival at i, both as they stand in R. What
-- arcs held behind them stays
pub record Explained (c : Circuit) (i s n : ℕ) (arcs A : List ℕ) (R : List ℤ) : Type 0 where
  pub counted : length (take n A) ≡ n
  pub leads : Leads c s (take n A) i
  pub gives : (late_departure_at R s +ℤ adds c (take n A)) ≡ late_arrival_at R i
  pub rest : drop n A ≡ drop n arcs

-- the same ring, read from another place on
pub record Rotated (p q : List ℕ) : Type 0 where
  pub front : List ℕ
  pub back : List ℕ
  pub one : p ≡ front ++ back
  pub other : q ≡ back ++ front

-- if both answers show a loop, it is the same ring
abbrev pub OneRing : Result Answer Refusal → List ℕ → Result Answer Refusal → List ℕ → Type 0
OneRing X A Y B = (m n : ℕ) (g h : ℤ) → X ≡ Ok (Growing m g) → Y ≡ Ok (Growing n h) → Rotated (take m A) (take n B)
