-- The times of a circuit are unique on its synchronizers, and so is all that is read off them: results and missed counts. Nor do these change where
-- a circuit is put in place of another that is the same to its times and checks.
use mathlib.Core.Path.{◌≡◌, refl, ap, ◌∙◌}
use mathlib.Core.Bool.{Bool}
use Prim.Native.Nat.{ℕ, zero, suc, ◌≤◌, ◌<◌}
use native.Mathlib.Omega.{arith}
use lib.IntN.{ℤ}
use Rattle.flow.specs.Flow.{Side, late, early, When, Least}
use Rattle.flow.specs.Inside.Same.{Same}
use Rattle.flow.specs.Inside.Within.{Agree}
use Rattle.flow.proofs.Rounds.{least_unique}
use Rattle.flow.proofs.Agree.{same_self, arrival_agree}
use Rattle.flow.proofs.Arrival as flows
use Rattle.circuit.specs.Circuit.{Circuit}
use Rattle.circuit.specs.Clock.{flow}
use Rattle.circuit.specs.Times.{Times, arrives, setup_slack, hold_slack, missed, count, missed_setups, missed_holds, six, results}
use Rattle.circuit.proofs.Sound.{Sound, good}

-- the same flows, and the same slack for each arrival
pub record Alike (c d : Circuit) : Type 0 where
  pub flows : (s : Side) → Same (flow s c) (flow s d)
  pub setup : (i : ℕ) → i < c.synchronizers → setup_slack d i ≡ setup_slack c i
  pub hold : (i : ℕ) → i < c.synchronizers → hold_slack d i ≡ hold_slack c i

alike_self : (c : Circuit) → Alike c c
alike_self c = record { flows = λ s. same_self (flow s c); setup = λ i l. refl; hold = λ i l. refl }

count_same : (p q : ℕ → Bool) (n : ℕ) → ((i : ℕ) → i < n → p i ≡ q i) → count p n ≡ count q n
unfolding count
count_same p q zero h = refl
count_same p q (suc n) h = rw (h n (omega arith), count_same p q n (λ i l. h i (omega arith)))

counts_same : (p q : ℕ → Bool) {m n : ℕ} → m ≡ n → ((i : ℕ) → i < n → p i ≡ q i) → count p m ≡ count q n
counts_same p q {n = n} e h = ap (count p) e ∙ count_same p q n h

slack_same : {X : Type 0} (f : (ℤ → ℤ) → When → X) {g h : ℤ → ℤ} {w x : When} → g ≡ h → w ≡ x → f g w ≡ f h x
slack_same f e k = rw (e, k)

module _ (c d : Circuit) (v : Sound c) (alike : Alike c d) (E D E' D' : ℕ → ℤ)
    (sooner : Agree (flow early c) E E') (later : Agree (flow late c) D D') where
  early_same : (i : ℕ) → arrives early d E' i ≡ arrives early c E i
  early_same i = flows.arrival_same (flow early c) (flow early d) (good early c v) (alike.flows early) E E' sooner early i

  late_same : (i : ℕ) → arrives late d D' i ≡ arrives late c D i
  late_same i = flows.arrival_same (flow late c) (flow late d) (good late c v) (alike.flows late) D D' later late i

  six_alike : (i : ℕ) → i < c.synchronizers → six d E' D' i ≡ six c E D i
  unfolding six
  six_alike i l = rw (← sooner i l, ← later i l, early_same i, late_same i, alike.setup i l, alike.hold i l)

  pub results_alike : (n : ℕ) → n ≤ c.synchronizers → results d E' D' n ≡ results c E D n
  unfolding results
  results_alike zero l = refl
  results_alike (suc n) l = rw (results_alike n (omega arith), six_alike n (omega arith))

  pub setups_alike : missed_setups d D' ≡ missed_setups c D
  setups_alike = counts_same _ _ (alike.flows late).nodes (λ i l. slack_same missed (alike.setup i l) (late_same i))

  pub holds_alike : missed_holds d E' ≡ missed_holds c E
  holds_alike = counts_same _ _ (alike.flows early).nodes (λ i l. slack_same missed (alike.hold i l) (early_same i))

module _ (c : Circuit) (v : Sound c) (s : Side) (D D' : ℕ → ℤ) (t : Least s (flow s c) D) (t' : Least s (flow s c) D') where
  pub departure_same : (i : ℕ) → i < c.synchronizers → D i ≡ D' i
  departure_same = least_unique s (flow s c) D D' t t'

  pub arrival_same : (i : ℕ) → arrives s c D i ≡ arrives s c D' i
  arrival_same i = arrival_agree (flow s c) (good s c v) D D' departure_same s i

module _ (c : Circuit) (v : Sound c) (E D E' D' : ℕ → ℤ) (t : Times c E D) (t' : Times c E' D') where
  sooner : Agree (flow early c) E' E
  sooner = departure_same c v early E' E t'.early t.early

  later : Agree (flow late c) D' D
  later = departure_same c v late D' D t'.late t.late

  pub results_same : (n : ℕ) → n ≤ c.synchronizers → results c E D n ≡ results c E' D' n
  results_same = results_alike c c v (alike_self c) E' D' E D sooner later

  pub setups_same : missed_setups c D ≡ missed_setups c D'
  setups_same = setups_alike c c v (alike_self c) E' D' E D sooner later

  pub holds_same : missed_holds c E ≡ missed_holds c E'
  holds_same = holds_alike c c v (alike_self c) E' D' E D sooner later
