-- What the calls may answer of an image, they may answer of it with two phases exchanged: the two circuits are alike, and a promise asks no more of
-- a circuit than its flows and its slacks.
use mathlib.Core.Path.{◌≡◌, sym, ap, ◌∙◌}
use mathlib.Core.List.{List, ◌++◌}
use mathlib.Core.Logic.{◌↔◌}
use Rattle.std.specs.Prelude.{Result, Ok}
use Prim.Native.Nat.{ℕ, ◌*◌}
use native.Mathlib.Omega.{arith}
use lib.IntN.{ℤ}
use lib.ListN.{drop}
use Rattle.image.specs.Checks.{check_of}
use Rattle.image.specs.Valid.{image_in, Valid}
use Rattle.image.specs.declared.refusal.Refusal.{Refusal}
use Rattle.image.proofs.Validity.{accepts}
use Rattle.image.proofs.Alike.{err_is_not_ok}
use Rattle.flow.specs.Flow as flows
use Rattle.flow.specs.Flow.{Side, late, early, Least}
use Rattle.flow.proofs.Agree.{agree_self, unentered_same, least_same}
use Rattle.flow.proofs.SamePath.{path_carried as on-path}
use Rattle.flow.proofs.SameRings.{growing_same, shown_same}
use Rattle.circuit.specs.Circuit.{Circuit, circuit_of}
use Rattle.circuit.specs.Clock.{flow}
use Rattle.circuit.specs.Exchange.{Exchanged}
use Rattle.circuit.specs.Times.{Times, missed_setups, missed_holds, results}
use Rattle.circuit.proofs.Sound.{sound, good}
use Rattle.circuit.proofs.Unique.{Alike, results_alike, setups_alike, holds_alike}
use Rattle.circuit.proofs.Exchange.{exchanged_back, exchanged_image, exchanged_valid, exchanged_alike}
use Rattle.circuit.proofs.ExchangeRefused.{exchanged_refused}
use Rattle.timing.specs.TimingPromise as timing
use Rattle.timing.specs.TimingPromise.{Served, Timing}
use Rattle.timing.specs.PathPromise as path
use Rattle.timing.specs.PathPromise.{Asked, PathCall}
use Rattle.timing.specs.declared.timing_call.Answer.{Answer}
use Rattle.timing.specs.declared.timing_call.Answer.TheVariants.{Timed}
use Rattle.timing.specs.declared.trail.Path.{Path}
use Rattle.report.specs.Promise.{Report, zeros, no_arcs}
use Rattle.demands.specs.Requests.{PhasesExchanged}

module _ (p : ℕ) (first second : List ℕ) (x : Exchanged p first second) (v : Valid first) where
  abbrev c : Circuit
  c = circuit_of first

  abbrev d : Circuit
  d = circuit_of second

  alike : Alike c d
  alike = exchanged_alike p first second x v

  accepted : check_of first ≡ Ok (image_in first)
  accepted = (accepts first).0 v

  good_too : check_of second ≡ Ok (image_in second)
  good_too = (accepts second).0 (exchanged_valid p first second x v)

  nodes : d.synchronizers ≡ c.synchronizers
  nodes = (alike.flows late).nodes

  fine : flows.Good (flow late c)
  fine = good late c (sound first v)

  least : (s : Side) (D : ℕ → ℤ) → Least s (flow s c) D → Least s (flow s d) D
  least s D = least_same (flow s c) (flow s d) (good s c (sound first v)) (alike.flows s) D D (agree_self (flow s c) D) s

  module _ (numbers : List ℤ) (arcs : List ℕ) where
    served : Served first numbers arcs → Served second numbers arcs
    served s = record { good = good_too; numbers_fit = rw nodes s.numbers_fit; arcs_fit = rw nodes s.arcs_fit }

    asked : (i : ℕ) → Asked first i arcs → Asked second i arcs
    asked i a = record { good = good_too; arcs_fit = rw nodes a.arcs_fit; inside = rw nodes a.inside }

    timed_as : (E D : ℕ → ℤ) → Served second numbers arcs → Times d E D → {setups holds : ℕ} {R : List ℤ} → missed_setups d D ≡ setups →
        missed_holds d E ≡ holds → results d E D d.synchronizers ++ drop (6 * d.synchronizers) numbers ≡ R →
        Timing second numbers arcs (Ok (Timed setups holds)) R arcs
    timed_as E D s t e f g = rw (← e, ← f, ← g) (timing.timed E D s t)

    timing_carried : {X : Result Answer Refusal} {R : List ℤ} {A : List ℕ} → Timing first numbers arcs X R A → Timing second numbers arcs X R A
    timing_carried (timing.refused e) = absurd (err_is_not_ok (sym e ∙ accepted))
    timing_carried (timing.few_numbers ok l) = timing.few_numbers good_too (rw nodes l)
    timing_carried (timing.few_arcs ok k l) = timing.few_arcs good_too (rw nodes k) (rw nodes l)
    timing_carried (timing.growing s k) =
        timing.growing (served s) (shown_same (flow late c) (flow late d) fine (alike.flows late) _ _ _ _ k)
    timing_carried (timing.timed E D s t) =
        let same = sound first v in
        let sooner = agree_self (flow early c) E in
        let later = agree_self (flow late c) D in
        timed_as E D (served s) (record { early = least early E t.early; late = least late D t.late })
        (setups_alike c d same alike E D E D sooner later)
        (holds_alike c d same alike E D E D sooner later)
        (ap (λ (n : ℕ). results d E D n ++ drop (6 * n) numbers) nodes
        ∙ ap (λ (r : List ℤ). r ++ drop (6 * c.synchronizers) numbers) (results_alike c d same alike E D E D sooner later c.synchronizers (omega arith)))

    path_carried : (i : ℕ) {X : Result Path Refusal} {A : List ℕ} → PathCall first i arcs X A → PathCall second i arcs X A
    path_carried i (path.refused e) = absurd (err_is_not_ok (sym e ∙ accepted))
    path_carried i (path.few_arcs ok l) = path.few_arcs good_too (rw nodes l)
    path_carried i (path.no_such ok k l) = path.no_such good_too (rw nodes k) (rw nodes l)
    path_carried i (path.unentered a h) = path.unentered (asked i a) (unentered_same (flow late c) (flow late d) (alike.flows late) i h)
    path_carried i (path.growing a w l e r) =
        let f = alike.flows late in
        path.growing a (asked i w) (rw f.arcs l) (f.target a l ∙ e) (growing_same (flow late c) (flow late d) fine f r)
    path_carried i (path.found D s q a h k) = path.found D s q (asked i a) (least late D h) (on-path (flow late c) (flow late d) fine (alike.flows late) D i s q k)

  report_carried : (text : List ℕ) {size : ℕ} {after : List ℕ} → Report first text size after → Report second text size after
  report_carried text r = record {
    answer = r.answer;
    numbers = r.numbers;
    arcs = r.arcs;
    told = timing_carried zeros no_arcs r.told;
    sized = rw nodes r.sized;
    written = rw nodes r.written;
  }

module _ (p : ℕ) (first second : List ℕ) where
  -- what is carried over is carried back
  either_way : (P : List ℕ → Type 0) → ((a b : List ℕ) → Exchanged p a b → Valid a → P a → P b) →
      Exchanged p first second → Valid first → P first ↔ P second
  either_way P carry x v = (carry first second x v, carry second first (exchanged_back p first second x) (exchanged_valid p first second x v))

  pub phases_exchanged : (numbers : List ℤ) (arcs text : List ℕ) (i : ℕ) → PhasesExchanged p first second numbers arcs text i
  phases_exchanged numbers arcs text i = record {
    back = exchanged_back p first second;
    valid = λ x. (exchanged_valid p first second x, exchanged_valid p second first (exchanged_back p first second x));
    checked = λ x v. good_too p first second x v ∙ ap Ok (exchanged_image p first second x) ∙ sym (accepted p first second x v);
    refused = λ x e. exchanged_refused p first second x e;
    timing = either_way _ (λ a b x v. timing_carried p a b x v numbers arcs);
    path = either_way _ (λ a b x v. path_carried p a b x v numbers arcs i);
    report = either_way _ (λ a b x v. report_carried p a b x v text);
  }
