-- What is written of one synchronizer is what the circuit's definitions give; and one synchronizer more, counted up.
use mathlib.Core.Path.{◌≡◌, refl, ap, ◌∙◌}
use mathlib.Core.Bool.{Bool, true, false, cond}
use mathlib.Core.List.{List, ◌++◌}
use Prim.Native.Nat.{ℕ, zero, suc, ◌+◌, ◌-◌, ◌*◌, ◌≤◌, ◌<◌}
use native.Mathlib.Omega.{arith}
use native.Mathlib.Numerals.{add-one}
use Rattle.std.proofs.Common.{add-zero}
use mir.Val.{bool_byte}
use borrow.Rule.Slice.PartMut.{put_mid}
use lib.Dec.{eqb}
use lib.IntN.{ℤ}
use lib.ListN.{length, drop}
use Rattle.std.proofs.Common.{Option, Some, None, unwrap_or}
use Rattle.std.specs.Option.{option_map}
use Rattle.ticks.specs.Inside.Raised.{lower}
use Rattle.flow.specs.Flow.{late, early, When, none, at}
use Rattle.image.specs.Records.{synchronizer_at}
use Rattle.image.specs.declared.header.Image.{Image}
use Rattle.image.specs.declared.records.Synchronizer.{Synchronizer}
use Rattle.circuit.specs.Circuit.{Circuit, circuit_of}
use Rattle.circuit.specs.Times.{arrives, setup_slack, hold_slack, missed, mark, or_mark, count, six, results}
use Rattle.circuit.proofs.Sound.{sound, good}
use Rattle.tables.specs.Inside.Net.{times_of, degree, Ranged}
use Rattle.tables.specs.Inside.Models.{lowered}
use Rattle.timing.specs.declared.results.Arrivals.{Arrivals}
use Rattle.timing.specs.declared.results.Missed.{Missed}
use Rattle.timing.specs.declared.sides.Sides.{Sides}
use Rattle.timing.specs.Inside.Web.{net_in}
use Rattle.timing.specs.Inside.Results.{arrivals_of, below_zero, setup_by, hold_by, six_of, more, Writable, Added, Written}
use Rattle.timing.proofs.RecordsRead.{Accepted}
use Rattle.timing.proofs.Entering.{arrival_enters}
use Rattle.timing.proofs.SixResults.{six_stored, results_more}

-- the arrival that is picked, told as a time
abbrev told_when : (Arrivals → ℕ) → Option Arrivals → When
told_when pick None = none
told_when pick (Some a) = at (lower (pick a))

-- what is written and counted of it
module _ (pick : Arrivals → ℕ) (f : ℤ → ℤ) where
  marked : (a : Option Arrivals) → unwrap_or (option_map (λ x. f (lower (pick x))) a) mark ≡ or_mark f (told_when pick a)
  marked None = refl
  marked (Some a) = refl

  below : (a : Option Arrivals) → below_zero (option_map (λ x. f (lower (pick x))) a) ≡ missed f (told_when pick a)
  below None = refl
  below (Some a) = refl

counts_one : (test : Bool) (n : ℕ) → n + bool_byte test ≡ more test n
counts_one true n = add-one n
counts_one false n = add-zero n

module _ {bytes : List ℕ} {image : Image} (ok : Accepted bytes image) {s : Sides} (w : Writable bytes s) where
  setup_read : (i : ℕ) → (synchronizer_at bytes image.layout i).setup ≡ (circuit_of bytes).setup i
  unfolding circuit_of
  setup_read i = ap (λ (x : Image). (synchronizer_at bytes x.layout i).setup) ok.same

  hold_read : (i : ℕ) → (synchronizer_at bytes image.layout i).hold ≡ (circuit_of bytes).hold i
  unfolding circuit_of
  hold_read i = ap (λ (x : Image). (synchronizer_at bytes x.layout i).hold) ok.same

  module _ (i : ℕ) (l : i < s.late.nodes) where
    here : i < (circuit_of bytes).synchronizers
    here = rw w.nodes at l

    later : Ranged (circuit_of bytes).synchronizers (times_of s.later.now)
    later = rw w.nodes at s.ranged.0

    sooner : Ranged (circuit_of bytes).synchronizers (times_of s.sooner.now)
    sooner = rw (s.same.1, w.nodes) at s.ranged.1

    late_is : arrives late (circuit_of bytes) (lowered (times_of s.later.now)) i ≡ told_when (λ a. a.late) (arrivals_of s i)
    unfolding arrivals_of
    late_is = go (eqb (degree (net_in s.late) i) 0) _ _ (arrival_enters late (net_in s.late) (good late _ (sound bytes ok.valid)) w.late later i here)
      where
        go : (b : Bool) {t : When} (x y : ℕ) → t ≡ cond b none (at (lower x)) →
            t ≡ told_when (λ a. a.late) (cond b None (Some (record { late = x; early = y })))
        go true x y e = e
        go false x y e = e

    early_is : arrives early (circuit_of bytes) (lowered (times_of s.sooner.now)) i ≡ told_when (λ a. a.early) (arrivals_of s i)
    unfolding arrivals_of
    early_is = go (eqb (degree (net_in s.late) i) 0) _ _ (ap (λ (x : List ℕ). eqb (times_of x (i + 1) - times_of x i) 0) s.same.0)
        (arrival_enters early (net_in s.early) (good early _ (sound bytes ok.valid)) w.early sooner i here)
      where
        go : (b : Bool) {c : Bool} {t : When} (x y : ℕ) → c ≡ b → t ≡ cond c none (at (lower y)) →
            t ≡ told_when (λ a. a.early) (cond b None (Some (record { late = x; early = y })))
        go true x y q e = rw q at e
        go false x y q e = rw q at e

    -- the synchronizer as it was read, its arrivals and slacks, and what was made of them
    pub added : {z : Synchronizer} {a : Option Arrivals} {hold setup : Option ℤ} {m r : Missed} {before row : List ℤ} {k : ℕ} →
        z ≡ synchronizer_at bytes image.layout i → a ≡ arrivals_of s i →
        hold ≡ option_map (λ x. hold_by z.hold (lower x.early)) a → setup ≡ option_map (λ x. setup_by image.cycle z.setup (lower x.late)) a →
        row ≡ six_of (times_of s.sooner.now i) (times_of s.later.now i) a hold setup → k ≡ 6 → 6 * i + 6 ≤ length before →
        r.setups ≡ m.setups + bool_byte (below_zero setup) → r.holds ≡ m.holds + bool_byte (below_zero hold) →
        Added (circuit_of bytes) (lowered (times_of s.later.now)) (lowered (times_of s.sooner.now)) i before (put_mid (6 * i) k before row) m r
    unfolding six_of six setup_slack hold_slack
    added {z} {a} {m = m} ez ea eh es er ek room cs ch = record {
      list = six_stored (6 * i) _ _ (ap length er) ek room
          ∙ rw (
            er,
            eh,
            es,
            marked (λ x. x.early) (λ t. t) a,
            marked (λ x. x.late) (λ t. t) a,
            marked (λ x. x.early) (hold_by z.hold) a,
            marked (λ x. x.late) (setup_by image.cycle z.setup) a,
            ea,
            ← late_is,
            ← early_is,
            ez,
            setup_read i,
            hold_read i,
            ok.counts.cycle,
          );
      setups = cs ∙ counts_one _ m.setups ∙ rw (es, below (λ x. x.late) (setup_by image.cycle z.setup) a, ea, ← late_is, ez, setup_read i, ok.counts.cycle);
      holds = ch ∙ counts_one _ m.holds ∙ rw (eh, below (λ x. x.early) (hold_by z.hold) a, ea, ← early_is, ez, hold_read i);
    }

-- counting
pub count_few : (test : ℕ → Bool) (n : ℕ) → count test n ≤ n
unfolding count
count_few test zero = omega arith
count_few test (suc n) = go (test n) (count_few test n)
  where
    go : (b : Bool) → count test n ≤ n → cond b (suc (count test n)) (count test n) ≤ suc n
    go true h = omega arith
    go false h = omega arith

count_more : (test : ℕ → Bool) (n k : ℕ) → k ≡ count test n → more (test n) k ≡ count test (suc n)
unfolding count
count_more test n k e = rw e

-- the results of the first n synchronizers, before what was there, and how many of their checks are missed
pub record WrittenTo (c : Circuit) (D E : ℕ → ℤ) (n : ℕ) (before after : List ℤ) (m : Missed) : Type 0 where
  pub list : after ≡ results c E D n ++ drop (6 * n) before
  pub setups : m.setups ≡ count (λ i. missed (setup_slack c i) (arrives late c D i)) n
  pub holds : m.holds ≡ count (λ i. missed (hold_slack c i) (arrives early c E i)) n

module _ {c : Circuit} {D E : ℕ → ℤ} where
  pub written_none : {old : List ℤ} → WrittenTo c D E 0 old old (record { setups = 0; holds = 0 })
  unfolding results count
  written_none = record { list = refl; setups = refl; holds = refl }

  pub written_more : {i : ℕ} {old before after : List ℤ} {m r : Missed} → 6 * suc i ≤ length old →
      WrittenTo c D E i old before m → Added c D E i before after m r → WrittenTo c D E (suc i) old after r
  written_more {i} {old} h k a = record {
    list = a.list ∙ rw k.list (results_more c E D i old h);
    setups = a.setups ∙ count_more _ i _ k.setups;
    holds = a.holds ∙ count_more _ i _ k.holds;
  }

  pub written_all : {n : ℕ} {old after : List ℤ} {m : Missed} → n ≡ c.synchronizers → WrittenTo c D E n old after m → Written c D E old after m
  written_all e h = let k = rw e at h in record { list = k.list; setups = k.setups; holds = k.holds }
