-- Nothing is lost between Rattle and C: from the struct that a call gives, the Rattle answer can be read back. A refusal has a number above 0
-- and a growing ring has an arc, so the tests of a C program tell the cases apart.
use mathlib.Core.Path.{◌≡◌, refl, sym, ◌∙◌}
use mathlib.Core.Bool.{Bool, true, false}
use mathlib.Core.List.{List}
use Rattle.std.specs.Prelude.{Result, Ok, Err}
use Prim.Native.Nat.{ℕ, ◌<◌}
use native.Mathlib.Omega.{arith}
use lib.Dec.{ltb}
use lib.IntN.{ℤ}
use borrow.Author.Tests.{lt-ltb}
use Rattle.image.specs.Header.{offset_of}
use Rattle.image.specs.Checks.{check_of}
use Rattle.image.specs.Refusal.{number_of, refusal}
use Rattle.image.specs.declared.header.Image.{Image}
use Rattle.image.specs.declared.refusal.Refusal.{Refusal}
use Rattle.image.proofs.RuleNumbers.{rule_of, rule_back, numbers_from_1_to_16}
use Rattle.image.specs.declared.header.Part.TheVariants.{Phases, Synchronizers, Arcs}
use Rattle.image.proofs.Validity.{accepts, accepted_is}
use Rattle.flow.specs.Walk.{Shown}
use Rattle.timing.specs.TimingPromise.{Timing, refused, few_numbers, few_arcs, growing, timed}
use Rattle.timing.specs.PathPromise as asked
use Rattle.timing.specs.declared.timing_call.Answer.{Answer}
use Rattle.timing.specs.declared.timing_call.Answer.TheVariants as timing
use Rattle.timing.specs.declared.trail.Path.{Path}
use Rattle.text.specs.TextPromise as written
use Rattle.interface.specs.Answers.{check_answer, timing_answer, path_answer, text_answer}
use Rattle.interface.specs.Promise.{CheckForC, TimingForC, PathForC, TextForC}
use Rattle.interface.specs.declared.check_answer.CheckAnswer.{CheckAnswer}
use Rattle.interface.specs.declared.timing_answer.TimingAnswer.{TimingAnswer}
use Rattle.interface.specs.declared.path_answer.PathAnswer.{PathAnswer}
use Rattle.interface.specs.declared.text_answer.TextAnswer.{TextAnswer}

-- the first where the test holds
abbrev either : {A : Type 0} → Bool → A → A → A
either true a b = a
either false a b = b

-- a refusal, from its number and its record
abbrev read_refusal : ℕ → ℕ → Refusal
read_refusal number culprit = refusal (rule_of number) culprit

-- as a C program reads them
abbrev pub read_check : CheckAnswer → Result Image Refusal
read_check a =
    either (ltb 0 a.refusal) (Err (read_refusal a.refusal a.«record»))
    (Ok (record {
      cycle = a.cycle;
      phases = a.phases;
      synchronizers = a.synchronizers;
      arcs = a.arcs;
      layout = record {
        phases = offset_of Phases a.phases a.synchronizers a.arcs;
        synchronizers = offset_of Synchronizers a.phases a.synchronizers a.arcs;
        arcs = offset_of Arcs a.phases a.synchronizers a.arcs;
        synchronizer_bytes = 24;
      };
    }))

abbrev pub read_timing : TimingAnswer → Result Answer Refusal
read_timing a =
    either (ltb 0 a.refusal) (Err (read_refusal a.refusal a.«record»))
    (either (ltb 0 a.loop_arcs) (Ok (timing.Growing a.loop_arcs a.gain))
    (Ok (timing.Timed a.missed_setups a.missed_holds)))

abbrev pub read_path : PathAnswer → Result Path Refusal
read_path a = either (ltb 0 a.refusal) (Err (read_refusal a.refusal a.«record»)) (Ok (record { launch = a.launch; count = a.arcs }))

abbrev pub read_text : TextAnswer → Result ℕ Refusal
read_text a = either (ltb 0 a.refusal) (Err (read_refusal a.refusal a.«record»)) (Ok a.image_bytes)

-- a refusal's number is above 0
some : (why : Refusal) → ltb 0 (number_of why.rule) ≡ true
some why = lt-ltb 0 (number_of why.rule) (numbers_from_1_to_16 why.rule).0

-- a ring that is shown has an arc
pub shown_some : {f : _} {count : ℕ} {total : ℤ} {before after : List ℕ} → Shown f count total before after → 0 < count
shown_some s = omega (arith, s.counted, s.grows.ring.some)

module _ (bytes : List ℕ) where
  check_back : (X : Result Image Refusal) → X ≡ check_of bytes → read_check (check_answer X) ≡ X
  check_back (Err why) e = rw (some why, rule_back why.rule)
  check_back (Ok image) e =
      let same = accepted_is bytes image (sym e) in
      let v = (accepts bytes).1 (rw same at (sym e)) in
      rw (same, v.phase_table, v.synchronizer_table, v.arc_table)

  pub check_read : {given : CheckAnswer} (c : CheckForC bytes given) → read_check given ≡ c.answer
  check_read c = rw c.told (check_back c.answer c.kept)

  module _ {numbers : List ℤ} {arcs : List ℕ} where
    timing_back : {X : Result Answer Refusal} {R : List ℤ} {A : List ℕ} → Timing bytes numbers arcs X R A → read_timing (timing_answer X) ≡ X
    timing_back (refused {why} e) = rw (some why, rule_back why.rule)
    timing_back (few_numbers ok h) = refl
    timing_back (few_arcs ok fit h) = refl
    timing_back (growing {count} s ring) = rw (lt-ltb 0 count (shown_some ring))
    timing_back (timed E D s t) = refl

    pub timing_read : {given : TimingAnswer} {R : List ℤ} {A : List ℕ} (c : TimingForC bytes numbers arcs given R A) → read_timing given ≡ c.answer
    timing_read c = rw c.told (timing_back c.kept)

  module _ {i : ℕ} {arcs : List ℕ} where
    path_back : {X : Result Path Refusal} {A : List ℕ} → asked.PathCall bytes i arcs X A → read_path (path_answer X) ≡ X
    path_back (asked.refused {why} e) = rw (some why, rule_back why.rule)
    path_back (asked.few_arcs ok h) = refl
    path_back (asked.no_such ok room h) = refl
    path_back (asked.unentered q h) = refl
    path_back (asked.growing a q l e ring) = refl
    path_back (asked.found D s p q least way) = refl

    pub path_read : {given : PathAnswer} {A : List ℕ} (c : PathForC bytes i arcs given A) → read_path given ≡ c.answer
    path_read c = rw c.told (path_back c.kept)

text_back : {words before after : List ℕ} {X : Result ℕ Refusal} → written.TextCall words before X after → read_text (text_answer X) ≡ X
text_back (written.faulty f) = refl
text_back (written.refused {why = why} r e) = rw (some why, rule_back why.rule)
text_back (written.short r p l) = refl
text_back (written.made r p l) = refl

pub text_read : {words before after : List ℕ} {given : TextAnswer} (c : TextForC words before given after) → read_text given ≡ c.answer
text_read c = rw c.told (text_back c.kept)

-- so equal structs come from equal answers, whatever the images, texts and buffers were
pub check_same : (a b : List ℕ) {given : CheckAnswer} (c : CheckForC a given) (d : CheckForC b given) → c.answer ≡ d.answer
check_same a b c d = sym (check_read a c) ∙ check_read b d

pub timing_same : (a b : List ℕ) {given : TimingAnswer} {M N P Q : List ℤ} {A B C D : List ℕ} (c : TimingForC a M A given P C)
    (d : TimingForC b N B given Q D) → c.answer ≡ d.answer
timing_same a b c d = sym (timing_read a c) ∙ timing_read b d

pub path_same : (a b : List ℕ) {given : PathAnswer} {i j : ℕ} {A B C D : List ℕ} (c : PathForC a i A given C) (d : PathForC b j B given D) →
    c.answer ≡ d.answer
path_same a b c d = sym (path_read a c) ∙ path_read b d

pub text_same : {s t a b x y : List ℕ} {given : TextAnswer} (c : TextForC s a given x) (d : TextForC t b given y) → c.answer ≡ d.answer
text_same c d = sym (text_read c) ∙ text_read d
