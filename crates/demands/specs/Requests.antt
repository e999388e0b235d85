-- What was asked for since, each request a record, each sentence a field. Like the demands they speak of the calls alone.
-- `Timing`, `PathCall` and `Report` are the promises that the demands read (Demands.antt).
-- `TextCall text before X after` is the promise of the call that makes an image from a text: lent a buffer that holds `before`, it may answer X
-- and leave `after` in it. The grammar is grammar's: `Reads text lines` says that the text is those lines, `Fault text n` that line n is the
-- lowest at fault.
use Rattle.std.specs.Prelude.{◌≡◌, List, [], ◌∷◌, ◌++◌, ◌⊎◌, ◌↔◌, ℕ, ◌<◌, ◌≤◌, ℤ, length, get_or, take, drop, Result, Ok, Err}
use Rattle.image.specs.Checks.{check_of}
use Rattle.image.specs.Valid.{Valid}
use Rattle.image.specs.declared.records.Phase.{Phase}
use Rattle.image.specs.declared.records.Synchronizer.{Synchronizer}
use Rattle.image.specs.declared.records.Arc.{Arc}
use Rattle.image.specs.Refusal.{number_of, refusal}
use Rattle.image.specs.declared.refusal.Rule.{Rule}
use Rattle.image.specs.declared.refusal.Rule.TheVariants as by
use Rattle.image.specs.declared.refusal.Refusal.{Refusal}
use Rattle.grammar.specs.Windows.{Window, Written}
use Rattle.grammar.specs.Text.{Reads, Fault}
use Rattle.grammar.specs.Layout.{cycle_of, phases_of, synchronizers_of, arcs_of, image_from}
use Rattle.grammar.specs.declared.read.Line.{Line}
use Rattle.circuit.specs.Circuit.{Circuit, circuit_of}
use Rattle.circuit.specs.Exchange.{Exchanged}
use Rattle.timing.specs.TimingPromise.{Timing}
use Rattle.timing.specs.PathPromise.{PathCall}
use Rattle.timing.specs.declared.timing_call.Answer.{Answer}
use Rattle.timing.specs.declared.trail.Path.{Path}
use Rattle.report.specs.Promise.{Report}
use Rattle.text.specs.TextPromise.{TextCall}

-- one of those numbers
abbrev pub Among : ℕ → List ℕ → Type 0
Among n [] = ⊥
Among n (m ∷ ms) = (n ≡ m) ⊎ Among n ms

-- the circuit has, record for record, the numbers of the lines; the delays of a line are the meaning of its window
pub record Carries (c : Circuit) (lines : List Line) : Type 0 where
  pub cycle : c.cycle ≡ cycle_of lines
  pub phases : c.phases ≡ length (phases_of lines)
  pub synchronizers : c.synchronizers ≡ length (synchronizers_of lines)
  pub arcs : c.arcs ≡ length (arcs_of lines)
  pub phase : (d : Phase) (i : ℕ) → i < c.phases → record { closing = c.closing i; active = c.active i } ≡ get_or (phases_of lines) i d
  pub synchronizer : (d : Synchronizer) (i : ℕ) → i < c.synchronizers →
      record {
        phase = c.phase i;
        kind = c.kind i;
        setup = c.setup i;
        hold = c.hold i;
        least = c.least i;
        greatest = c.greatest i;
      } ≡ get_or (synchronizers_of lines) i d
  pub arc : (d : Arc) (i : ℕ) → i < c.arcs →
      record { from = c.from i; to = c.to i; least = c.shortest i; greatest = c.longest i } ≡ get_or (arcs_of lines) i d

-- an image of n bytes was written: it stands at the front of the buffer, and the rest of the buffer is as it was
pub record Wrote (text before : List ℕ) (n : ℕ) (after : List ℕ) : Type 0 where
  pub lines : List Line
  pub reads : Reads text lines
  pub fits : n ≤ length before
  pub after_is : after ≡ take n after ++ drop n before
  pub image_is : take n after ≡ image_from lines
  pub long : n ≡ length (take n after)
  -- the check accepts it
  pub accepted : Valid (take n after)
  -- and it carries what the text says
  pub carries : Carries (circuit_of (take n after)) lines

-- A written circuit: an image made from a text. Text and buffer are any at all
pub record TextToImage (text before : List ℕ) : Type 0 where
  -- every text and every buffer gets a response, and only one, with all that is left in the buffer
  pub some : (X : Result ℕ Refusal) × (after : List ℕ) × TextCall text before X after
  pub one : {X Y : Result ℕ Refusal} {a b : List ℕ} → TextCall text before X a → TextCall text before Y b → (X ≡ Y) × (a ≡ b)
  -- the grammar gives a text at most one reading, and each window one meaning
  pub one_reading : {xs ys : List Line} → Reads text xs → Reads text ys → xs ≡ ys
  pub one_meaning : {s : List ℕ} {v w : Window} → Written s v → Written s w → v ≡ w
  -- 15 is said exactly where the text has no reading, with the lowest line at fault
  pub faulty : {X : Result ℕ Refusal} {after : List ℕ} → TextCall text before X after → (n : ℕ) → (X ≡ Err (refusal by.Text n)) ↔ Fault text n
  pub no_reading : ((n : ℕ) × Fault text n) ↔ ((lines : List Line) → Reads text lines → ⊥)
  -- otherwise what the rules say of the image of its lines; then whether the buffer is long enough
  pub refused : {lines : List Line} {X : Result ℕ Refusal} {after : List ℕ} → Reads text lines → TextCall text before X after → (why : Refusal) →
      (X ≡ Err why) ↔
      ((check_of (image_from lines) ≡ Err why) ⊎
      ((why ≡ refusal by.ImageBuffer 0) × Valid (image_from lines) × (length before < length (image_from lines))))
  -- there are no other numbers of refusal
  pub numbers : {why : Refusal} {after : List ℕ} → TextCall text before (Err why) after →
      Among (number_of why.rule) (15 ∷ 3 ∷ 4 ∷ 6 ∷ 7 ∷ 8 ∷ 9 ∷ 16 ∷ [])
  -- nothing is written on any of them
  pub keeps : {why : Refusal} {after : List ℕ} → TextCall text before (Err why) after → after ≡ before
  -- where it writes, the image carries what the text says
  pub wrote : {n : ℕ} {after : List ℕ} → TextCall text before (Ok n) after → Wrote text before n after

-- Phases that close together act as one: two neighbouring phases are exchanged that close at the same time, and the phases of the synchronizers are
-- renumbered to suit. Buffers and the synchronizer i asked about are any at all
pub record PhasesExchanged (p : ℕ) (first second : List ℕ) (numbers : List ℤ) (arcs text : List ℕ) (i : ℕ) : Type 0 where
  -- exchanged once more, the second is the first
  pub back : Exchanged p first second → Exchanged p second first
  -- if one is valid so is the other, and the check gives the same of both
  pub valid : Exchanged p first second → Valid first ↔ Valid second
  pub checked : Exchanged p first second → Valid first → check_of second ≡ check_of first
  -- an image that is refused stays refused by the same rule; and for the same record, but where phases are at fault, which is rule 6
  pub refused : {rule : Rule} {n : ℕ} → Exchanged p first second → check_of first ≡ Err (refusal rule n) →
      (m : ℕ) × (check_of second ≡ Err (refusal rule m)) × ((m ≡ n) ⊎ (rule ≡ by.Phases))
  -- no time, slack or verdict changes, nor a growing ring or its gain: what timing may answer of one and leave in its buffers, it may of the other
  pub timing : {X : Result Answer Refusal} {R : List ℤ} {A : List ℕ} → Exchanged p first second → Valid first →
      Timing first numbers arcs X R A ↔ Timing second numbers arcs X R A
  -- every path is a path of the other, and every report its report
  pub path : {X : Result Path Refusal} {A : List ℕ} → Exchanged p first second → Valid first → PathCall first i arcs X A ↔ PathCall second i arcs X A
  pub report : {size : ℕ} {after : List ℕ} → Exchanged p first second → Valid first → Report first text size after ↔ Report second text size after
