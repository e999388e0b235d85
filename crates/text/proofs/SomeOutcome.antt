-- Every text and every buffer has an outcome: as the code does, line after line is read until the text ends or a line is at fault.
use mathlib.Core.Path.{◌≡◌, refl}
use mathlib.Core.Bool.{Bool, true, false}
use mathlib.Core.List.{List}
use Prim.Native.Nat.{ℕ, zero, suc, ◌-◌, ◌≤◌, ◌<◌}
use native.Mathlib.Omega.{arith}
use native.Mathlib.Decide.{dec_lt}
use lib.Dec.{ltb}
use lib.ListN.{length}
use Rattle.std.specs.Prelude.{Option, None, Some, Result, Ok, Err}
use borrow.Author.Tests.{ltb-true, ltb-false}
use Rattle.image.specs.Checks.{check_of}
use Rattle.image.specs.declared.header.Image.{Image}
use Rattle.image.specs.declared.refusal.Refusal.{Refusal}
use Rattle.grammar.specs.Text.{longest_text, Reads, Fault, too_long}
use Rattle.grammar.specs.Layout.{image_from}
use Rattle.grammar.specs.Inside.Reader.{line_at, in_place}
use Rattle.grammar.specs.declared.read.Line.{Line}
use Rattle.grammar.specs.declared.read.Read.{Read as Found}
use Rattle.grammar.proofs.InOrder.{in_place_lem}
use Rattle.text.specs.TextPromise.{TextCall, faulty, refused, short, made}
use Rattle.text.specs.Inside.Tally.{stage_number, SoFar}
use Rattle.text.specs.declared.tally.Tally.{Tally}
use Rattle.text.proofs.Reading.{at_more, started, onward, goes_on, no_line, misplaced, empty, done}
use Rattle.text.proofs.Finishing as finish

-- a text has a reading or a line at fault
pub data Read (text : List ℕ) : Type 0 where
  reads : {lines : List Line} → Reads text lines → Read text
  fails : {n : ℕ} → Fault text n → Read text

module _ (text : List ℕ) (small : length text ≤ longest_text) where
  ended : (t : Tally) (room : List ℕ) → SoFar text t room → length text ≤ t.at → Read text
  ended t room k end = elim (dec_lt 0 (stage_number t.stage)) [
    | yes begun ↦ reads (finish.reads (done text small t room k end begun))
    | no first ↦ fails (empty text small t room k end (omega (arith, first)))
  ]

  -- a line more, and then as `more` goes on
  step : (t : Tally) (room : List ℕ) → SoFar text t room → t.at < length text →
      ((u : Tally) (room : List ℕ) → SoFar text u room → t.at < u.at → Read text) → Read text
  step t room k inside more = go (line_at text t.at) refl where
    taken : (x : Found) → line_at text t.at ≡ Some x → (b : Bool) → in_place (stage_number t.stage) x.line ≡ b → Read text
    taken x e true here =
        more _ _ (goes_on text small t room k inside x e (in_place_lem (stage_number t.stage) x.line here))
        (rw (at_more x.line t x.next) (onward text small t room k inside x e))
    taken x e false off = fails (misplaced text small t room k inside x e off)

    go : (o : Option Found) → line_at text t.at ≡ o → Read text
    go None e = fails (no_line text small t room k inside e)
    go (Some x) e = taken x e (in_place (stage_number t.stage) x.line) refl

  read_on : (fuel : ℕ) (t : Tally) (room : List ℕ) → SoFar text t room → length text - t.at ≤ fuel → Read text
  read_on zero t room k few = ended t room k (omega (arith, few))
  read_on (suc fuel) t room k few =
      go (λ inside. step t room k inside (λ u room k later. read_on fuel u room k (omega (arith, few, later)))) (ltb t.at (length text)) refl
    where
      go : (t.at < length text → Read text) → (b : Bool) → ltb t.at (length text) ≡ b → Read text
      go on true e = on (ltb-true t.at (length text) e)
      go on false e = ended t room k (ltb-false t.at (length text) e)

-- whatever the text
pub read_some : (text : List ℕ) → Read text
read_some text = go (ltb longest_text (length text)) refl where
  go : (b : Bool) → ltb longest_text (length text) ≡ b → Read text
  go true e = fails (too_long (ltb-true longest_text (length text) e))
  go false e = read_on text (ltb-false longest_text (length text) e) (length text) _ _ (started text) (omega arith)

-- and whatever the buffer
pub text_some : (text before : List ℕ) → (X : Result ℕ Refusal) × (after : List ℕ) × TextCall text before X after
text_some text before = from (read_some text) where
  by : (lines : List Line) → Reads text lines → (c : Result Image Refusal) → check_of (image_from lines) ≡ c → (X : Result ℕ Refusal) × (after : List ℕ) × TextCall text before X after
  by lines r (Err why) e = (_, _, refused r e)
  by lines r (Ok image) e = go (ltb (length before) (length (image_from lines))) refl where
    go : (b : Bool) → ltb (length before) (length (image_from lines)) ≡ b → (X : Result ℕ Refusal) × (after : List ℕ) × TextCall text before X after
    go true l = (_, _, short r e (ltb-true (length before) (length (image_from lines)) l))
    go false l = (_, _, made r e (ltb-false (length before) (length (image_from lines)) l))

  from : Read text → (X : Result ℕ Refusal) × (after : List ℕ) × TextCall text before X after
  from (reads {lines} r) = by lines r (check_of (image_from lines)) refl
  from (fails f) = (_, _, faulty f)
