-- The answer for an input's first bytes is the answer for all of it, where they are more than any text has: both are too long then. And a
-- buffer for the largest image is never too short.
use mathlib.Core.Path.{◌≡◌, refl}
use mathlib.Core.Bool.{Bool, true, false}
use mathlib.Core.List.{List}
use Rattle.std.specs.Prelude.{Result, Ok, Err}
use Prim.Native.Nat.{ℕ, ◌≤◌, ◌<◌}
use native.Mathlib.Omega.{arith}
use lib.Dec.{leb}
use lib.ListN.{length, take, length-append}
use lib.Seq.{length-take-le, take_all}
use borrow.Author.Tests.{leb-true, leb-false}
use Rattle.image.specs.Header.{most_bytes}
use Rattle.image.specs.Front.{Front}
use Rattle.image.specs.Checks.{check_of}
use Rattle.image.specs.declared.refusal.Refusal.{Refusal}
use Rattle.image.proofs.Enough.{valid_short}
use Rattle.image.proofs.Validity.{accepts, accepted_is}
use Rattle.image.proofs.Alike.{err_is_not_ok}
use Rattle.grammar.specs.Text.{longest_text, Reads, too_long}
use Rattle.grammar.specs.Layout.{image_from}
use Rattle.grammar.specs.declared.read.Line.{Line}
use Rattle.grammar.proofs.OneReading.{reads_one, fault_one, reads_not_fault}
use Rattle.text.specs.TextPromise.{TextCall, faulty, refused, short, made}
use Rattle.std.specs.declared.option.Option.{Option}
use Rattle.std.specs.Io.KnownBytes.{Appends}
use Rattle.std.proofs.KnownBytes.{Keeps-refl}
use Rattle.neelukudam_text.specs.Promise.{outcome, Whole, refusal_line, Shows}

-- two texts that are too long
module _ (a b : List ℕ) (long : longest_text < length a) (longer : longest_text < length b) {before : List ℕ} where
  too_long_alike : {X : Result ℕ Refusal} {after : List ℕ} → TextCall a before X after → TextCall b before X after
  too_long_alike (faulty f) = rw (fault_one f (too_long long)) (faulty (too_long longer))
  too_long_alike (refused r p) = let no : ⊥ = omega (arith, r.short) in absurd no
  too_long_alike (short r p l) = let no : ⊥ = omega (arith, r.short) in absurd no
  too_long_alike (made r p l) = let no : ⊥ = omega (arith, r.short) in absurd no

module _ (n : ℕ) (input : List ℕ) (most : longest_text < n) {before after : List ℕ} {X : Result ℕ Refusal} where
  pub text_whole : TextCall (take n input) before X after → TextCall input before X after
  text_whole r = go (leb (length input) n) refl
    where
      go : (b : Bool) → leb (length input) n ≡ b → TextCall input before X after
      go true e = rw (take_all n input (leb-true _ _ e)) at r
      go false e =
          let long : n < length input = leb-false _ _ e in
          let l : length (take n input) ≡ n = length-take-le n input (omega arith) in
          too_long_alike (take n input) input (omega arith) (omega arith) r

-- a room for the largest image is enough
module _ {text before : List ℕ} (room : most_bytes ≤ length before) {lines : List Line} (reads : Reads text lines) where
  pub room_enough : {X : Result ℕ Refusal} {after : List ℕ} → TextCall text before X after → X ≡ outcome (check_of (image_from lines)) (length (image_from lines))
  room_enough (faulty f) = absurd (reads_not_fault reads f)
  room_enough (refused r p) = rw (reads_one reads r, p)
  room_enough (short {image = image} r p l) =
      let bytes = image_from lines in
      let good : check_of bytes ≡ Ok image = rw (reads_one reads r) p in
      let few = valid_short bytes ((accepts bytes).1 (rw (accepted_is bytes image good) at good)) in
      let no : ⊥ = omega (arith, rw (← reads_one reads r) at l, room, few) in
      absurd no
  room_enough (made r p l) = rw (reads_one reads r, p)

-- so the answer for what was read is that for the whole input
pub whole : (buffer : List ℕ) (size : ℕ) {before after : List ℕ} {told : Result ℕ Refusal} → longest_text < length buffer → most_bytes ≤ length before →
    TextCall (take size buffer) before told after → Whole buffer size before told after
whole buffer size {before} {after} {told} most room r = record { all = all; room = λ input front lines reads. room_enough room reads (all input front) }
  where
    all : (input : List ℕ) → Front input buffer size → TextCall input before told after
    all input front = text_whole (length buffer) input most (rw front r)

-- an image stands within its buffer
image_within : {text before after : List ℕ} {X : Result ℕ Refusal} {n : ℕ} → TextCall text before X after → X ≡ Ok n → n ≤ length after
image_within (faulty f) e = absurd (err_is_not_ok e)
image_within (refused r p) e = absurd (err_is_not_ok e)
image_within (short r p l) e = absurd (err_is_not_ok e)
image_within {n = n} (made {lines} r p l) e = let same : length (image_from lines) ≡ n = cc in rw length-append (omega (arith, same))

-- what was read is an input that begins so
pub within : {buffer before after : List ℕ} {size n : ℕ} {told : Result ℕ Refusal} → size ≤ length buffer → Whole buffer size before told after →
    told ≡ Ok n → n ≤ length after
within {buffer} {size = size} fits w =
    let front : length (take size buffer) ≤ length buffer = omega (arith, length-take-le size buffer fits) in
    image_within (w.all (take size buffer) (take_all (length buffer) (take size buffer) front))

-- a writer that took that image, or that refusal, while the other stays, shows the answer
module _ {buffer before after : List ℕ} {size : ℕ} {old new : Option (List ℕ)} (other : Option (List ℕ)) where
  pub image_shown : {n : ℕ} → Whole buffer size before (Ok n) after → Appends old new (take n after) → Shows buffer size old new other other
  image_shown {n = n} w written = λ input front. record {
    before = before;
    told = Ok n;
    after = after;
    call = w.all input front;
    room = w.room input front;
    wrote = (written, Keeps-refl other);
  }

  pub refusal_shown : {why : Refusal} → Whole buffer size before (Err why) after → Appends old new (refusal_line why) →
      Shows buffer size other other old new
  refusal_shown {why = why} w written = λ input front. record {
    before = before;
    told = Err why;
    after = after;
    call = w.all input front;
    room = w.room input front;
    wrote = (Keeps-refl other, written);
  }
