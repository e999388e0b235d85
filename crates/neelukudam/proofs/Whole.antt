-- The report of an input's first bytes is the report of all of it, where they are more than any image has: an input that is longer is
-- refused by the same rule, and a refusal tells nothing else of the input.
use mathlib.Core.Path.{◌≡◌, refl, sym, ap, ◌∙◌}
use mathlib.Core.Bool.{Bool, true, false}
use mathlib.Core.List.{List, ◌++◌}
use Rattle.std.specs.Prelude.{Result, Ok}
use Prim.Native.Nat.{ℕ, ◌≤◌, ◌<◌}
use native.Mathlib.Omega.{arith}
use lib.Dec.{leb}
use lib.IntN.{ℤ}
use lib.ListN.{length, take, drop, length-append}
use lib.Seq.{length-take-le, take_all}
use borrow.Author.Tests.{leb-true, leb-false}
use Rattle.image.specs.Header.{most_bytes}
use Rattle.image.specs.Checks.{check_of}
use Rattle.image.specs.Valid.{image_in}
use Rattle.image.specs.declared.refusal.Refusal.{Refusal}
use Rattle.image.proofs.Enough.{valid_short, enough}
use Rattle.image.proofs.Validity.{accepts}
use Rattle.timing.specs.TimingPromise.{Timing, refused, few_numbers, few_arcs, growing, timed}
use Rattle.timing.specs.declared.timing_call.Answer.{Answer}
use Rattle.report.specs.Text.{text_of}
use Rattle.report.specs.Promise.{zeros, no_arcs, Report}
use Rattle.std.specs.declared.option.Option.{Option}
use Rattle.std.specs.Io.KnownBytes.{Appends}
use Rattle.neelukudam.specs.Promise.{Whole, Shows}

-- two inputs, refused alike
module _ (a b : List ℕ) (same : check_of a ≡ check_of b) (bad : check_of a ≡ Ok (image_in a) → ⊥) where
  timing_alike : {answer : Result Answer Refusal} {numbers : List ℤ} {arcs : List ℕ} → Timing a zeros no_arcs answer numbers arcs →
      Timing b zeros no_arcs answer numbers arcs × ((l m : ℕ) → text_of l answer numbers arcs ≡ text_of m answer numbers arcs)
  unfolding text_of
  timing_alike (refused e) = (refused (sym same ∙ e), λ l m. refl)
  timing_alike (few_numbers good few) = absurd (bad good)
  timing_alike (few_arcs good fit few) = absurd (bad good)
  timing_alike (growing served shown) = absurd (bad served.good)
  timing_alike (timed E D served times) = absurd (bad served.good)

  report_alike : {before after : List ℕ} {size : ℕ} → Report a before size after → Report b before size after
  report_alike {before} {after} {size} r =
      let t = timing_alike r.told in
      record {
        answer = r.answer;
        numbers = r.numbers;
        arcs = r.arcs;
        told = t.0;
        sized = r.sized ∙ ap length (t.1 _ _);
        written = r.written ∙ ap (λ (x : List ℕ). x ++ drop size before) (t.1 _ _);
      }

module _ (n : ℕ) (input : List ℕ) (most : most_bytes < n) {before after : List ℕ} {size : ℕ} where
  pub report_whole : Report (take n input) before size after → Report input before size after
  report_whole r = go (leb (length input) n) refl
    where
      go : (b : Bool) → leb (length input) n ≡ b → Report input before size after
      go true e = rw (take_all n input (leb-true _ _ e)) at r
      go false e =
          let long : n < length input = leb-false _ _ e in
          let l : length (take n input) ≡ n = length-take-le n input (omega arith) in
          report_alike (take n input) input (enough n input most) (λ good. omega (arith, valid_short (take n input) ((accepts (take n input)).1 good))) r

-- so the report of what was read is that of the whole input
pub whole : (buffer : List ℕ) (size : ℕ) {before after : List ℕ} {told : ℕ} →
    most_bytes < length buffer → Report (take size buffer) before told after → Whole buffer size before told after
whole buffer size most r = record { all = λ input front. report_whole (length buffer) input most (rw front r) }

-- a text stands within its buffer: what was read is an input that begins so
pub within : {buffer before after : List ℕ} {size told : ℕ} → size ≤ length buffer → Whole buffer size before told after → told ≤ length after
within {buffer} {size = size} fits w =
    let front : length (take size buffer) ≤ length buffer = omega (arith, length-take-le size buffer fits) in
    let r = w.all (take size buffer) (take_all (length buffer) (take size buffer) front) in
    rw (r.written, length-append) (omega (arith, r.sized))

-- a writer that took that text shows the report
pub shows : {buffer before after : List ℕ} {size told : ℕ} {old new : Option (List ℕ)} → Whole buffer size before told after → Appends old new (take told after) →
    Shows buffer size old new
shows {before = before} {after} {told = told} w printed = λ input front. record { before = before; told = told; after = after; report = w.all input front; printed = printed }
