-- From timing's promise to the report's: each answer's text fits, and once it is written at the front, the report is kept.
use mathlib.Core.Path.{◌≡◌, refl, ap}
use mathlib.Core.List.{List, append_assoc, append-nil}
use Rattle.std.specs.Prelude.{Result, Ok, Err}
use Prim.Native.Nat.{ℕ, ◌*◌, ◌≤◌}
use native.Mathlib.Omega.{arith}
use lib.IntN.{ℤ}
use lib.ListN.{length, drop, length-append}
use Rattle.image.specs.Words.{word_at}
use Rattle.image.specs.Refusal.{number_of}
use Rattle.image.specs.declared.refusal.Refusal.{Refusal}
use Rattle.image.specs.Header.{header_of}
use Rattle.circuit.specs.Circuit.{circuit_of}
use Rattle.circuit.specs.Times.{results}
use Rattle.timing.specs.TimingPromise.{Timing, growing, timed}
use Rattle.timing.specs.declared.timing_call.Answer.{Answer}
use Rattle.timing.specs.declared.timing_call.Answer.TheVariants.{Growing, Timed}
use Rattle.timing.proofs.SixResults.{length-results}
use Rattle.report.specs.Limits.{LONGEST}
use Rattle.report.specs.Text.{text_of}
use Rattle.report.specs.Inside.Written.{AtFront, joined, lengths}
use Rattle.report.specs.Inside.Pieces.{refused_pieces, loop_pieces, timed_pieces}
use Rattle.report.specs.Promise.{zeros, no_arcs, report_of, Report}
use Rattle.report.proofs.Fits.{text_fits, served_sound}
use Rattle.report.proofs.Rings.{count_fits}
use Rattle.report.proofs.Writes.{joined_long}

module _ (bytes : List ℕ) where
  -- how many synchronizers there are stands in the image
  pub synchronizers_are : word_at bytes 12 ≡ (circuit_of bytes).synchronizers
  unfolding circuit_of header_of
  synchronizers_are = refl

  -- the buffers hold what is told of them
  pub arcs_hold : {count : ℕ} {gain : ℤ} {R : List ℤ} {A : List ℕ} → Timing bytes zeros no_arcs (Ok (Growing count gain)) R A → count ≤ length A
  arcs_hold (growing s ring) = count_fits (circuit_of bytes) (served_sound bytes s) ring

  pub numbers_hold : {setups holds : ℕ} {R : List ℤ} {A : List ℕ} → Timing bytes zeros no_arcs (Ok (Timed setups holds)) R A →
      6 * (circuit_of bytes).synchronizers ≤ length R
  numbers_hold (timed E D s t) =
      let c = circuit_of bytes in
      let l = c.synchronizers in
      rw (length-append (results c E D l) (drop (6 * l) zeros), length-results c E D l) (omega arith)

  module _ {X : Result Answer Refusal} {R : List ℤ} {A : List ℕ} (t : Timing bytes zeros no_arcs X R A) where
    fits : (pieces : List (List ℕ)) → joined pieces ≡ report_of bytes X R A → lengths pieces ≤ LONGEST
    fits pieces e = omega (arith, joined_long pieces, ap length e, text_fits bytes t)

    pub reported : {xs text after : List ℕ} {size : ℕ} → xs ≡ report_of bytes X R A → AtFront xs text size after → Report bytes text size after
    reported {xs} {text} {after} {size} e w = record {
      answer = X;
      numbers = R;
      arcs = A;
      told = t;
      sized = rw (← e) w.sized;
      written = rw (← e) w.written;
    }

    -- the pieces of an answer make up its text, and so fit
    pub refused_told : {why : Refusal} → X ≡ Err why → joined (refused_pieces (number_of why.rule) why.«record») ≡ report_of bytes X R A
    unfolding text_of
    refused_told e = simp (e, append_assoc, append-nil)

    pub refused_fits : {why : Refusal} → X ≡ Err why → lengths (refused_pieces (number_of why.rule) why.«record») ≤ LONGEST
    refused_fits {why} e = fits (refused_pieces (number_of why.rule) why.«record») (refused_told e)

    pub growing_told : {count : ℕ} {gain : ℤ} → X ≡ Ok (Growing count gain) → joined (loop_pieces count gain A) ≡ report_of bytes X R A
    unfolding text_of
    growing_told e = simp (e, append_assoc, append-nil)

    pub growing_fits : {count : ℕ} {gain : ℤ} → X ≡ Ok (Growing count gain) → lengths (loop_pieces count gain A) ≤ LONGEST
    growing_fits {count} {gain} e = fits (loop_pieces count gain A) (growing_told e)

    pub timed_told : {l setups holds : ℕ} → l ≡ word_at bytes 12 → X ≡ Ok (Timed setups holds) → joined (timed_pieces l setups holds R) ≡ report_of bytes X R A
    unfolding text_of
    timed_told k e = rw (k, synchronizers_are, e) (simp (append_assoc, append-nil))

    pub timed_fits : {l setups holds : ℕ} → l ≡ word_at bytes 12 → X ≡ Ok (Timed setups holds) → lengths (timed_pieces l setups holds R) ≤ LONGEST
    timed_fits {l} {setups} {holds} k e = fits (timed_pieces l setups holds R) (timed_told k e)
