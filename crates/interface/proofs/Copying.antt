-- A report that is copied from the buffer it was made in. The buffer holds the report and then what is left of it, so its first bytes, as
-- many as the report has, are the report.
use mathlib.Core.Path.{◌≡◌, refl, sym, ◌∙◌}
use mathlib.Core.List.{List, ◌++◌}
use Prim.Native.Nat.{ℕ, ◌≤◌, ◌<◌}
use native.Mathlib.Omega.{arith}
use lib.ListN.{length, take, drop, length-append}
use lib.Seq.{length-take-le, take_at}
use borrow.Author.Tests.{lt-ltb, le-ltb}
use Rattle.report.specs.Limits.{LONGEST}
use Rattle.report.specs.Promise.{report_of, Report}
use Rattle.report.proofs.Fits.{report_fits}
use Rattle.interface.specs.Promise.{blank, ReportForC}

module _ {bytes : List ℕ} {size : ℕ} {whole : List ℕ} (r : Report bytes blank size whole) where
  -- the buffer is at least as long as the report
  pub held : size ≤ length whole
  held = rw (r.written, length-append) (omega (arith, r.sized))

  pub part_long : length (take size whole) ≡ size
  part_long = length-take-le size whole held

  pub too_short : {before : List ℕ} → length before < size → ReportForC bytes before size before
  too_short {before} l = record { whole = whole; kept = r; written = rw (lt-ltb _ _ l) }

  -- the copy is of as many bytes as the report has
  pub long_enough : {before after : List ℕ} → size ≤ length before → after ≡ take size whole ++ drop size before → ReportForC bytes before size after
  long_enough {before} l e = record { whole = whole; kept = r; written = e ∙ rw (le-ltb (length before) size l) refl }

-- what the promise says of the buffer: the report itself stands at its front, or nothing changed
module _ {bytes before after : List ℕ} {size : ℕ} (c : ReportForC bytes before size after) where
  pub report_stands : size ≤ length before → after ≡ report_of bytes c.kept.answer c.kept.numbers c.kept.arcs ++ drop size before
  report_stands l =
      let text = report_of bytes c.kept.answer c.kept.numbers c.kept.arcs in
      let front : take size c.whole ≡ text = rw c.kept.written (take_at text (drop size blank) size (sym c.kept.sized)) in
      c.written ∙ rw (le-ltb (length before) size l, front)

  pub report_kept_back : length before < size → after ≡ before
  report_kept_back l = c.written ∙ rw (lt-ltb (length before) size l)

  -- a buffer of this length is long enough for every image
  pub report_call_fits : size ≤ LONGEST
  report_call_fits = report_fits bytes c.kept
