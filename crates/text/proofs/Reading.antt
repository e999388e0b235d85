-- Reading line after line: what holds of the tally and the room before a line holds after it too (`SoFar`), and at the end of the text it says
-- whether the text has a reading.
use mathlib.Core.Path.{◌≡◌, refl, sym, ap, subst, ◌∙◌}
use mathlib.Core.Bool.{false}
use mathlib.Core.List.{List, [], ◌∷◌, ◌++◌}
use mathlib.Core.Logic.{inl, inr}
use Prim.Native.Nat.{ℕ, ◌+◌, ◌*◌, ◌≤◌, ◌<◌}
use native.Mathlib.Omega.{arith}
use lib.ListN.{length, drop, replicate, length-append, length-drop}
use lib.Seq.{sets}
use Rattle.std.specs.Prelude.{None, Some}
use Rattle.std.proofs.lemmas.Bool.{both_ways}
use Rattle.std.proofs.lemmas.Option.{same_Some, none-some}
use Rattle.image.specs.Header.{header_bytes, most_bytes}
use Rattle.image.proofs.Lists.{sets_append}
use Rattle.grammar.specs.Text.{rank, stage_after, line_feed, longest_text, InPlace, Begins, start, one_more, Fault, at_line}
use Rattle.grammar.specs.Layout.{bytes_of, phases_of, synchronizers_of, arcs_of}
use Rattle.grammar.specs.Inside.Reader.{line_at, in_place}
use Rattle.grammar.specs.Inside.Rows.{words_of, flat}
use Rattle.grammar.specs.declared.read.Line.{Line}
use Rattle.grammar.specs.declared.read.Line.TheVariants as line
use Rattle.grammar.specs.declared.read.Read.{Read}
use Rattle.grammar.proofs.Sound.{Finds, holds, StandsLine, line_sound}
use Rattle.grammar.proofs.Complete.{line_complete}
use Rattle.grammar.proofs.InOrder.{cycle_append, phases_append, synchronizers_append, arcs_append, flat_snoc, none_begun, place_rank, in_order, placed}
use Rattle.grammar.proofs.HeaderLaid.{phase_rows, synchronizer_rows, arc_rows, phases_long, synchronizers_long, arcs_long}
use Rattle.grammar.proofs.WordsBack.{bytes_long}
use Rattle.grammar.proofs.SmallLines.{begins_few, records_few}
use Rattle.text.specs.Inside.Stores.{stored_all, behind_words}
use Rattle.text.specs.Inside.Tally.{stage_number, tallied, Few, Of, SoFar, Done}
use Rattle.text.specs.declared.tally.Stage.{Stage}
use Rattle.text.specs.declared.tally.Stage.TheVariants.{Start, Phases, Synchronizers, Arcs}
use Rattle.text.specs.declared.tally.Tally.{Tally}
use Rattle.text.proofs.Storing.{behind_words_lem, stored_all_lem}

-- ---- a line more in the tally
module _ (lines : List Line) (t : Tally) (of : Of lines t) where
  end_after : (x : Line) → behind_words t.end (words_of x) ≡ header_bytes + length (flat (lines ++ (x ∷ [])))
  end_after x =
      rw (flat_snoc lines x, length-append (flat lines) (bytes_of (words_of x)))
      (omega (arith, behind_words_lem t.end (words_of x), bytes_long (words_of x), of.end))

  count_after : (x : Line) → t.lines + 1 ≡ length (lines ++ (x ∷ []))
  count_after x = rw (length-append lines (x ∷ [])) (omega (arith, of.count))

  -- at the start of a text there is no line yet, so `tc` is the first
  pub of_more : (x : Line) (to : ℕ) → (rank x ≡ 0 → lines ≡ []) → Of (lines ++ (x ∷ [])) (tallied x t to)
  of_more (line.Cycle n) to first = record {
    count = count_after (line.Cycle n);
    cycle = rw (first refl) refl;
    phases = rw (phases_append lines (line.Cycle n ∷ []), length-append (phases_of lines) []) (omega (arith, of.phases));
    synchronizers = rw (synchronizers_append lines (line.Cycle n ∷ []), length-append (synchronizers_of lines) []) (omega (arith, of.synchronizers));
    arcs = rw (arcs_append lines (line.Cycle n ∷ []), length-append (arcs_of lines) []) (omega (arith, of.arcs));
    end = end_after (line.Cycle n);
  }
  of_more (line.Phase p) to first = record {
    count = count_after (line.Phase p);
    cycle = of.cycle ∙ sym (cycle_append lines (line.Phase p ∷ []) refl);
    phases = rw (phases_append lines (line.Phase p ∷ []), length-append (phases_of lines) (p ∷ [])) (omega (arith, of.phases));
    synchronizers = rw (synchronizers_append lines (line.Phase p ∷ []), length-append (synchronizers_of lines) []) (omega (arith, of.synchronizers));
    arcs = rw (arcs_append lines (line.Phase p ∷ []), length-append (arcs_of lines) []) (omega (arith, of.arcs));
    end = end_after (line.Phase p);
  }
  of_more (line.Synchronizer s) to first = record {
    count = count_after (line.Synchronizer s);
    cycle = of.cycle ∙ sym (cycle_append lines (line.Synchronizer s ∷ []) refl);
    phases = rw (phases_append lines (line.Synchronizer s ∷ []), length-append (phases_of lines) []) (omega (arith, of.phases));
    synchronizers = rw (synchronizers_append lines (line.Synchronizer s ∷ []), length-append (synchronizers_of lines) (s ∷ [])) (omega (arith, of.synchronizers));
    arcs = rw (arcs_append lines (line.Synchronizer s ∷ []), length-append (arcs_of lines) []) (omega (arith, of.arcs));
    end = end_after (line.Synchronizer s);
  }
  of_more (line.Arc a) to first = record {
    count = count_after (line.Arc a);
    cycle = of.cycle ∙ sym (cycle_append lines (line.Arc a ∷ []) refl);
    phases = rw (phases_append lines (line.Arc a ∷ []), length-append (phases_of lines) []) (omega (arith, of.phases));
    synchronizers = rw (synchronizers_append lines (line.Arc a ∷ []), length-append (synchronizers_of lines) []) (omega (arith, of.synchronizers));
    arcs = rw (arcs_append lines (line.Arc a ∷ []), length-append (arcs_of lines) (a ∷ [])) (omega (arith, of.arcs));
    end = end_after (line.Arc a);
  }

-- what a line more does to the stage, the place and the end
stage_more : (x : Line) (t : Tally) (to : ℕ) → stage_after x ≡ stage_number (tallied x t to).stage
stage_more (line.Cycle n) t to = refl
stage_more (line.Phase p) t to = refl
stage_more (line.Synchronizer s) t to = refl
stage_more (line.Arc a) t to = refl

pub at_more : (x : Line) (t : Tally) (to : ℕ) → (tallied x t to).at ≡ to
at_more (line.Cycle n) t to = refl
at_more (line.Phase p) t to = refl
at_more (line.Synchronizer s) t to = refl
at_more (line.Arc a) t to = refl

end_more : (x : Line) (t : Tally) (to : ℕ) → (tallied x t to).end ≡ behind_words t.end (words_of x)
end_more (line.Cycle n) t to = refl
end_more (line.Phase p) t to = refl
end_more (line.Synchronizer s) t to = refl
end_more (line.Arc a) t to = refl

-- the records of lines are as long as the tables
pub flat_long : {text rest : List ℕ} {stage : ℕ} {lines : List Line} → Begins text stage lines rest →
    length (flat lines) ≡ 8 * length (phases_of lines) + 24 * length (synchronizers_of lines) + 16 * length (arcs_of lines)
flat_long {lines = lines} b =
    rw (in_order b, length-append (phase_rows lines ++ synchronizer_rows lines) (arc_rows lines), length-append (phase_rows lines) (synchronizer_rows lines))
    (omega (arith, phases_long lines, synchronizers_long lines, arcs_long lines))

-- ---- before the first line
pub started : (text : List ℕ) → SoFar text
    (record { at = 0; lines = 0; stage = Start; end = header_bytes; cycle = 0; phases = 0; synchronizers = 0; arcs = 0 })
    (replicate most_bytes 0)
started text = record {
  lines = [];
  begins = start;
  of = record { count = refl; cycle = refl; phases = refl; synchronizers = refl; arcs = refl; end = refl };
  place = omega arith;
  laid = λ _. refl;
}

module _ (text : List ℕ) (short : length text ≤ longest_text) (t : Tally) (room : List ℕ) (k : SoFar text t room) where
  pub few : Few t
  few =
      let n = begins_few k.begins in
      let r = records_few k.lines in
      record {
        lines = omega (arith, n, k.of.count, short);
        phases = omega (arith, n, r, k.of.phases, short);
        synchronizers = omega (arith, n, r, k.of.synchronizers, short);
        arcs = omega (arith, n, r, k.of.arcs, short);
        end = omega (arith, k.of.end, flat_long k.begins, n, r, short);
      }

  -- ---- a line more
  module _ (inside : t.at < length text) where
    -- what stands at the place lies within the text
    within : (s after : List ℕ) → drop t.at text ≡ s ++ (line_feed ∷ after) → t.at + length s + 1 ≤ length text
    within s after e =
        let l = sym (length-drop t.at text) ∙ ap length e ∙ length-append s (line_feed ∷ after) in
        omega (arith, l, inside)

    -- one that stands on the grammar and in its place is taken
    module _ (read : Read) (found : line_at text t.at ≡ Some read) where
      stands : StandsLine text t.at read
      stands = holds (subst (Finds (StandsLine text t.at)) found (line_sound text t.at))

      place : read.next ≡ t.at + length stands.s + 1
      place = ap (λ (r : Read). r.next) (same_Some _ _ (sym found ∙ line_complete text stands.s (drop read.next text) t.at read.line stands.is stands.from))

      pub onward : t.at < read.next
      onward = omega (arith, place)

      pub goes_on : InPlace (stage_number t.stage) read.line →
          SoFar text (tallied read.line t read.next) (stored_all room t.end (words_of read.line))
      goes_on here = record {
        lines = k.lines ++ (x ∷ []);
        begins = rw (← stage_more x t to, at_more x t to)
            (one_more (subst (Begins text (stage_number t.stage) k.lines) stands.from k.begins) stands.is here);
        of = of_more k.lines t k.of x to (λ z. none_begun k.begins (omega (arith, z, place_rank (stage_number t.stage) x here)));
        place = rw (at_more x t to) (omega (arith, place, within stands.s (drop to text) stands.from));
        laid = λ fit. laid (rw (end_more x t to) at fit);
      } where
        x : Line
        x = read.line

        to : ℕ
        to = read.next

        laid : behind_words t.end (words_of x) ≤ most_bytes → stored_all room t.end (words_of x) ≡ sets (replicate most_bytes 0) header_bytes (flat (k.lines ++ (x ∷ [])))
        laid fit =
            let small : t.end ≤ most_bytes = omega (arith, fit, behind_words_lem t.end (words_of x)) in
            let bytes = bytes_of (words_of x) in
            stored_all_lem room t.end (words_of x) fit
            ∙ ap (λ (r : List ℕ). sets r t.end bytes) (k.laid small)
            ∙ ap (λ (n : ℕ). sets (sets (replicate most_bytes 0) header_bytes (flat k.lines)) n bytes) k.of.end
            ∙ sym (sets_append (flat k.lines) bytes (replicate most_bytes 0) header_bytes)
            ∙ ap (λ (l : List ℕ). sets (replicate most_bytes 0) header_bytes l) (sym (flat_snoc k.lines x))

    -- where none may stand, that line is at fault
    pub stops : ((read : Read) → line_at text t.at ≡ Some read → InPlace (stage_number t.stage) read.line → ⊥) → Fault text t.lines
    stops none = at_line (record {
      short = short;
      stage = stage_number t.stage;
      lines = k.lines;
      rest = drop t.at text;
      before = k.begins;
      count = sym k.of.count;
      unfinished = inl (λ e. omega (arith, length-drop t.at text, ap length e, inside));
      stuck = λ s after x e says here. none _ (line_complete text s after t.at x says e) here;
    })

    pub no_line : line_at text t.at ≡ None → Fault text t.lines
    no_line e = stops (λ read f here. none-some read (sym e ∙ f))

    pub misplaced : (read : Read) → line_at text t.at ≡ Some read → in_place (stage_number t.stage) read.line ≡ false → Fault text t.lines
    misplaced read e off = stops λ other f here.
        let same = same_Some _ _ (sym f ∙ e) in
        both_ways _ off (ap (λ (r : Read). in_place (stage_number t.stage) r.line) (sym same) ∙ placed (stage_number t.stage) other.line here)

  -- ---- the end of the text
  module _ (end : length text ≤ t.at) where
    -- without a line
    pub empty : stage_number t.stage ≡ 0 → Fault text t.lines
    empty first = at_line (record {
      short = short;
      stage = stage_number t.stage;
      lines = k.lines;
      rest = drop t.at text;
      before = k.begins;
      count = sym k.of.count;
      unfinished = inr first;
      stuck = λ s after x e says here.
          let long = sym (length-drop t.at text) ∙ ap length e ∙ length-append s (line_feed ∷ after) in omega (arith, long, end);
    })

    pub done : 1 ≤ stage_number t.stage → Done text t room
    done begun = record { short = short; so_far = k; end = omega (arith, k.place, end); begun = begun }

-- a stage that is not the first
pub begun_stage : (stage : Stage) → (stage ≡ Start → ⊥) → 1 ≤ stage_number stage
begun_stage Start h = absurd (h refl)
begun_stage Phases h = omega arith
begun_stage Synchronizers h = omega arith
begun_stage Arcs h = omega arith
