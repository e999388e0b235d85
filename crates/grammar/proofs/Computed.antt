-- A text that is given is read by computing: each line is what the reader finds at its place, and where the reader finds none, none may stand.
use mathlib.Core.Path.{◌≡◌, sym, subst, ◌∙◌}
use mathlib.Core.Bool.{Bool, true, ◌&&◌}
use mathlib.Core.List.{List, [], ◌∷◌, ◌++◌, append_assoc, append-nil}
use Prim.Native.Nat.{ℕ}
use lib.ListN.{drop}
use Rattle.std.specs.Prelude.{None, Some}
use Rattle.std.proofs.lemmas.Bool.{and_parts}
use Rattle.std.proofs.lemmas.Option.{none-some}
use Rattle.grammar.specs.Text.{stage_after, InPlace, Begins, one_more, Stuck}
use Rattle.grammar.specs.Inside.Reader.{and_then, behind, digits_at, number_at, field_at, ends_at, joined_span, closed_at, span_at, window_at}
use Rattle.grammar.specs.Inside.Reader.{word_at, cycle_at, phase_at, synchronizer_at, arc_at, line_at, in_place}
use Rattle.grammar.specs.declared.read.Line.{Line}
use Rattle.grammar.specs.declared.read.Read.{Read}
use Rattle.grammar.proofs.Sound.{Finds, holds, StandsLine, line_sound}
use Rattle.grammar.proofs.Complete.{line_complete}
use Rattle.grammar.proofs.InOrder.{in_place_lem}

module _ (text : List ℕ) where
  -- a line more
  pub next_line : (at stage : ℕ) (lines : List Line) (x : Read) → Begins text stage lines (drop at text) → line_at text at ≡ Some x →
      InPlace stage x.line → Begins text (stage_after x.line) (lines ++ (x.line ∷ [])) (drop x.next text)
  next_line at stage lines x b found here =
      let stands = holds (subst (Finds (StandsLine text at)) found (line_sound text at)) in
      one_more (subst (Begins text stage lines) stands.from b) stands.is here

  -- no line
  pub none_stands : (at stage : ℕ) → line_at text at ≡ None → Stuck stage (drop at text)
  none_stands at stage none s after x rest says here = none-some _ (sym none ∙ line_complete text s after at x says rest)

-- all that has to unfold so that a line computes
unfoldable pub reading : Unit {0}
unfolding and_then line_at word_at cycle_at phase_at synchronizer_at arc_at window_at span_at ends_at joined_span closed_at field_at number_at digits_at behind
reading = tt

-- ---- a text by its lines, each with the place behind it
abbrev pub said : List Read → List Line
said [] = []
said (x ∷ xs) = x.line ∷ said xs

abbrev pub place_after : ℕ → List Read → ℕ
place_after at [] = at
place_after at (x ∷ xs) = place_after x.next xs

abbrev pub stage_of : ℕ → List Read → ℕ
stage_of stage [] = stage
stage_of stage (x ∷ xs) = stage_of (stage_after x.line) xs

-- what the reader finds from a place on
abbrev pub Found : List ℕ → ℕ → List Read → Type 0
Found text at [] = Unit {0}
Found text at (x ∷ xs) = (line_at text at ≡ Some x) × Found text x.next xs

-- each in its place
abbrev pub fit : ℕ → List Read → Bool
fit stage [] = true
fit stage (x ∷ xs) = in_place stage x.line && fit (stage_after x.line) xs

pub begun : (text : List ℕ) (xs : List Read) (at stage : ℕ) (lines : List Line) → Begins text stage lines (drop at text) →
    Found text at xs → fit stage xs ≡ true → Begins text (stage_of stage xs) (lines ++ said xs) (drop (place_after at xs) text)
begun text [] at stage lines b f h = rw (append-nil lines) b
begun text (x ∷ xs) at stage lines b f h =
    let here = and_parts (in_place stage x.line) (fit (stage_after x.line) xs) h in
    rw (← append_assoc lines (x.line ∷ []) (said xs))
    (begun text xs x.next (stage_after x.line) (lines ++ (x.line ∷ []))
    (next_line text at stage lines x b f.0 (in_place_lem stage x.line here.0)) f.1 here.1)
