-- The lines of a text are small: no number in them is greater than `greatest`, and there are no more lines than bytes, since each line takes its
-- line feed. By recursion on the beginning of the text.
use mathlib.Core.List.{List, [], ◌∷◌, ◌++◌}
use Prim.Native.Nat.{ℕ, zero, suc, ◌+◌, ◌≤◌, ◌<◌}
use native.Mathlib.Omega.{arith}
use lib.ListN.{length, get_or, length-append}
use Rattle.grammar.specs.Numbers.{greatest}
use Rattle.grammar.specs.Lines.{Kind, latch_kind, flop_kind, Says, cycle, a_phase, a_synchronizer, an_arc}
use Rattle.grammar.specs.Text.{line_feed, Begins, start, one_more}
use Rattle.grammar.specs.Layout.{phase_words, synchronizer_words, arc_words, cycle_of, phases_of, synchronizers_of, arcs_of}
use Rattle.grammar.specs.declared.read.Line.{Line}
use Rattle.grammar.specs.declared.read.Line.TheVariants.{Cycle, Phase, Synchronizer, Arc}
use Rattle.grammar.proofs.Complete.{means_order}

-- each word is small
abbrev pub SmallWords : List ℕ → Type 0
SmallWords [] = Unit {0}
SmallWords (w ∷ ws) = (w ≤ greatest) × SmallWords ws

-- the cycle, or the words of the record
abbrev pub SmallLine : Line → Type 0
SmallLine (Cycle n) = n ≤ greatest
SmallLine (Phase p) = SmallWords (phase_words p)
SmallLine (Synchronizer s) = SmallWords (synchronizer_words s)
SmallLine (Arc a) = SmallWords (arc_words a)

abbrev pub AllSmall : List Line → Type 0
AllSmall [] = Unit {0}
AllSmall (line ∷ lines) = SmallLine line × AllSmall lines

pub all_small_snoc : (lines : List Line) (line : Line) → AllSmall lines → SmallLine line → AllSmall (lines ++ (line ∷ []))
all_small_snoc [] line h k = (k, tt)
all_small_snoc (x ∷ lines) line h k = (h.0, all_small_snoc lines line h.1 k)

kind_small : {name : List ℕ} {kind : ℕ} → Kind name kind → kind ≤ greatest
kind_small latch_kind = omega arith
kind_small flop_kind = omega arith

pub says_small : {s : List ℕ} {line : Line} → Says s line → SmallLine line
says_small (cycle n) = n.small
says_small (a_phase e a) = omega (arith, e.small, a.small)
says_small (a_synchronizer kind p s h w) = omega (arith, kind_small kind, p.small, s.small, h.small, w.small, means_order w.means)
says_small (an_arc f t w) = omega (arith, f.small, t.small, w.small, means_order w.means)

-- the numbers in the lines of a text are small
pub begins_small : {text rest : List ℕ} {stage : ℕ} {lines : List Line} → Begins text stage lines rest → AllSmall lines
begins_small start = tt
begins_small (one_more {lines = lines} {line = line} b h p) = all_small_snoc lines line (begins_small b) (says_small h)

-- each line takes a byte at least
pub begins_few : {text rest : List ℕ} {stage : ℕ} {lines : List Line} → Begins text stage lines rest → length lines + length rest ≤ length text
begins_few start = omega arith
begins_few (one_more {lines = lines} {s = s} {rest = rest} {line = line} b h p) =
    omega (arith, begins_few b, length-append s (line_feed ∷ rest), length-append lines (line ∷ []))

-- ---- what that says of the cycle and of each table
pub cycle_small : (lines : List Line) → AllSmall lines → cycle_of lines ≤ greatest
cycle_small [] h = omega arith
cycle_small (Cycle n ∷ lines) h = h.0
cycle_small (Phase p ∷ lines) h = cycle_small lines h.1
cycle_small (Synchronizer s ∷ lines) h = cycle_small lines h.1
cycle_small (Arc a ∷ lines) h = cycle_small lines h.1

-- the records of the tables are no more than the lines
pub records_few : (lines : List Line) → length (phases_of lines) + length (synchronizers_of lines) + length (arcs_of lines) ≤ length lines
records_few [] = omega arith
records_few (Cycle n ∷ lines) = omega (arith, records_few lines)
records_few (Phase p ∷ lines) = omega (arith, records_few lines)
records_few (Synchronizer s ∷ lines) = omega (arith, records_few lines)
records_few (Arc a ∷ lines) = omega (arith, records_few lines)

-- every record of a table
abbrev pub SmallRows : {A : Type 0} → (A → List ℕ) → List A → Type 0
SmallRows f [] = Unit {0}
SmallRows f (x ∷ xs) = SmallWords (f x) × SmallRows f xs

pub phases_small : (lines : List Line) → AllSmall lines → SmallRows phase_words (phases_of lines)
phases_small [] h = tt
phases_small (Cycle n ∷ lines) h = phases_small lines h.1
phases_small (Phase p ∷ lines) h = (h.0, phases_small lines h.1)
phases_small (Synchronizer s ∷ lines) h = phases_small lines h.1
phases_small (Arc a ∷ lines) h = phases_small lines h.1

pub synchronizers_small : (lines : List Line) → AllSmall lines → SmallRows synchronizer_words (synchronizers_of lines)
synchronizers_small [] h = tt
synchronizers_small (Cycle n ∷ lines) h = synchronizers_small lines h.1
synchronizers_small (Phase p ∷ lines) h = synchronizers_small lines h.1
synchronizers_small (Synchronizer s ∷ lines) h = (h.0, synchronizers_small lines h.1)
synchronizers_small (Arc a ∷ lines) h = synchronizers_small lines h.1

pub arcs_small : (lines : List Line) → AllSmall lines → SmallRows arc_words (arcs_of lines)
arcs_small [] h = tt
arcs_small (Cycle n ∷ lines) h = arcs_small lines h.1
arcs_small (Phase p ∷ lines) h = arcs_small lines h.1
arcs_small (Synchronizer s ∷ lines) h = arcs_small lines h.1
arcs_small (Arc a ∷ lines) h = (h.0, arcs_small lines h.1)

-- word j of record i of a table
pub word_small : (ws : List ℕ) (j : ℕ) → SmallWords ws → get_or ws j 0 ≤ greatest
word_small [] j h = omega arith
word_small (w ∷ ws) zero h = h.0
word_small (w ∷ ws) (suc j) h = word_small ws j h.1

pub row_small : {A : Type 0} (f : A → List ℕ) (xs : List A) (d : A) (i j : ℕ) → SmallRows f xs → i < length xs → get_or (f (get_or xs i d)) j 0 ≤ greatest
row_small f [] d i j h l = let no : ⊥ = omega arith in absurd no
row_small f (x ∷ xs) d zero j h l = word_small (f x) j h.0
row_small f (x ∷ xs) d (suc i) j h l = row_small f xs d i j h.1 (omega arith)
