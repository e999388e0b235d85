-- A text as its lines, and the lowest line at fault of a text that has no reading.
use Rattle.std.specs.Prelude.{◌≡◌, List, [], ◌∷◌, ◌++◌, ◌⊎◌, ◌≢◌, ℕ, zero, suc, ◌≤◌, max, length}
use Prim.Native.Char.{code}
use Rattle.grammar.specs.Lines.{Says}
use Rattle.grammar.specs.declared.read.Line.{Line}
use Rattle.grammar.specs.declared.read.Line.TheVariants.{Cycle, Phase, Synchronizer, Arc}

abbrev pub line_feed : ℕ
line_feed = code "\n"

abbrev pub longest_text : ℕ
longest_text = 32768

-- the order of the kinds of line
abbrev pub rank : Line → ℕ
rank (Cycle n) = 0
rank (Phase p) = 1
rank (Synchronizer s) = 2
rank (Arc a) = 3

-- How far a text has come: 0 before its first line; then the rank of the last line, where `tc` counts as 1, since what may follow it is
-- what may follow a phase.
abbrev pub stage_after : Line → ℕ
stage_after line = max 1 (rank line)

-- `tc` comes first and once, and no line comes after one of a later kind
abbrev pub InPlace : ℕ → Line → Type 0
InPlace zero line = rank line ≡ 0
InPlace (suc stage) line = suc stage ≤ rank line

-- `Begins text stage lines rest`: the text begins with those lines, each on the grammar, in its place and ended by a line feed
pub data Begins (text : List ℕ) : ℕ → List Line → List ℕ → Type 0 where
  start : Begins text 0 [] text
  one_more : {stage : ℕ} {lines : List Line} {s rest : List ℕ} {line : Line} →
      Begins text stage lines (s ++ (line_feed ∷ rest)) → Says s line → InPlace stage line → Begins text (stage_after line) (lines ++ (line ∷ [])) rest

-- the text is those lines, to its end
pub record Reads (text : List ℕ) (lines : List Line) : Type 0 where
  pub short : length text ≤ longest_text
  pub stage : ℕ
  pub begun : 1 ≤ stage
  pub whole : Begins text stage lines []

-- no line may stand next
abbrev pub Stuck : ℕ → List ℕ → Type 0
Stuck stage rest = (s after : List ℕ) (line : Line) → rest ≡ s ++ (line_feed ∷ after) → Says s line → InPlace stage line → ⊥

-- Line n is the lowest at fault: n lines stand before it and none may stand next, though the text goes on, or has no line at all.
pub record Stops (text : List ℕ) (n : ℕ) : Type 0 where
  pub short : length text ≤ longest_text
  pub stage : ℕ
  pub lines : List Line
  pub rest : List ℕ
  pub before : Begins text stage lines rest
  pub count : length lines ≡ n
  pub unfinished : (rest ≢ []) ⊎ (stage ≡ 0)
  pub stuck : Stuck stage rest

-- the line that a text is refused for; a text that is too long is not looked into
pub data Fault (text : List ℕ) : ℕ → Type 0 where
  too_long : suc longest_text ≤ length text → Fault text 0
  at_line : {n : ℕ} → Stops text n → Fault text n
