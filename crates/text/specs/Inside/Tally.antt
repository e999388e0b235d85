-- What is kept while the lines of a text are read: where the next line starts and the image's next record goes, and how many lines of each kind
-- there were.
use Rattle.std.specs.Prelude.{◌≡◌, List, ℕ, ◌+◌, ◌≤◌, length, drop, replicate}
use Rattle.std.proofs.lemmas.List.Edits.{sets}
use Rattle.image.specs.Header.{header_bytes, synchronizer_bytes, most_bytes, offset_of}
use Rattle.image.specs.declared.header.Header.{Header}
use Rattle.image.specs.declared.header.Part.TheVariants as part
use Rattle.image.specs.Refusal.{refusal}
use Rattle.image.specs.declared.refusal.Refusal.{Refusal}
use Rattle.image.specs.declared.refusal.Rule.TheVariants as by
use Rattle.grammar.specs.Text.{Begins, Fault, longest_text}
use Rattle.grammar.specs.Layout.{cycle_of, phases_of, synchronizers_of, arcs_of}
use Rattle.grammar.specs.Inside.Rows.{words_of, flat}
use Rattle.grammar.specs.declared.read.Line.{Line}
use Rattle.grammar.specs.declared.read.Line.TheVariants as line
use Rattle.text.specs.Inside.Stores.{furthest, behind_words}
use Rattle.text.specs.declared.tally.Stage.{Stage}
use Rattle.text.specs.declared.tally.Stage.TheVariants.{Start, Phases, Synchronizers, Arcs}
use Rattle.text.specs.declared.tally.Tally.{Tally}

-- a stage, as the grammar numbers it
abbrev pub stage_number : Stage → ℕ
stage_number Start = 0
stage_number Phases = 1
stage_number Synchronizers = 2
stage_number Arcs = 3

-- a line more, behind which the next starts at `next`
abbrev pub tallied : Line → Tally → ℕ → Tally
tallied (line.Cycle n) t next = record t { at = next; lines = t.lines + 1; stage = Phases; cycle = n }
tallied (line.Phase p) t next = record t {
  at = next;
  lines = t.lines + 1;
  stage = Phases;
  end = behind_words t.end (words_of (line.Phase p));
  phases = t.phases + 1;
}
tallied (line.Synchronizer s) t next = record t {
  at = next;
  lines = t.lines + 1;
  stage = Synchronizers;
  end = behind_words t.end (words_of (line.Synchronizer s));
  synchronizers = t.synchronizers + 1;
}
tallied (line.Arc a) t next = record t {
  at = next;
  lines = t.lines + 1;
  stage = Arcs;
  end = behind_words t.end (words_of (line.Arc a));
  arcs = t.arcs + 1;
}

-- Counts far from what their types hold: each line has a byte at least. A tally by itself may have more, so this is asked for where one is used.
pub record Few (t : Tally) : Type 0 where
  pub lines : t.lines ≤ longest_text
  pub phases : t.phases ≤ longest_text
  pub synchronizers : t.synchronizers ≤ longest_text
  pub arcs : t.arcs ≤ longest_text
  pub end : t.end + synchronizer_bytes ≤ furthest

-- the tally of those lines
pub record Of (lines : List Line) (t : Tally) : Type 0 where
  pub count : t.lines ≡ length lines
  pub cycle : t.cycle ≡ cycle_of lines
  pub phases : t.phases ≡ length (phases_of lines)
  pub synchronizers : t.synchronizers ≡ length (synchronizers_of lines)
  pub arcs : t.arcs ≡ length (arcs_of lines)
  pub end : t.end ≡ header_bytes + length (flat lines)

-- the text has been read so far, and the records of its lines stand in the room
pub record SoFar (text : List ℕ) (t : Tally) (room : List ℕ) : Type 0 where
  pub lines : List Line
  pub begins : Begins text (stage_number t.stage) lines (drop t.at text)
  pub of : Of lines t
  pub place : t.at ≤ length text
  pub laid : t.end ≤ most_bytes → room ≡ sets (replicate most_bytes 0) header_bytes (flat lines)

-- the text has been read to its end, and has a line
pub record Done (text : List ℕ) (t : Tally) (room : List ℕ) : Type 0 where
  pub short : length text ≤ longest_text
  pub so_far : SoFar text t room
  pub end : t.at ≡ length text
  pub begun : 1 ≤ stage_number t.stage

-- a line at fault, as the text is refused for it
pub data Faulty (text : List ℕ) : Refusal → Type 0 where
  at_fault : {n : ℕ} → Fault text n → Faulty text (refusal by.Text n)

-- the header of an image with those counts
abbrev pub header_from : Tally → Header
header_from t = record {
  version = 1;
  cycle = t.cycle;
  phases = t.phases;
  synchronizers = t.synchronizers;
  arcs = t.arcs;
  phase_table = offset_of part.Phases t.phases t.synchronizers t.arcs;
  synchronizer_table = offset_of part.Synchronizers t.phases t.synchronizers t.arcs;
  arc_table = offset_of part.Arcs t.phases t.synchronizers t.arcs;
}
