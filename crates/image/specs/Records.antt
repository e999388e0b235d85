-- The fields of a phase, a synchronizer and an arc.
use Rattle.std.specs.Prelude.{ℕ, ◌+◌, ◌*◌, List}
use Rattle.image.specs.Words.{word_at}
use Rattle.image.specs.Header.{phase_bytes, arc_bytes}
use Rattle.image.specs.declared.header.Layout.{Layout}
use Rattle.image.specs.declared.records.Phase.{Phase}
use Rattle.image.specs.declared.records.Synchronizer.{Synchronizer}
use Rattle.image.specs.declared.records.Arc.{Arc}

-- where record i starts, in a table of records of that size
abbrev pub place_of : ℕ → ℕ → ℕ → ℕ
place_of table size i = table + size * i

-- the record that starts at a byte
abbrev pub phase_from : List ℕ → ℕ → Phase
phase_from bytes at = record { closing = word_at bytes at; active = word_at bytes (at + 4) }

abbrev pub synchronizer_from : List ℕ → ℕ → Synchronizer
synchronizer_from bytes at = record {
  phase = word_at bytes at;
  kind = word_at bytes (at + 4);
  setup = word_at bytes (at + 8);
  hold = word_at bytes (at + 12);
  least = word_at bytes (at + 16);
  greatest = word_at bytes (at + 20);
}

abbrev pub arc_from : List ℕ → ℕ → Arc
arc_from bytes at = record {
  from = word_at bytes at;
  to = word_at bytes (at + 4);
  least = word_at bytes (at + 8);
  greatest = word_at bytes (at + 12);
}

-- record i of its table
unfoldable pub phase_at : List ℕ → Layout → ℕ → Phase
phase_at bytes layout i = phase_from bytes (place_of layout.phases phase_bytes i)

unfoldable pub synchronizer_at : List ℕ → Layout → ℕ → Synchronizer
synchronizer_at bytes layout i = synchronizer_from bytes (place_of layout.synchronizers layout.synchronizer_bytes i)

unfoldable pub arc_at : List ℕ → Layout → ℕ → Arc
arc_at bytes layout i = arc_from bytes (place_of layout.arcs arc_bytes i)
