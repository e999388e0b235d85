-- The header of an image, and where its tables lie.
use Rattle.std.specs.Prelude.{ℕ, ◌+◌, ◌*◌, List}
use Rattle.image.specs.Words.{word_at}
use Rattle.image.specs.declared.header.Header.{Header}
use Rattle.image.specs.declared.header.Image.{Image}
use Rattle.image.specs.declared.header.Part.{Part}
use Rattle.image.specs.declared.header.Part.TheVariants.{Phases, Synchronizers, Arcs, End}

-- the limits
abbrev pub most_phases : ℕ
most_phases = 16

abbrev pub most_synchronizers : ℕ
most_synchronizers = 512

abbrev pub most_arcs : ℕ
most_arcs = 2048

abbrev pub longest_cycle : ℕ
longest_cycle = 1000000000

abbrev pub longest_delay : ℕ
longest_delay = 1000000000

-- the bytes of the header, and of a record of each table
abbrev pub header_bytes : ℕ
header_bytes = 32

abbrev pub phase_bytes : ℕ
phase_bytes = 8

abbrev pub synchronizer_bytes : ℕ
synchronizer_bytes = 24

abbrev pub arc_bytes : ℕ
arc_bytes = 16

unfoldable pub header_of : List ℕ → Header
header_of bytes = record {
  version = word_at bytes 0;
  cycle = word_at bytes 4;
  phases = word_at bytes 8;
  synchronizers = word_at bytes 12;
  arcs = word_at bytes 16;
  phase_table = word_at bytes 20;
  synchronizer_table = word_at bytes 24;
  arc_table = word_at bytes 28;
}

-- where a part starts: the tables follow the header and each other without gaps
abbrev pub offset_of : Part → ℕ → ℕ → ℕ → ℕ
offset_of Phases k l m = header_bytes
offset_of Synchronizers k l m = header_bytes + phase_bytes * k
offset_of Arcs k l m = header_bytes + phase_bytes * k + synchronizer_bytes * l
offset_of End k l m = header_bytes + phase_bytes * k + synchronizer_bytes * l + arc_bytes * m

-- the bytes of the largest image
abbrev pub most_bytes : ℕ
most_bytes = offset_of End most_phases most_synchronizers most_arcs

-- what an image says of itself; its tables start where the header says, which rule 5 holds to the offsets above
abbrev pub image_of : Header → Image
image_of header = record {
  cycle = header.cycle;
  phases = header.phases;
  synchronizers = header.synchronizers;
  arcs = header.arcs;
  layout = record {
    phases = header.phase_table;
    synchronizers = header.synchronizer_table;
    arcs = header.arc_table;
    synchronizer_bytes = synchronizer_bytes;
  };
}
