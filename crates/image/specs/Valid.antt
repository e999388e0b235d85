-- What a good image guarantees: the negation of each rule (docs/RULES.md), for the crates above to cite.
use Rattle.std.specs.Prelude.{◌≡◌, List, ◌⊎◌, ℕ, suc, ◌+◌, ◌*◌, ◌≤◌, ◌<◌, length}
use Rattle.image.specs.Header.{header_of, image_of, most_phases, most_synchronizers, most_arcs, longest_cycle, longest_delay, header_bytes, phase_bytes, synchronizer_bytes, arc_bytes}
use Rattle.image.specs.Records.{phase_at, synchronizer_at, arc_at}
use Rattle.image.specs.declared.header.Image.{Image}
use Rattle.image.specs.declared.records.Phase.{Phase}
use Rattle.image.specs.declared.records.Synchronizer.{Synchronizer}
use Rattle.image.specs.declared.records.Arc.{Arc}

-- the fields of an image, read off its bytes
abbrev pub image_in : List ℕ → Image
image_in bytes = image_of (header_of bytes)

abbrev pub phase_in : List ℕ → ℕ → Phase
phase_in bytes = phase_at bytes (image_in bytes).layout

abbrev pub synchronizer_in : List ℕ → ℕ → Synchronizer
synchronizer_in bytes = synchronizer_at bytes (image_in bytes).layout

abbrev pub arc_in : List ℕ → ℕ → Arc
arc_in bytes = arc_at bytes (image_in bytes).layout

pub record ValidPhase (tc : ℕ) (p : Phase) : Type 0 where
  pub active : p.active ≤ tc
  pub closing : p.closing ≤ tc

pub record ValidSynchronizer (tc k : ℕ) (s : Synchronizer) : Type 0 where
  pub phase : s.phase < k
  pub kind : s.kind ≤ 1
  pub setup : s.setup ≤ tc
  pub hold : s.hold ≤ tc
  pub least : s.least ≤ s.greatest
  pub greatest : s.greatest ≤ longest_delay

pub record ValidArc (l : ℕ) (a : Arc) : Type 0 where
  pub from : a.from < l
  pub to : a.to < l
  pub least : a.least ≤ a.greatest
  pub greatest : a.greatest ≤ longest_delay

-- strictly before, by "to", then by "from"
abbrev pub Before : Arc → Arc → Type 0
Before a b = (a.to < b.to) ⊎ ((a.to ≡ b.to) × (a.from < b.from))

pub record Valid (bytes : List ℕ) : Type 0 where
  pub long : header_bytes ≤ length bytes
  pub version : (header_of bytes).version ≡ 1
  pub some_cycle : 1 ≤ (image_in bytes).cycle
  pub cycle : (image_in bytes).cycle ≤ longest_cycle
  pub some_phase : 1 ≤ (image_in bytes).phases
  pub phases : (image_in bytes).phases ≤ most_phases
  pub synchronizers : (image_in bytes).synchronizers ≤ most_synchronizers
  pub arcs : (image_in bytes).arcs ≤ most_arcs
  pub phase_table : (image_in bytes).layout.phases ≡ header_bytes
  pub synchronizer_table : (image_in bytes).layout.synchronizers ≡ header_bytes + phase_bytes * (image_in bytes).phases
  pub arc_table : (image_in bytes).layout.arcs ≡ header_bytes + phase_bytes * (image_in bytes).phases + synchronizer_bytes * (image_in bytes).synchronizers
  pub total : length bytes ≡ header_bytes + phase_bytes * (image_in bytes).phases + synchronizer_bytes * (image_in bytes).synchronizers + arc_bytes * (image_in bytes).arcs
  pub phase : (i : ℕ) → i < (image_in bytes).phases → ValidPhase (image_in bytes).cycle (phase_in bytes i)
  pub rising : (i : ℕ) → suc i < (image_in bytes).phases → (phase_in bytes i).closing ≤ (phase_in bytes (suc i)).closing
  pub last : (i : ℕ) → suc i ≡ (image_in bytes).phases → (phase_in bytes i).closing ≡ (image_in bytes).cycle
  pub synchronizer : (i : ℕ) → i < (image_in bytes).synchronizers →
      ValidSynchronizer (image_in bytes).cycle (image_in bytes).phases (synchronizer_in bytes i)
  pub arc : (i : ℕ) → i < (image_in bytes).arcs → ValidArc (image_in bytes).synchronizers (arc_in bytes i)
  pub ordered : (i : ℕ) → suc i < (image_in bytes).arcs → Before (arc_in bytes i) (arc_in bytes (suc i))
