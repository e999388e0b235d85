-- Two neighbouring phases exchanged, told from the bytes of two images.
use Rattle.std.specs.Prelude.{◌≡◌, cond, List, ℕ, suc, ◌<◌, eqb, length}
use Rattle.image.specs.Header.{header_of}
use Rattle.image.specs.Valid.{image_in, phase_in, synchronizer_in, arc_in}
use Rattle.image.specs.declared.records.Synchronizer.{Synchronizer}

-- phase p and the one after it change places: the new number of phase q
unfoldable pub swapped : ℕ → ℕ → ℕ
swapped p q = cond (eqb q p) (suc p) (cond (eqb q (suc p)) p q)

-- a synchronizer on the same phase, by its new number
abbrev pub renumbered : ℕ → Synchronizer → Synchronizer
renumbered p s = record {
  phase = swapped p s.phase;
  kind = s.kind;
  setup = s.setup;
  hold = s.hold;
  least = s.least;
  greatest = s.greatest;
}

-- the second image is the first with the phases p and p + 1 exchanged, which close at the same time, and with the phases of the synchronizers
-- renumbered to suit. All else is equal
pub record Exchanged (p : ℕ) (first second : List ℕ) : Type 0 where
  -- version, Tc, counts and offsets, and how long the image is
  pub header : header_of second ≡ header_of first
  pub long : length second ≡ length first
  -- the two phases
  pub here : suc p < (image_in first).phases
  pub close : (phase_in first p).closing ≡ (phase_in first (suc p)).closing
  -- closing time and active length travel together
  pub phase : (q : ℕ) → q < (image_in first).phases → phase_in second (swapped p q) ≡ phase_in first q
  pub synchronizer : (i : ℕ) → i < (image_in first).synchronizers → synchronizer_in second i ≡ renumbered p (synchronizer_in first i)
  pub arc : (a : ℕ) → a < (image_in first).arcs → arc_in second a ≡ arc_in first a
