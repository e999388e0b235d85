-- What a check of an image answers: the rules in their order (docs/RULES.md), the first that applies being given.
use Rattle.std.specs.Prelude.{ℕ, Bool, true, false, not, List, ltb, eqb, length, Result, Ok, Err}
use Rattle.image.specs.Header.{header_bytes, header_of, image_of}
use Rattle.image.specs.Rules.{bad_cycle, bad_counts, bad_layout, breaks_of, lowest_of}
use Rattle.image.specs.declared.header.Image.{Image}
use Rattle.image.specs.Refusal.{refusal}
use Rattle.image.specs.declared.refusal.Rule.{Rule}
use Rattle.image.specs.declared.refusal.Rule.TheVariants as by
use Rattle.image.specs.declared.refusal.Refusal.{Refusal}

-- where the test holds, refused by its rule and the record at fault (0 for a rule about the whole image)
abbrev pub refuse : Bool → Rule → ℕ → Result Image Refusal → Result Image Refusal
refuse true rule culprit rest = Err (refusal rule culprit)
refuse false rule culprit rest = rest

-- a rule about a table of n records: refused at the lowest record at fault
abbrev pub refuse_at : (ℕ → Bool) → ℕ → Rule → Result Image Refusal → Result Image Refusal
refuse_at bad n rule rest = refuse (ltb (lowest_of bad n) n) rule (lowest_of bad n) rest

-- rules 6 to 9
unfoldable pub records_of : List ℕ → Image → Result Image Refusal
records_of bytes image =
    refuse_at (breaks_of bytes image by.Phases) image.phases by.Phases
    (refuse_at (breaks_of bytes image by.Synchronizers) image.synchronizers by.Synchronizers
    (refuse_at (breaks_of bytes image by.Arcs) image.arcs by.Arcs
    (refuse_at (breaks_of bytes image by.Order) image.arcs by.Order
    (Ok image))))

unfoldable pub check_of : List ℕ → Result Image Refusal
check_of bytes =
    let header = header_of bytes in
    refuse (ltb (length bytes) header_bytes) by.Length 0
    (refuse (not (eqb header.version 1)) by.Version 0
    (refuse (bad_cycle header) by.Cycle 0
    (refuse (bad_counts header) by.Counts 0
    (refuse (bad_layout header (length bytes)) by.Layout 0
    (records_of bytes (image_of header))))))
