-- Rules 3 to 9 of docs/RULES.md, each as the test of what the rule says. A test of a table speaks of one record.
use Rattle.std.specs.Prelude.{ℕ, zero, suc, ◌+◌, ◌-◌, Bool, false, ◌||◌, ◌&&◌, not, cond, if◌then◌else◌, List, ltb, leb, eqb, Option, Some, None}
use Rattle.image.specs.Header.{offset_of, most_phases, most_synchronizers, most_arcs, longest_cycle, longest_delay}
use Rattle.image.specs.Records.{phase_at, synchronizer_at, arc_at}
use Rattle.image.specs.declared.header.Header.{Header}
use Rattle.image.specs.declared.header.Image.{Image}
use Rattle.image.specs.declared.header.Part.TheVariants as part
use Rattle.image.specs.declared.records.Phase.{Phase}
use Rattle.image.specs.declared.records.Synchronizer.{Synchronizer}
use Rattle.image.specs.declared.records.Arc.{Arc}
use Rattle.image.specs.declared.refusal.Rule.{Rule}
use Rattle.image.specs.declared.refusal.Rule.TheVariants.{Phases, Synchronizers, Arcs, Order}

-- 3: Tc outside its limits
abbrev pub bad_cycle : Header → Bool
bad_cycle header = ltb header.cycle 1 || ltb longest_cycle header.cycle

-- 4: k, l or m outside its limits
abbrev pub bad_counts : Header → Bool
bad_counts header =
    ltb header.phases 1
    || ltb most_phases header.phases
    || ltb most_synchronizers header.synchronizers
    || ltb most_arcs header.arcs

-- 5: an offset or the total length differs from the layout
abbrev pub bad_layout : Header → ℕ → Bool
bad_layout header length =
    let k = header.phases in
    let l = header.synchronizers in
    let m = header.arcs in
    not (eqb header.phase_table (offset_of part.Phases k l m))
    || not (eqb header.synchronizer_table (offset_of part.Synchronizers k l m))
    || not (eqb header.arc_table (offset_of part.Arcs k l m))
    || not (eqb length (offset_of part.End k l m))

-- 6: T or e above Tc, or e below the phase before, or last with e not Tc
abbrev pub phase_fails : Image → ℕ → Phase → Phase → Bool
phase_fails image i phase earlier =
    let tc = image.cycle in
    ltb tc phase.active
    || ltb tc phase.closing
    || (ltb 0 i && ltb phase.closing earlier.closing)
    || (eqb (i + 1) image.phases && not (eqb phase.closing tc))

unfoldable pub bad_phase : List ℕ → Image → ℕ → Bool
bad_phase bytes image i = phase_fails image i (phase_at bytes image.layout i) (phase_at bytes image.layout (i - 1))

-- 7: phase not below k, kind above 1, S or H above Tc, least delay above greatest, or greatest above the limit
abbrev pub synchronizer_fails : Image → Synchronizer → Bool
synchronizer_fails image s =
    let tc = image.cycle in
    leb image.phases s.phase
    || ltb 1 s.kind
    || ltb tc s.setup
    || ltb tc s.hold
    || ltb s.greatest s.least
    || ltb longest_delay s.greatest

unfoldable pub bad_synchronizer : List ℕ → Image → ℕ → Bool
bad_synchronizer bytes image i = synchronizer_fails image (synchronizer_at bytes image.layout i)

-- 8: an end not below l, least delay above greatest, or greatest above the limit
abbrev pub arc_fails : ℕ → Arc → Bool
arc_fails l a =
    leb l a.from
    || leb l a.to
    || ltb a.greatest a.least
    || ltb longest_delay a.greatest

unfoldable pub bad_arc : List ℕ → Image → ℕ → Bool
bad_arc bytes image i = arc_fails image.synchronizers (arc_at bytes image.layout i)

-- one arc strictly before another, by "to", then by "from"
abbrev pub precedes : Arc → Arc → Bool
precedes a b = ltb a.to b.to || (eqb a.to b.to && ltb a.from b.from)

-- 9: not strictly after the arc before
unfoldable pub bad_order : List ℕ → Image → ℕ → Bool
bad_order bytes image i =
    ltb 0 i && not (precedes (arc_at bytes image.layout (i - 1)) (arc_at bytes image.layout i))

-- the test of a rule about a table; no record breaks another
abbrev pub breaks_of : List ℕ → Image → Rule → ℕ → Bool
breaks_of bytes image Phases = bad_phase bytes image
breaks_of bytes image Synchronizers = bad_synchronizer bytes image
breaks_of bytes image Arcs = bad_arc bytes image
breaks_of bytes image Order = bad_order bytes image
breaks_of bytes image _ = λ i. false

-- the lowest number below n that fails a test, or n where none does
unfoldable pub lowest_of : (ℕ → Bool) → ℕ → ℕ
lowest_of bad zero = zero
lowest_of bad (suc n) = cond (bad zero) zero (suc (lowest_of (λ i. bad (suc i)) n))

-- the same number, where there is one
abbrev pub lowest_found : (ℕ → Bool) → ℕ → Option ℕ
lowest_found bad n = if ltb (lowest_of bad n) n then Some (lowest_of bad n) else None
