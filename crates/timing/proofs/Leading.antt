-- What is loaded of an arc, from what was read of it, from what was noted of its two ends, and from the shift between their phases.
use mathlib.Core.Path.{◌≡◌}
use mathlib.Core.List.{List}
use Prim.Native.Nat.{ℕ, ◌+◌, ◌-◌, ◌≤◌, ◌<◌}
use native.Mathlib.Omega.{arith}
use lib.IntN.{pos}
use lib.ListN.{get_or}
use Rattle.ticks.proofs.Ints.{ints, diff, apart}
use Rattle.image.specs.Valid.{Valid, image_in}
use Rattle.image.specs.Records.{arc_at}
use Rattle.image.specs.declared.header.Image.{Image}
use Rattle.image.specs.declared.records.Arc.{Arc}
use Rattle.flow.specs.Flow.{Side, late, early}
use Rattle.circuit.specs.Circuit.{Circuit, circuit_of}
use Rattle.circuit.specs.Clock.{across, delay, weight}
use Rattle.circuit.proofs.Sound.{sound}
use Rattle.circuit.proofs.Shifts.{tick_below}
use Rattle.circuit.proofs.Ranges.{across_range}
use Rattle.timing.specs.declared.load.Notes.{Notes}
use Rattle.timing.specs.Inside.Loaded.{Noted, shift_of, LeadOf, LoadedArc}
use Rattle.timing.proofs.RecordsRead.{OfArc, counts, of_arc, most_phases_lem}
use Rattle.timing.proofs.Shifts.{shifted}
use Rattle.tables.specs.Inside.Sizes.{NODES, PHASES}

-- a delay with the cycle added and the shift x taken away
leads : (s : Side) (c : Circuit) (a d x : ℕ) → d ≡ delay s c a → d ≤ 2000000000 → c.cycle ≤ 1000000000 → pos x ≡ across c a → x ≤ c.cycle →
    LeadOf s c a (d + (c.cycle - x))
unfolding weight
leads s c a d x e h k w q = record {
  weight = rw (← w, ← e) (omega (ints, apart (d + (c.cycle - x)) c.cycle, diff (pos d) (pos x)));
  small = omega arith;
}

-- what is known once an arc is read: it leads from p to q, p closes at tick x, and no sum is large
pub record Ends (cycle : ℕ) (r : Arc) (p q x low high : ℕ) : Type 0 where
  pub from : r.from < NODES
  pub to : r.to < NODES
  pub phases : (p < PHASES) × (q < PHASES)
  pub left : x ≤ cycle
  pub late : high + r.greatest ≤ 2000000000
  pub early : low + r.least ≤ 2000000000

module _ {bytes : List ℕ} (v : Valid bytes) {image : Image} (same : image ≡ image_in bytes) {a : ℕ} (l : a < image.arcs)
    {r : Arc} (of : r ≡ arc_at bytes image.layout a) {notes : Notes} (n : Noted (circuit_of bytes) notes) where
  here : a < (circuit_of bytes).arcs
  here = omega (arith, (counts bytes image same).arcs)

  arc_is : OfArc (circuit_of bytes) a r
  arc_is = of_arc bytes image same of

  leaves : (circuit_of bytes).from a < (circuit_of bytes).synchronizers
  leaves = (sound bytes v).from a here

  enters : (circuit_of bytes).to a < (circuit_of bytes).synchronizers
  enters = (sound bytes v).to a here

  left_is : get_or notes.phase r.from 0 ≡ (circuit_of bytes).phase ((circuit_of bytes).from a)
  left_is = rw arc_is.from (n.phase.holds ((circuit_of bytes).from a) leaves)

  entered_is : get_or notes.phase r.to 0 ≡ (circuit_of bytes).phase ((circuit_of bytes).to a)
  entered_is = rw arc_is.to (n.phase.holds ((circuit_of bytes).to a) enters)

  least_is : get_or notes.least r.from 0 ≡ (circuit_of bytes).least ((circuit_of bytes).from a)
  least_is = rw arc_is.from (n.least.holds ((circuit_of bytes).from a) leaves)

  greatest_is : get_or notes.greatest r.from 0 ≡ (circuit_of bytes).greatest ((circuit_of bytes).from a)
  greatest_is = rw arc_is.from (n.greatest.holds ((circuit_of bytes).from a) leaves)

  pub ends_known : Ends image.cycle r (get_or notes.phase r.from 0) (get_or notes.phase r.to 0) (get_or notes.ticks (get_or notes.phase r.from 0) 0) (get_or notes.least r.from 0)
      (get_or notes.greatest r.from 0)
  ends_known =
      let c = sound bytes v in
      let p = c.phase _ leaves in
      let q = c.phase _ enters in
      let g = c.greatest _ leaves in
      let m = c.longest a here in record {
        from = omega (arith, arc_is.from, leaves, c.synchronizers);
        to = omega (arith, arc_is.to, enters, c.synchronizers);
        phases = (omega (arith, left_is, p, most_phases_lem bytes v), omega (arith, entered_is, q, most_phases_lem bytes v));
        left = rw (left_is, n.tick.holds _ p, (counts bytes image same).cycle) (omega (arith, tick_below (circuit_of bytes) c _ p));
        late = omega (arith, greatest_is, arc_is.greatest);
        early = omega (arith, least_is, arc_is.least, c.least _ leaves, c.shortest a here);
      }

  pub target_known : r.to ≡ (circuit_of bytes).to a
  target_known = arc_is.to

  -- x is worked out from the ticks at which the two phases close
  module _ {x : ℕ} (worked : x ≡ shift_of image.cycle (get_or notes.ticks (get_or notes.phase r.from 0) 0) (get_or notes.ticks (get_or notes.phase r.to 0) 0)) where
    shift_is : pos x ≡ across (circuit_of bytes) a
    shift_is =
        let c = sound bytes v in
        let p = c.phase _ leaves in
        let q = c.phase _ enters in
        rw (worked, left_is, entered_is, n.tick.holds _ p, n.tick.holds _ q, (counts bytes image same).cycle) (shifted (circuit_of bytes) c _ _ p q)

    pub back_known : (x ≤ image.cycle) × (image.cycle ≤ 1000000000)
    back_known =
        let n = (counts bytes image same).cycle in
        (omega (ints, shift_is, (across_range (circuit_of bytes) (sound bytes v) a here).high), omega (arith, (sound bytes v).cycle))

    pub led_known : LoadedArc (circuit_of bytes) a r.from (get_or notes.greatest r.from 0 + r.greatest + (image.cycle - x))
        (get_or notes.least r.from 0 + r.least + (image.cycle - x))
    unfolding delay
    led_known =
        let n = (counts bytes image same).cycle in
        let c = (sound bytes v).cycle in
        let b = rw n at back_known.0 in
        rw n (record {
          source = arc_is.from;
          late = leads late (circuit_of bytes) a (get_or notes.greatest r.from 0 + r.greatest) x (rw (greatest_is, arc_is.greatest)) ends_known.late c shift_is b;
          early = leads early (circuit_of bytes) a (get_or notes.least r.from 0 + r.least) x (rw (least_is, arc_is.least)) ends_known.early c shift_is b;
        })
