-- What is loaded of a synchronizer, from what was read of it and of its phase.
use mathlib.Core.Bool.{true, false}
use mathlib.Core.Path.{◌≡◌, ap, ◌∙◌}
use mathlib.Core.List.{List}
use Prim.Native.Nat.{ℕ, ◌+◌, ◌-◌, ◌<◌}
use lib.IntN.{pos}
use borrow.Author.Tests.{eq-eqb, ne_eqb}
use Rattle.ticks.specs.Inside.Raised.{RAISE}
use Rattle.ticks.proofs.Ints.{ints, diff}
use Rattle.ticks.proofs.Raised.{span}
use Rattle.image.specs.Valid.{Valid, image_in}
use Rattle.image.specs.Records.{synchronizer_at}
use Rattle.image.specs.declared.header.Image.{Image}
use Rattle.image.specs.declared.records.Synchronizer.{Synchronizer}
use Rattle.circuit.specs.Circuit.{circuit_of}
use Rattle.circuit.specs.Clock.{is_latch, opening, launch}
use Rattle.circuit.proofs.Sound.{sound}
use Rattle.timing.specs.Inside.Loaded.{Launched}
use Rattle.timing.proofs.RecordsRead.{counts, of_synchronizer, most_phases_lem}
use Rattle.tables.specs.Inside.Sizes.{PHASES}

module _ {bytes : List ℕ} (v : Valid bytes) {image : Image} (same : image ≡ image_in bytes) {i : ℕ} (l : i < image.synchronizers)
    {r : Synchronizer} (of : r ≡ synchronizer_at bytes image.layout i) where
  here : i < (circuit_of bytes).synchronizers
  here = omega (ints, (counts bytes image same).synchronizers)

  -- its phase is one of the circuit's, of which there are no more than 16
  pub phase_known : (r.phase < (circuit_of bytes).phases) × (r.phase < PHASES)
  phase_known =
      let k = of_synchronizer bytes image same of in
      let u = (sound bytes v).phase i here in
      (omega (ints, k.phase), omega (ints, k.phase, most_phases_lem bytes v))

  pub noted_known : (r.phase ≡ (circuit_of bytes).phase i) × (r.least ≡ (circuit_of bytes).least i) × (r.greatest ≡ (circuit_of bytes).greatest i)
  noted_known = let k = of_synchronizer bytes image same of in (k.phase, k.least, k.greatest)

  pub launched_latch : r.kind ≡ 0 → {x : ℕ} → x ≡ (circuit_of bytes).active r.phase →
      Launched (circuit_of bytes) i (RAISE + image.cycle - x) true
  unfolding is_latch opening launch
  launched_latch h {x} read =
      let c = circuit_of bytes in
      let n = counts bytes image same in
      let k = of_synchronizer bytes image same of in
      let p = read ∙ ap c.active k.phase in
      let u = (sound bytes v).active (c.phase i) ((sound bytes v).phase i here) in
      let e : c.kind i ≡ 0 = omega (ints, k.kind) in
      record {
        launch = rw (eq-eqb _ _ e) (omega (ints, n.cycle, span (RAISE + image.cycle - x), diff (pos c.cycle) (pos (c.active (c.phase i)))));
        latch = rw (eq-eqb _ _ e);
      }

  pub launched_flop : (r.kind ≡ 0 → ⊥) → Launched (circuit_of bytes) i (RAISE + image.cycle) false
  unfolding is_latch launch
  launched_flop h =
      let c = circuit_of bytes in
      let n = counts bytes image same in
      let k = of_synchronizer bytes image same of in
      let e : c.kind i ≡ 0 → ⊥ = λ z. h (k.kind ∙ z) in record {
        launch = rw (ne_eqb _ _ e) (omega (ints, n.cycle, span (RAISE + image.cycle)));
        latch = rw (ne_eqb _ _ e);
      }
