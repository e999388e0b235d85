-- What is read of a record of an image is what the image's circuit says under its own names.
use mathlib.Core.Path.{◌≡◌, refl}
use mathlib.Core.List.{List}
use Rattle.std.specs.Prelude.{Ok}
use Prim.Native.Nat.{ℕ, ◌≤◌}
use native.Mathlib.Omega.{arith}
use Rattle.image.specs.Checks.{check_of}
use Rattle.image.specs.Valid.{Valid, image_in}
use Rattle.image.specs.Records.{phase_at, synchronizer_at, arc_at}
use Rattle.image.specs.declared.header.Image.{Image}
use Rattle.image.specs.declared.records.Phase.{Phase}
use Rattle.image.specs.declared.records.Synchronizer.{Synchronizer}
use Rattle.image.specs.declared.records.Arc.{Arc}
use Rattle.image.proofs.Validity.{accepts, accepted_is, passed, valid}
use Rattle.circuit.specs.Circuit.{Circuit, circuit_of}
use Rattle.tables.specs.Inside.Sizes.{ARCS, NODES, PHASES}

pub record Counts (c : Circuit) (image : Image) : Type 0 where
  pub cycle : image.cycle ≡ c.cycle
  pub phases : image.phases ≡ c.phases
  pub synchronizers : image.synchronizers ≡ c.synchronizers
  pub arcs : image.arcs ≡ c.arcs

pub record OfPhase (c : Circuit) (p : ℕ) (r : Phase) : Type 0 where
  pub closing : r.closing ≡ c.closing p
  pub active : r.active ≡ c.active p

pub record OfSynchronizer (c : Circuit) (i : ℕ) (r : Synchronizer) : Type 0 where
  pub phase : r.phase ≡ c.phase i
  pub kind : r.kind ≡ c.kind i
  pub least : r.least ≡ c.least i
  pub greatest : r.greatest ≡ c.greatest i

pub record OfArc (c : Circuit) (a : ℕ) (r : Arc) : Type 0 where
  pub from : r.from ≡ c.from a
  pub to : r.to ≡ c.to a
  pub least : r.least ≡ c.shortest a
  pub greatest : r.greatest ≡ c.longest a

pub most_phases_lem : (bytes : List ℕ) → Valid bytes → (circuit_of bytes).phases ≤ PHASES
unfolding circuit_of
most_phases_lem bytes v = v.phases

-- of the counts of an image that the bytes hold, and of its records
module _ (bytes : List ℕ) (image : Image) (same : image ≡ image_in bytes) where
  pub counts : Counts (circuit_of bytes) image
  unfolding circuit_of
  counts = rw same (record { cycle = refl; phases = refl; synchronizers = refl; arcs = refl })

  pub of_phase : {p : ℕ} {r : Phase} → r ≡ phase_at bytes image.layout p → OfPhase (circuit_of bytes) p r
  unfolding circuit_of
  of_phase h = rw (h, same) (record { closing = refl; active = refl })

  pub of_synchronizer : {i : ℕ} {r : Synchronizer} → r ≡ synchronizer_at bytes image.layout i → OfSynchronizer (circuit_of bytes) i r
  unfolding circuit_of
  of_synchronizer h = rw (h, same) (record { phase = refl; kind = refl; least = refl; greatest = refl })

  pub of_arc : {a : ℕ} {r : Arc} → r ≡ arc_at bytes image.layout a → OfArc (circuit_of bytes) a r
  unfolding circuit_of
  of_arc h = rw (h, same) (record { from = refl; to = refl; least = refl; greatest = refl })

-- an image that the check gave: it is the one that the bytes hold, which are good
pub record Accepted (bytes : List ℕ) (image : Image) : Type 0 where
  pub same : image ≡ image_in bytes
  pub good : check_of bytes ≡ Ok (image_in bytes)
  pub valid : Valid bytes
  pub counts : Counts (circuit_of bytes) image

pub accepted : {bytes : List ℕ} {image : Image} → check_of bytes ≡ Ok image → Accepted bytes image
accepted {bytes} {image} h =
    let same = accepted_is bytes image h in
    let good = valid bytes (passed bytes image h) in
    record { same = same; good = (accepts bytes).0 good; valid = good; counts = counts bytes image same }

-- the tables have room for its records
pub fits : (bytes : List ℕ) {image : Image} → check_of bytes ≡ Ok image → (image.phases ≤ PHASES) × (image.synchronizers ≤ NODES) × (image.arcs ≤ ARCS)
fits bytes h = let a = accepted h in let v = a.valid in rw a.same (omega arith, omega arith, omega arith)
