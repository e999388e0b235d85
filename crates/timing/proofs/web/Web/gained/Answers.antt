-- `gained` meets its contract: the leads of the ring's two parts, and a cycle for each arc.
use mathlib.Core.Path.{◌∙◌}
use Prim.Native.Nat.{◌-◌}
use mir.Syntax.{w64}
use mir.ValLaws.{to_z-of_z}
use Rattle.tables.specs.Inside.Net.{times_of}
use Rattle.timing.specs.Inside.Ring.{route_back}
use Rattle.timing.proofs.WalkBackArcs.{leads_join}
use Rattle.timing.proofs.web.Web.gained.Goals as goal

pub returns : goal.returns
returns c =
    let s = c.args.stretch.now in
    let back = route_back (times_of c.args.walk.now.trail) in
    let join = leads_join (times_of c.args.self.now.lead.now) (back s.low (s.low - s.first)) (back s.second (s.second - s.low)) in
    to_z-of_z w64 c.minus.result (record { sfits = c.minus.type_inv })
    ∙ rw (join, ← c.total.ensures.value, ← c.total-2.ensures.value, ← c.from.ensures) c.minus.ensures
