-- `enlist`: who carries the mark is listed; who does not is put behind the list, which has room for all.
use mathlib.Core.Path.{◌≡◌}
use mathlib.Core.Bool.{true, false}
use Prim.Native.Nat.{◌<◌}
use native.Mathlib.Omega.{arith}
use lib.ListN.{get_or}
use Rattle.tables.proofs.Orders.{enlist_room, enlist_here, enlist_new, listed_found}
use Rattle.tables.specs.Inside.Sizes.{NODES}
use Rattle.timing.proofs.order.Walk.enlist.Goals as goal
use Rattle.timing.proofs.order.Walk.enlist.Goals.{Then-not-self-at}

-- the synchronizer is not marked yet, so the list has room for it
new : (c : Then-not-self-at) → get_or c.args.self.now.listed c.args.i false ≡ true → ⊥
new c e = let h = c.if-not-self-at.true in let f = rw c.from-at.ensures at h in cc

room : (c : Then-not-self-at) → c.args.self.now.count < NODES
room c =
    let w = c.args.self.now in
    omega (arith, w.web.shaped.nodes, enlist_room _ c.requires w.web.shaped.nodes w.enlisted (new c))

pub offset_bounds-self-self : goal.offset_bounds-self-self
offset_bounds-self-self c = record { fits = omega (arith, room (goal.at.offset_bounds-self-self c).Then-not-self-at) }

pub bounds-self-self : goal.bounds-self-self
bounds-self-self c = room (goal.at.bounds-self-self c).Then-not-self-at

pub overflow_add-self : goal.overflow_add-self
overflow_add-self c = record { fits = omega (arith, room (goal.at.overflow_add-self c).Then-not-self-at) }

pub invariant_of-self : goal.invariant_of-self
invariant_of-self c =
    let w = c.args.self.now in
    rw c.from-at.ensures (record {
      stacked = w.stacked;
      enlisted = enlist_new c.args.i c.requires w.web.shaped.nodes w.enlisted (new (goal.at.invariant_of-self c).Then-not-self-at);
    })

pub returns-then-not-self-at-clause-listed : goal.returns-then-not-self-at-clause-listed
returns-then-not-self-at-clause-listed c =
    let w = c.args.self.now in
    enlist_here c.args.i c.requires w.web.shaped.nodes w.enlisted (new (goal.at.returns-then-not-self-at-clause-listed c).Then-not-self-at)

pub returns-else-not-self-at-clause-listed : goal.returns-else-not-self-at-clause-listed
returns-else-not-self-at-clause-listed c = listed_found (c.args.self.now.enlisted.listed _ (rw c.from-at.ensures at c.if-not-self-at.false))
