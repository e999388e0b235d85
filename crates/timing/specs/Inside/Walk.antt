-- What the walks back over the arcs keep.
use Rattle.std.specs.Prelude.{◌≡◌, ℕ}
use Rattle.tables.specs.Inside.Net.{times_of}
use Rattle.tables.specs.Inside.Listing.{Listed}
use Rattle.timing.specs.declared.order.Walk.{Walk}

-- there are as many nodes as before, and what was listed still is
pub record Further (before after : Walk) : Type 0 where
  pub nodes : after.web.nodes ≡ before.web.nodes
  pub listed : (j : ℕ) → Listed (times_of before.list) before.count j → Listed (times_of after.list) after.count j
