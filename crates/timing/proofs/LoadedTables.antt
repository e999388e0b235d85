-- The loaded tables hold the circuit's flows, late and early, and stay within their bounds.
use mathlib.Core.Path.{◌≡◌, ap, ◌∙◌}
use mathlib.Core.Bool.{Bool}
use mathlib.Core.List.{List}
use Prim.Native.Nat.{ℕ, ◌+◌, ◌<◌}
use native.Mathlib.Omega.{arith}
use lib.ListN.{get_or}
use Rattle.image.specs.Valid.{Valid}
use Rattle.image.specs.declared.header.Image.{Image}
use Rattle.ticks.specs.Inside.Raised.{RAISE}
use Rattle.ticks.proofs.Ints.{ints}
use Rattle.ticks.proofs.Raised.{span, le-lower, lower_raise}
use Rattle.flow.specs.Flow.{Side, late, early}
use Rattle.circuit.specs.Circuit.{Circuit, circuit_of}
use Rattle.circuit.specs.Clock.{flow}
use Rattle.circuit.proofs.Sound.{sound}
use Rattle.circuit.proofs.Ranges.{launch_range}
use Rattle.tables.specs.Inside.Net.{side_of, times_of, arcs_of, web_of, Shaped}
use Rattle.tables.specs.Inside.Models.{HoldsArcs}
use Rattle.tables.specs.Inside.Raise.{Room}
use Rattle.tables.specs.Inside.Sizes.{RAISES}
use Rattle.timing.specs.Inside.Loaded.{LeadOf, LoadedNodes, LoadedArcs, Loaded, leads_of}
use Rattle.timing.specs.Inside.Web.{side_in, arcs_in, MadeOf}
use Rattle.timing.specs.declared.web.Web.{Web}
use Rattle.timing.proofs.RecordsRead.{Accepted}

-- the leads of either side
leads_held : (s : Side) {c : Circuit} {sources lates earlies : List ℕ} → LoadedArcs c sources lates earlies → (a : ℕ) → a < c.arcs →
    LeadOf s c a (get_or (leads_of s lates earlies) a 0)
leads_held late t a l = (t.each a l).late
leads_held early t a l = (t.each a l).early

-- the tables of one side hold the circuit's flow of that side
pub record Held (s : Side) (c : Circuit) (launches : List ℕ) (w : Web) : Type 0 where
  pub side : side_in w ≡ s
  pub nodes : w.nodes ≡ c.synchronizers
  pub arcs : HoldsArcs (arcs_in w) (times_of w.first.now) (flow s c)
  pub launched : LoadedNodes c launches w.latch.now

module _ {bytes : List ℕ} {image : Image} (ok : Accepted bytes image)
    {sources lates earlies first launches : List ℕ} {latches : List Bool} (t : Loaded (circuit_of bytes) sources lates earlies first launches latches) where
  -- what the tables of one side are made of
  module _ (s : Side) where
    pub shape : Shaped (web_of (arcs_of sources (leads_of s lates earlies) image.cycle) first latches) image.synchronizers image.arcs
    shape =
        let c = sound bytes ok.valid in
        let n = ok.counts in
        rw (n.cycle, n.synchronizers, n.arcs) (record {
          nodes = c.synchronizers;
          count = c.arcs;
          sources = λ a l. rw (t.arcs.each a l).source (c.from a l);
          rises = t.firsts.into.rises;
          ends = t.firsts.into.within;
          cycle = omega (arith, c.cycle);
        })

    pub leads_small : (a : ℕ) → a < image.arcs → get_or (leads_of s lates earlies) a 0 < RAISE
    leads_small a l = (leads_held s t.arcs a (rw (← ok.counts.arcs) l)).small

  pub held : {is_late : Bool} {w : Web} → MadeOf is_late image sources (leads_of (side_of is_late) lates earlies) first latches w →
      Held (side_of is_late) (circuit_of bytes) launches w
  held {is_late} m = record {
    side = ap side_of m.late;
    nodes = m.nodes ∙ ok.counts.synchronizers;
    arcs = rw (m.source, m.lead, m.cycle, m.first, ok.counts.cycle) (record {
      source = λ a l. (t.arcs.each a l).source;
      weight = λ a l. (leads_held (side_of is_late) t.arcs a l).weight;
      small = λ a l. (leads_held (side_of is_late) t.arcs a l).small;
      cycle = omega (arith, (sound bytes ok.valid).cycle);
      into = t.firsts.into;
    });
    launched = rw m.latch t.nodes;
  }

-- launches lie between 0 and the cycle, raised
pub room : {bytes launches : List ℕ} → Valid bytes → {s : Side} {w : Web} → Held s (circuit_of bytes) launches w → Room w.nodes RAISES (times_of launches)
room {bytes} {launches} v h =
    let c = circuit_of bytes in
    let v' = sound bytes v in
    rw h.nodes (record {
      low = λ i l. le-lower RAISE (get_or launches i 0) (rw (h.launched.each i l).launch (omega (ints, span RAISE, (launch_range c v' i l).low)));
      high = λ i l.
          let k = le-lower (get_or launches i 0) (RAISE + 1000000000)
          (rw ((h.launched.each i l).launch, lower_raise 1000000000) (omega (ints, (launch_range c v' i l).high, v'.cycle))) in
          omega arith;
    })
