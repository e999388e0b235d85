-- What stepping back over the tables leaves.
use Rattle.std.specs.Prelude.{◌≡◌, List, ℕ, suc, set}
use Rattle.tables.specs.Inside.Net.{Arcs}
use Rattle.tables.specs.Inside.Trail.{Via, Traced}

-- one step back, from i to s over its arc, which is stored where the rank of s says
pub record Stepped (g : Arcs) (first D R : ℕ → ℕ) (i s : ℕ) (before after : List ℕ) : Type 0 where
  pub arc : ℕ
  pub via : Via g first D R i arc
  pub from : s ≡ g.source arc
  pub written : after ≡ set before (R s) arc

-- the path to i is written: its last arc, and a trail of as many arcs as the rank of that arc's source
pub record PathWritten (g : Arcs) (first D R : ℕ → ℕ) (i s count : ℕ) (before after : List ℕ) : Type 0 where
  pub source : ℕ
  pub middle : List ℕ
  pub stepped : Stepped g first D R i source before middle
  pub traced : Traced g first D R s (R source) source middle after
  pub counted : count ≡ suc (R source)
