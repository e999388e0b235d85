-- One more record stored: what holds of the tables' first n places holds of the first n + 1.
use mathlib.Core.Path.{◌≡◌, ap, ◌∙◌}
use mathlib.Core.List.{List}
use Prim.Native.Nat.{ℕ, ◌+◌, ◌<◌}
use native.Mathlib.Omega.{arith}
use lib.ListN.{length, get_or, set, length-set}
use lib.Seq.{get_or-set_same, get_or-set_other}
use borrow.Author.Count.{below_more}
use Rattle.circuit.specs.Circuit.{Circuit}
use Rattle.tables.specs.Inside.Filled.{Filled}
use Rattle.tables.proofs.Filled.{fill_more}
use Rattle.timing.specs.Inside.Loaded.{LoadedArc, ArcsUpTo}
use Rattle.tables.specs.Inside.Sizes.{ARCS}

pub kept : (l : List ℕ) (n v j : ℕ) → j < n → get_or (set l n v) j 0 ≡ get_or l j 0
kept l n v j h = get_or-set_other l n j v 0 (λ e. omega arith)

pub stored : (l : List ℕ) (n v : ℕ) → n < length l → get_or (set l n v) n 0 ≡ v
stored l n v h = get_or-set_same l n v 0 h

pub sized : (l : List ℕ) (n v m : ℕ) → length l ≡ m → length (set l n v) ≡ m
sized l n v m e = length-set l n v ∙ e

pub arcs_more : {c : Circuit} {n : ℕ} {sources lates earlies : List ℕ} {x y z : ℕ} → ArcsUpTo n c sources lates earlies → n < ARCS →
    LoadedArc c n x y z →
    ArcsUpTo (n + 1) c (set sources n x) (set lates n y) (set earlies n z)
arcs_more {n = n} {sources} {lates} {earlies} {x} {y} {z} t l new = record {
  long = (sized sources n x ARCS t.long.0, sized lates n y ARCS t.long.1, sized earlies n z ARCS t.long.2);
  each = below_more _ n
      (λ a h. rw (kept sources n x a h, kept lates n y a h, kept earlies n z a h) (t.each a h))
      (rw (stored sources n x (omega (arith, t.long.0)), stored lates n y (omega (arith, t.long.1)), stored earlies n z (omega (arith, t.long.2))) new);
}

pub filled_more : {size : ℕ} {f : ℕ → ℕ} {xs : List ℕ} {i x : ℕ} → Filled size f xs i → i < size → x ≡ f i → Filled size f (set xs i x) (i + 1)
filled_more {xs = xs} {i} t l new = fill_more l (ap (set xs i) new) t
