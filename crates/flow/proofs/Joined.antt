-- Walks joined end to end: their gains add up, and their sources come one after the other.
use mathlib.Core.Path.{◌≡◌, refl, ap}
use mathlib.Core.List.{List, [], ◌∷◌, ◌++◌}
use mathlib.Core.Logic.{◌≢◌}
use Prim.Native.Nat.{ℕ}
use lib.IntN.{pos, ◌+ℤ◌}
use Rattle.ticks.proofs.Ints.{ints, sum}
use Rattle.flow.specs.Flow.{Flow}
use Rattle.flow.specs.Walk.{Walk, gain, sources, Every, Distinct}

pub every_join : (P : ℕ → Type 0) (xs ys : List ℕ) → Every P xs → Every P ys → Every P (xs ++ ys)
every_join P [] ys h k = k
every_join P (x ∷ xs) ys h k = (h.0, every_join P xs ys h.1 k)

pub distinct_join : (xs ys : List ℕ) → Distinct xs → Distinct ys → Every (λ x. Every (λ y. x ≢ y) ys) xs → Distinct (xs ++ ys)
distinct_join [] ys h k a = k
distinct_join (x ∷ xs) ys h k a = (every_join (λ y. x ≢ y) xs ys h.0 a.0, distinct_join xs ys h.1 k a.1)

module _ (f : Flow) where
  pub sources_join : (p q : List ℕ) → sources f (p ++ q) ≡ sources f p ++ sources f q
  sources_join [] q = refl
  sources_join (a ∷ p) q = ap (λ (l : List ℕ). f.source a ∷ l) (sources_join p q)

  pub walk_join : (p q : List ℕ) (i j k : ℕ) → Walk f i p j → Walk f j q k → Walk f i (p ++ q) k
  walk_join [] q i j k h w = rw h w
  walk_join (a ∷ p) q i j k h w = (h.0, walk_join p q (f.target a) j k h.1 w)

  pub gain_join : (p q : List ℕ) → gain f (p ++ q) ≡ (gain f p +ℤ gain f q)
  gain_join [] q = omega (ints, sum (pos 0) (gain f q))
  gain_join (a ∷ p) q =
      let h = gain_join p q in
      let w = f.weight a in
      let x = gain f p in
      let y = gain f q in
      omega (ints, h, sum w (gain f (p ++ q)), sum x y, sum w x, sum (w +ℤ x) y)
