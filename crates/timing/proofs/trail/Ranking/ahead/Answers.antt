-- `ahead` compares two arcs: by what they bring, then by their sources' ranks.
use mathlib.Core.Path.{◌≡◌, refl}
use mathlib.Core.Bool.{Bool, true, false}
use mathlib.Core.Logic.{inl, inr}
use Prim.Native.Nat.{ℕ, ◌<◌}
use native.Mathlib.Omega.{arith}
use lib.Dec.{ltb}
use borrow.Author.Tests.{lt-ltb, ltb-true, ltb-false, ne_eqb}
use Rattle.tables.specs.Inside.Trail.{Tells, is, not}
use Rattle.timing.proofs.trail.Ranking.ahead.Goals as goal

tells_less : {P : Type 0} (a b : ℕ) → (a < b → P) → (P → a < b) → Tells P (ltb a b)
tells_less {P} a b f g = go (ltb a b) refl
  where
    go : (t : Bool) → ltb a b ≡ t → Tells P t
    go true e = is (f (ltb-true a b e))
    go false e = not (λ p. let h = ltb-false a b e in let k = g p in omega arith)

pub returns-then-y-x : goal.returns-then-y-x
returns-then-y-x c = rw (lt-ltb _ _ c.if-y-x.true) (is (inl (rw (← c.brings-x.ensures, ← c.brings-y.ensures) c.if-y-x.true)))

pub returns-then-x-y : goal.returns-then-x-y
returns-then-x-y c =
    tells_less _ _ (λ l. inr (rw (← c.brings-x.ensures, ← c.brings-y.ensures) c.if-x-y.true, rw (← c.rank.ensures, ← c.rank-then-x-y.ensures) l))
    (λ h. elim h [
      | inl k ↦ (let e = rw (← c.brings-x.ensures, ← c.brings-y.ensures) at k in omega (arith, e, c.if-y-x.false))
      | inr k ↦ rw (← c.rank.ensures, ← c.rank-then-x-y.ensures) at k.1
    ])

pub returns-else-x-y : goal.returns-else-x-y
returns-else-x-y c =
    rw (ne_eqb _ _ c.if-x-y.false) (not λ h. elim h [
      | inl k ↦ (let e = rw (← c.brings-x.ensures, ← c.brings-y.ensures) at k in omega (arith, e, c.if-y-x.false))
      | inr k ↦ (let e = rw (← c.brings-x.ensures, ← c.brings-y.ensures) at k.0 in c.if-x-y.false e)
    ])
