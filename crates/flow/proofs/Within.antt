-- Where g lies within f on the side r, whatever g makes of times lies inside what f makes of their bounds, on g's late side
-- and on its early one: the arc that gives g's arrival is covered by an arc of f, and f's arrival bounds what that brings.
use mathlib.Core.Path.{◌≡◌, refl, ◌∙◌}
use mathlib.Core.Bool.{Bool, true, false}
use Prim.Native.Nat.{ℕ, ◌<◌}
use native.Mathlib.Omega.{arith}
use lib.IntN.{ℤ}
use Rattle.ticks.proofs.Order.{≤ℤ_trans}
use Rattle.ticks.proofs.Extremes.{max_right}
use Rattle.flow.specs.Flow.{Flow, Good, Side, late, early, When, none, at, brings, arrival, departs, next}
use Rattle.flow.specs.Bounds.{Inside, Unentered, Nested, neither, nested}
use Rattle.flow.specs.Inside.Within.{Bounded, Covers, Kept, Keeps, Within}
use Rattle.flow.proofs.Sides.{inside_refl, inside_trans, inside_plus, inside_max}
use Rattle.flow.proofs.Arrival.{Found, nothing, found, find, arrival_none}

-- two arrivals as they meet at a node: nested, or g has lost all arcs into it
data Compared : Side → When → When → Type 0 where
  alike : {r : Side} {w v : When} → Nested r w v → Compared r w v
  lost : {u : ℤ} → Compared late none (at u)

departs_inside : (b : Bool) (l k : ℤ) {r : Side} {w v : When} → Compared r w v → Inside r l k → Inside r (departs b l w) (departs b k v)
departs_inside false l k m h = h
departs_inside true l k (alike neither) h = h
departs_inside true l k {r} (alike (nested o)) h = inside_max r _ _ _ _ o h
departs_inside true l k (lost {u}) h = ≤ℤ_trans h (max_right u k)

nest : {r : Side} {w v : When} → Compared r w v → (w ≡ none → v ≡ none) → Nested r w v
nest (alike n) e = n
nest lost e = let k = e refl in let z : ◌≡◌ {A = ℕ} 0 1 = cc in let y : ⊥ = omega arith in absurd y

-- an arc b of f enters a node that no arc of g enters
loses : (r : Side) (g f : Flow) → Keeps r g f → (b : ℕ) → b < f.arcs → Unentered g (f.target b) g.arcs →
    (u : ℤ) → Compared r none (at u)
loses late g f keeps b l k u = lost
loses early g f keeps b l k u = let a = keeps b l in absurd (k a.0 a.1 a.2)

module _ (r s : Side) (g f : Flow) (good : Good g) (w : Within r g f) (D E : ℕ → ℤ) (h : Bounded r g D E) where
  carry : (a : ℕ) → a < g.arcs → (c : (b : ℕ) × Covers r g a f b) → Inside r (brings g D a) (brings f E c.0)
  carry a l c = rw c.1.source (inside_plus r _ _ _ _ (h (g.source a) (good.leaves a l)) c.1.weight)

  meet : (i : ℕ) → Compared r (arrival s g D i) (arrival r f E i)
  meet i = go (find s g D i) (find r f E i)
    where
      go : {w v : When} → Found s g D i g.arcs w → Found r f E i f.arcs v → Compared r w v
      go (nothing k) (nothing m) = alike neither
      go (nothing k) (found {t = u} b m) = loses r g f w.keeps b m.here (rw m.enters k) u
      go (found a k) (nothing m) = let c = w.cover a k.here in absurd (m c.0 c.1.here (c.1.target ∙ k.enters))
      go (found a k) (found b m) = let c = w.cover a k.here in
          let x = rw k.gives at (carry a k.here c) in
          alike (nested (inside_trans r _ _ _ x (m.bounds c.0 c.1.here (c.1.target ∙ k.enters))))

  pub next_inside : Bounded r g (next s g D) (next r f E)
  unfolding next
  next_inside i l = rw (w.latch i l) (departs_inside (f.latch i) _ _ (meet i) (w.launch i l))

  pub arrival_inside : Kept g f → (i : ℕ) → Nested r (arrival s g D i) (arrival r f E i)
  arrival_inside kept i = nest (meet i) still
    where
      still : arrival s g D i ≡ none → arrival r f E i ≡ none
      still e = (arrival_none r f E i).1 (λ b l k. let a = kept b l in (arrival_none s g D i).0 e a.0 a.1 (a.2 ∙ k))

-- a flow lies within itself, on both sides
pub kept_self : (f : Flow) → Kept f f
kept_self f b l = (b, l, refl)

pub within_self : (r : Side) (f : Flow) → Within r f f
within_self r f = record {
  nodes = refl;
  latch = λ i l. refl;
  launch = λ i l. inside_refl r _;
  cover = λ a l. (a, record { here = l; source = refl; target = refl; weight = inside_refl r _ });
  keeps = keeps r;
}
  where
    keeps : (r : Side) → Keeps r f f
    keeps late = tt
    keeps early = kept_self f
