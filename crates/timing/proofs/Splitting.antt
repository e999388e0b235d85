-- Where the arcs into a synchronizer begin. Arcs are ordered by their targets, so one place splits those below i from the others.
use mathlib.Core.Path.{◌≡◌, ◌∙◌}
use mathlib.Core.List.{List}
use mathlib.Core.Logic.{⊎_elim}
use Prim.Native.Nat.{ℕ, ◌+◌, ◌≤◌, ◌<◌}
use native.Mathlib.Nat.{le_refl, eq-or-lt_of_le, lt_of_not-le}
use native.Mathlib.Decide.{dec_lt}
use native.Mathlib.Omega.{arith}
use lib.ListN.{length, get_or}
use Rattle.circuit.specs.Circuit.{Circuit}
use Rattle.circuit.proofs.Sound.{Sound}
use Rattle.timing.specs.Inside.Loaded.{Spread, LoadedFirst}
use Rattle.tables.specs.Inside.Sizes.{FIRSTS}

-- the arcs before arc x enter synchronizers below i, all others do not
pub record Splits (c : Circuit) (i x : ℕ) : Type 0 where
  pub within : x ≤ c.arcs
  pub below : (a : ℕ) → a < x → c.to a < i
  pub above : (a : ℕ) → x ≤ a → a < c.arcs → i ≤ c.to a

-- none of the first a arcs enters a synchronizer above `last`, and up to it the table says where the arcs split
pub record Entered (c : Circuit) (a last : ℕ) (first : List ℕ) : Type 0 where
  pub long : length first ≡ FIRSTS
  pub passed : (b : ℕ) → b < a → c.to b ≤ last
  pub each : (i : ℕ) → i < last + 1 → Splits c i (get_or first i 0)

not_below : (x y : ℕ) → (y < x → ⊥) → x ≤ y
not_below x y h = omega (arith, lt_of_not-le h)

module _ {c : Circuit} {i x y : ℕ} (p : Splits c i x) (q : Splits c (i + 1) y) where
  split_rises : x ≤ y
  split_rises = not_below x y (λ h. omega (arith, p.below y h, q.above y (le_refl y) (omega (arith, p.within))))

  split_inside : (a : ℕ) → x ≤ a → a < y → c.to a ≡ i
  split_inside a h k = omega (arith, q.below a k, p.above a h (omega (arith, q.within)))

  split_outside : (a : ℕ) → a < c.arcs → c.to a ≡ i → (x ≤ a) × (a < y)
  split_outside a l e = (
    not_below x a (λ h. omega (arith, p.below a h)),
    lt_of_not-le (λ h. omega (arith, q.above a h l)),
  )

loaded_first : {c : Circuit} {first : List ℕ} → length first ≡ FIRSTS →
    ((i : ℕ) → i < c.synchronizers + 1 → Splits c i (get_or first i 0)) → LoadedFirst c first
loaded_first e f = record {
  long = e;
  into = record {
    rises = λ i l. split_rises (f i (omega arith)) (f (i + 1) (omega arith));
    within = λ i l. (f (i + 1) (omega arith)).within;
    inside = λ i a l. split_inside (f i (omega arith)) (f (i + 1) (omega arith)) a;
    outside = λ i a l. split_outside (f i (omega arith)) (f (i + 1) (omega arith)) a;
  };
}

module _ {c : Circuit} (v : Sound c) {a last up : ℕ} {first after : List ℕ} (t : Entered c a last first) (s : Spread first last up a after) where
  -- where no arc from a on enters below `up`, the arcs into all synchronizers above `last` and up to it begin at a
  reaches : a ≤ c.arcs → ((b : ℕ) → a ≤ b → b < c.arcs → up ≤ c.to b) → (i : ℕ) → i < up + 1 → Splits c i (get_or after i 0)
  reaches w high i l = elim (dec_lt last i) [
    | yes k ↦ rw (s.new i k (omega arith)) (record { within = w; below = λ b h. omega (arith, t.passed b h); above = λ b h m. omega (arith, high b h m) })
    | no k ↦ (let h : i ≤ last = omega arith in rw (s.kept i h) (t.each i (omega arith)))
  ]

  to_rises : (x y : ℕ) → x ≤ y → y < c.arcs → c.to x ≤ c.to y
  to_rises x y h l =
      ⊎_elim (λ e. rw e (le_refl _)) (λ k. ⊎_elim (λ p. omega arith) (λ p. omega arith) (v.ordered x y k l)) (eq-or-lt_of_le h)

  pub entered_more : a < c.arcs → up ≡ c.to a → Entered c (a + 1) up after
  entered_more l e = record {
    long = s.long ∙ t.long;
    passed = λ b h. omega (arith, to_rises b a (omega arith) l);
    each = reaches (omega arith) (λ b h m. omega (arith, to_rises a b h m));
  }

  pub entered_all : a ≡ c.arcs → up ≡ c.synchronizers → LoadedFirst c after
  entered_all e m = loaded_first (s.long ∙ t.long)
      (λ i l. reaches (omega arith) (λ b h k. let z : ⊥ = omega arith in absurd z) i (omega arith))
