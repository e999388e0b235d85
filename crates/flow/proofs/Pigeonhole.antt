-- Numbers below a bound: a search among them, and the pigeonhole principle. The first value that comes a second time is
-- found by a search; where none does, a value may be swapped for the greatest, so that one place and one value less remain.
use mathlib.Core.Path.{◌≡◌, sym, ap, ◌∙◌}
use mathlib.Core.Logic.{◌⊎◌, inl, inr, ◌≢◌}
use mathlib.Core.Bool.{cond}
use Prim.Native.Nat.{ℕ, zero, suc, ◌<◌, ◌≤◌}
use native.Mathlib.Omega.{arith}
use native.Mathlib.Decide.{ℕ_discrete}
use lib.Dec.{eqb}
use borrow.Author.Tests.{eq-eqb, ne_eqb}

-- below n + 1: below n, or n
pub below_suc {ℓ} : (P : ℕ → Type ℓ) (n : ℕ) → ((b : ℕ) → b < n → P b) → P n → (b : ℕ) → b < suc n → P b
below_suc P n h k b l = elim (ℕ_discrete b n) [ yes e ↦ rw e k | no d ↦ h b (omega arith) ]

-- some number below n has P, or all have Q
abbrev pub SomeOrAll : (ℕ → Type 0) → (ℕ → Type 0) → ℕ → Type 0
SomeOrAll P Q n = ((i : ℕ) × (i < n) × P i) ⊎ ((i : ℕ) → i < n → Q i)

pub some_or_all : (P Q : ℕ → Type 0) (n : ℕ) → ((i : ℕ) → i < n → P i ⊎ Q i) → SomeOrAll P Q n
some_or_all P Q zero each = inr (λ i l. let k : ⊥ = omega arith in absurd k)
some_or_all P Q (suc n) each = go (some_or_all P Q n (λ i l. each i (omega arith))) (each n (omega arith))
  where
    go : SomeOrAll P Q n → P n ⊎ Q n → SomeOrAll P Q (suc n)
    go (inl h) q = inl (h.0, omega arith, h.2)
    go (inr h) (inl p) = inl (n, omega arith, p)
    go (inr h) (inr q) = inr (below_suc Q n h q)

-- the first n values differ
abbrev pub Fresh : (ℕ → ℕ) → ℕ → Type 0
Fresh f n = (y : ℕ) → y < n → (x : ℕ) → x < y → f x ≢ f y

-- the first value that comes a second time
pub record Twice (f : ℕ → ℕ) (n : ℕ) : Type 0 where
  pub first : ℕ
  pub second : ℕ
  pub order : first < second
  pub bound : second < n
  pub same : f first ≡ f second
  pub fresh : Fresh f second

-- after the first place, up to the second, all differ
pub twice_apart : (f : ℕ → ℕ) (a b : ℕ) → f a ≡ f b → Fresh f b → (y : ℕ) → y ≤ b → (x : ℕ) → a < x → x < y → f x ≢ f y
twice_apart f a b same fresh y l x h k e = elim (ℕ_discrete y b) [
  | yes q ↦ fresh x (omega arith) a h (same ∙ sym (e ∙ ap f q))
  | no q ↦ fresh y (omega arith) x k e
]

twice_or : (f : ℕ → ℕ) (n : ℕ) → Twice f n ⊎ Fresh f n
twice_or f zero = inr (λ y l. let k : ⊥ = omega arith in absurd k)
twice_or f (suc n) = go (twice_or f n)
    (some_or_all (λ i. f i ≡ f n) (λ i. f i ≢ f n) n (λ i l. elim (ℕ_discrete (f i) (f n)) [ yes e ↦ inl e | no d ↦ inr d ]))
  where
    go : Twice f n ⊎ Fresh f n → SomeOrAll (λ i. f i ≡ f n) (λ i. f i ≢ f n) n → Twice f (suc n) ⊎ Fresh f (suc n)
    go (inl t) q = inl (record {
      first = t.first;
      second = t.second;
      order = t.order;
      bound = omega arith;
      same = t.same;
      fresh = t.fresh;
    })
    go (inr d) (inl e) = inl (record { first = e.0; second = n; order = e.1; bound = omega arith; same = e.2; fresh = d })
    go (inr d) (inr e) = inr (below_suc (λ y. (x : ℕ) → x < y → f x ≢ f y) n d e)

-- f with x in the place of the value m
swap : (ℕ → ℕ) → ℕ → ℕ → ℕ → ℕ
swap f m x i = cond (eqb (f i) m) x (f i)

swap_at : (f : ℕ → ℕ) (m x i : ℕ) → f i ≡ m → swap f m x i ≡ x
unfolding swap
swap_at f m x i e = rw (eq-eqb (f i) m e)

swap_off : (f : ℕ → ℕ) (m x i : ℕ) → f i ≢ m → swap f m x i ≡ f i
unfolding swap
swap_off f m x i d = rw (ne_eqb (f i) m d)

module _ (f : ℕ → ℕ) (m n : ℕ) (fresh : Fresh f (suc n)) where
  swap_small : ((i : ℕ) → i < suc n → f i < suc m) → (i : ℕ) → i < n → swap f m (f n) i < m
  swap_small h i l = elim (ℕ_discrete (f i) m) [
    | yes e ↦ omega (arith, swap_at f m (f n) i e, fresh n (omega arith) i l, h n (omega arith))
    | no d ↦ omega (arith, swap_off f m (f n) i d, h i (omega arith))
  ]

  swap_fresh : Fresh (swap f m (f n)) n
  swap_fresh y l x k e = elim (ℕ_discrete (f x) m) [
    | yes p ↦ elim (ℕ_discrete (f y) m) [
      | yes q ↦ fresh y (omega arith) x k (p ∙ sym q)
      | no q ↦ fresh n (omega arith) y l (sym (swap_off f m (f n) y q) ∙ sym e ∙ swap_at f m (f n) x p)
    ]
    | no p ↦ elim (ℕ_discrete (f y) m) [
      | yes q ↦ fresh n (omega arith) x (omega arith) (sym (swap_off f m (f n) x p) ∙ e ∙ swap_at f m (f n) y q)
      | no q ↦ fresh y (omega arith) x k (sym (swap_off f m (f n) x p) ∙ e ∙ swap_off f m (f n) y q)
    ]
  ]

crowded : (m n : ℕ) (f : ℕ → ℕ) → ((i : ℕ) → i < n → f i < m) → Fresh f n → m < n → ⊥
crowded m zero f h fresh l = omega arith
crowded zero (suc n) f h fresh l = omega (arith, h n (omega arith))
crowded (suc m) (suc n) f h fresh l = crowded m n (swap f m (f n)) (swap_small f m n fresh h) (swap_fresh f m n fresh) (omega arith)

pub pigeons : (m n : ℕ) (f : ℕ → ℕ) → ((i : ℕ) → i < n → f i < m) → m < n → Twice f n
pigeons m n f h l = elim (twice_or f n) [ inl t ↦ t | inr d ↦ absurd (crowded m n f h d l) ]
