-- Orders of the nodes, and lists of nodes without repeats, to which one node more is added.
use mathlib.Core.Path.{◌≡◌, refl, sym, ap, ◌∙◌}
use mathlib.Core.Bool.{Bool, true, false, cond}
use mathlib.Core.List.{List}
use mathlib.Core.Logic.{◌⊎◌, inl, inr}
use Prim.Native.Nat.{ℕ, zero, suc, ◌+◌, ◌-◌, ◌<◌, ◌≤◌}
use native.Mathlib.Omega.{arith}
use native.Mathlib.Decide.{dec_lt, ℕ_discrete}
use lib.Dec.{eqb}
use lib.ListN.{length, get_or, set, length-set}
use lib.Seq.{get_or-set_same, get_or-set_other}
use borrow.Author.Tests.{eq-eqb, ne_eqb}
use Rattle.std.proofs.lemmas.Grind.{merely, not_there}
use Rattle.flow.proofs.Pigeonhole.{pigeons}
use Rattle.tables.specs.Inside.Net.{times_of}
use Rattle.tables.specs.Inside.Listing.{Listed, Enlisted, Order, Stacked}
use Rattle.tables.specs.Inside.Passing.{to_or_fro}
use Rattle.tables.specs.Inside.Sizes.{NODES}

-- one place more
pub listed_more : (list : ℕ → ℕ) (n j : ℕ) → Listed list n j → Listed list (n + 1) j
listed_more list n j h = (h.0, omega (arith, h.1), h.2)

-- lists that agree below n
pub listed_same : (list other : ℕ → ℕ) (n j : ℕ) → ((x : ℕ) → x < n → other x ≡ list x) → Listed list n j → Listed other n j
listed_same list other n j same h = (h.0, h.1, same h.0 h.1 ∙ h.2)

-- one can look through the list for j
listed_or : (list : ℕ → ℕ) (n j : ℕ) → Listed list n j ⊎ (Listed list n j → ⊥)
listed_or list zero j = inr (λ h. let z : ⊥ = omega (arith, h.1) in z)
listed_or list (suc n) j = elim (ℕ_discrete (list n) j) [
  | yes e ↦ inl (n, omega arith, e)
  | no d ↦ elim (listed_or list n j) [
    | inl h ↦ inl (h.0, omega (arith, h.1), h.2)
    | inr none ↦ inr (λ h. elim (ℕ_discrete h.0 n) [ yes q ↦ d (ap list (sym q) ∙ h.2) | no q ↦ none (h.0, omega (arith, h.1), h.2) ])
  ]
]

-- so where j is somewhere, its place is known
pub listed_found : {list : ℕ → ℕ} {n j : ℕ} → ∥ Listed list n j ∥₁ → Listed list n j
listed_found {list} {n} {j} h = elim (listed_or list n j) [ inl k ↦ k | inr none ↦ absurd (not_there h none) ]

-- all nodes by their numbers
pub order_all : (l : ℕ) → Order l (λ i. i)
order_all l = record { nodes = λ x k. k; all = λ j k. (j, k, refl) }

-- an order gone over to, or fro
pub order_turned : (forth : Bool) {l : ℕ} {list : ℕ → ℕ} → Order l list → Order l (λ z. list (to_or_fro forth l z))
order_turned true h = h
order_turned false {l} {list} h = record {
  nodes = λ x k. h.nodes (l - 1 - x) (omega arith);
  all = λ j k.
      let o = h.all j k in
      let e : l - 1 - (l - 1 - o.0) ≡ o.0 = omega (arith, o.1) in
      (l - 1 - o.0, omega (arith, o.1), ap list e ∙ o.2);
}

-- a number of distinct nodes is at most the number of nodes
pub few_listed : (list : ℕ → ℕ) (n l : ℕ) → ((x : ℕ) → x < n → list x < l) →
    ((y : ℕ) → y < n → (x : ℕ) → x < y → list x ≡ list y → ⊥) → n ≤ l
few_listed list n l inside apart = elim (dec_lt l n) [
  | no d ↦ omega arith
  | yes k ↦ (let t = pigeons l n list inside k in absurd (apart t.second t.bound t.first t.order t.same))
]

-- the empty list
pub enlist_none : {l : ℕ} {marks : List Bool} {list : List ℕ} → length marks ≡ NODES → length list ≡ NODES → ((j : ℕ) → get_or marks j false ≡ false) → Enlisted l marks list 0
enlist_none e f blank = record {
  long = (e, f);
  nodes = λ x k. let z : ⊥ = omega arith in absurd z;
  apart = λ y k. let z : ⊥ = omega arith in absurd z;
  marked = λ x k. let z : ⊥ = omega arith in absurd z;
  listed = λ j q. let b = blank j in cc;
}

module _ {l : ℕ} {marks : List Bool} {list : List ℕ} {count : ℕ} (i : ℕ) (here : i < l) (few : l ≤ NODES) (h : Enlisted l marks list count)
    (new : get_or marks i false ≡ true → ⊥) where
  fresh : (x : ℕ) → x < count → get_or list x 0 ≡ i → ⊥
  fresh x k e = new (rw e at (h.marked x k))

  -- the list and i behind it
  abbrev grown : ℕ → ℕ
  grown x = cond (eqb x count) i (get_or list x 0)

  pub enlist_room : count < l
  enlist_room =
      let k = few_listed grown (suc count) l inside apart in omega arith
    where
      at_end : grown count ≡ i
      at_end = rw (eq-eqb count count refl)

      before : (x : ℕ) → (x ≡ count → ⊥) → grown x ≡ get_or list x 0
      before x d = rw (ne_eqb x count d)

      inside : (x : ℕ) → x < suc count → grown x < l
      inside x k = elim (ℕ_discrete x count) [ yes q ↦ rw (q, at_end) here | no q ↦ rw (before x q) (h.nodes x (omega arith)) ]

      apart : (y : ℕ) → y < suc count → (x : ℕ) → x < y → grown x ≡ grown y → ⊥
      apart y k x o e =
          let p = before x (λ q. omega arith) in
          elim (ℕ_discrete y count) [
            | yes q ↦ fresh x (omega arith) (sym p ∙ e ∙ ap grown q ∙ at_end)
            | no q ↦ h.apart y (omega arith) x o (sym p ∙ e ∙ before y q)
          ]

  room : count < length list
  room = omega (arith, enlist_room, h.long.1)

  spot : get_or (set list count i) count 0 ≡ i
  spot = get_or-set_same list count i 0 room

  kept : (x : ℕ) → x < count → get_or (set list count i) x 0 ≡ get_or list x 0
  kept x k = get_or-set_other list count x i 0 (λ q. omega arith)

  pub enlist_kept : (j : ℕ) → Listed (times_of list) count j → Listed (times_of (set list count i)) (count + 1) j
  enlist_kept j o = listed_more (times_of (set list count i)) count j (listed_same (times_of list) (times_of (set list count i)) count j kept o)

  pub enlist_here : Listed (times_of (set list count i)) (count + 1) i
  enlist_here = (count, omega arith, spot)

  pub enlist_new : Enlisted l (set marks i true) (set list count i) (count + 1)
  enlist_new = record {
    long = (length-set marks i true ∙ h.long.0, length-set list count i ∙ h.long.1);
    nodes = λ x k. elim (ℕ_discrete x count) [ yes q ↦ rw (q, spot) here | no q ↦ rw (kept x (omega arith)) (h.nodes x (omega arith)) ];
    apart = λ y k x o e.
        let p = kept x (omega arith) in
        elim (ℕ_discrete y count) [
          | yes q ↦ fresh x (omega arith) (sym p ∙ e ∙ rw q spot)
          | no q ↦ h.apart y (omega arith) x o (sym p ∙ e ∙ kept y (omega arith))
        ];
    marked = λ x k. elim (ℕ_discrete x count) [
      | yes q ↦ rw (q, spot) mark
      | no q ↦ rw (kept x (omega arith)) (get_or-set_other marks i (get_or list x 0) true false (fresh x (omega arith)) ∙ h.marked x (omega arith))
    ];
    listed = λ j e. elim (ℕ_discrete j i) [
      | yes q ↦ rw q (merely enlist_here)
      | no q ↦ merely (enlist_kept j (listed_found (h.listed j (sym (get_or-set_other marks i j true false q) ∙ e))))
    ];
  }
    where
      mark : get_or (set marks i true) i false ≡ true
      mark = get_or-set_same marks i true false (omega (arith, h.long.0))

-- a list without repeats that has all nodes is an order of them
pub enlist_all : {l : ℕ} {marks : List Bool} {list : List ℕ} {count : ℕ} → Enlisted l marks list count →
    ((j : ℕ) → j < l → Listed (times_of list) count j) → Order l (times_of list)
enlist_all {l} {marks} {list} {count} h all = record {
  nodes = λ x k. h.nodes x (omega (arith, enough));
  all = λ j k. let o = all j k in (o.0, omega (arith, o.1, few_listed (times_of list) count l h.nodes h.apart), o.2);
}
  where
    spot : (j : ℕ) → (z : ℕ) × (j < l → (z < count) × (get_or list z 0 ≡ j))
    spot j = elim (dec_lt j l) [
      | yes k ↦ ((all j k).0, λ o. ((all j k).1, (all j k).2))
      | no d ↦ (0, λ o. absurd (d o))
    ]

    enough : l ≤ count
    enough = elim (dec_lt count l) [
      | no d ↦ omega arith
      | yes k ↦ (
          let t = pigeons count l (λ j. (spot j).0) (λ j o. ((spot j).1 o).0) k in
          let e = sym ((spot t.first).1 (omega (arith, t.order, t.bound))).1 ∙ ap (times_of list) t.same ∙ ((spot t.second).1 t.bound).1 in
          let z : ⊥ = omega (arith, t.order, e) in
          absurd z)
    ]

-- an empty stack
pub stack_none : {l : ℕ} {stack : List ℕ} → length stack ≡ NODES → Stacked l stack 0
stack_none e = record { long = e; few = omega arith; nodes = λ x k. let z : ⊥ = omega arith in absurd z }
