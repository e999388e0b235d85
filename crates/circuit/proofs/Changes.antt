-- That `Narrows` is what demand 3 allows. It is reflexive and transitive; a change that narrows to a sound circuit is an allowed one, and
-- each allowed one does; and so do any number of them, one after the other. So what narrowing concludes holds of them.
use mathlib.Core.Path.{◌≡◌, refl, sym, ◌∙◌}
use mathlib.Core.Bool.{Bool, true, false, cond}
use mathlib.Core.List.{List, [], ◌∷◌}
use mathlib.Core.Logic.{◌⊎◌, inl, inr, ◌≢◌, ◌↔◌}
use Prim.Native.Nat.{ℕ, suc, ◌-◌, ◌≤◌, ◌<◌}
use native.Mathlib.Nat.{le_refl}
use native.Mathlib.Omega.{arith}
use lib.Dec.{ltb, eqb}
use lib.IntN.{ℤ}
use borrow.Author.Tests.{ltb-true, ltb-false, le-ltb, eq-eqb, eqb-true, eqb-false}
use Rattle.circuit.specs.Circuit.{Circuit}
use Rattle.circuit.specs.Times.{Times, Calm}
use Rattle.circuit.specs.Narrows.{Narrows, Narrowed}
use Rattle.circuit.specs.Changes.{put, past, revised, Change, setup, hold, least, greatest, shortest, longest, drop, Allowed, Applies, changed, changed_by, AllAllowed}
use Rattle.circuit.proofs.Sound.{Sound}
use Rattle.circuit.proofs.Narrowing.{narrows_calm, narrowed}

-- what holds of x at i, and of f everywhere, holds of f with x at i
put_all : (P : ℕ → ℕ → Type 0) (f : ℕ → ℕ) (i x : ℕ) → P i x → ((j : ℕ) → P j (f j)) → (j : ℕ) → P j (put f i x j)
unfolding put
put_all P f i x here there j = go (eqb j i) refl
  where
    go : (t : Bool) → eqb j i ≡ t → P j (cond t x (f j))
    go true e = rw (eqb-true j i e) here
    go false e = there j

put_here : (f : ℕ → ℕ) (i x : ℕ) → put f i x i ≡ x
unfolding put
put_here f i x = rw (eq-eqb i i refl) refl

lower : (f : ℕ → ℕ) (i x : ℕ) → x ≤ f i → (j : ℕ) → put f i x j ≤ f j
lower f i x h = put_all (λ j y. y ≤ f j) f i x h (λ j. le_refl (f j))

higher : (f : ℕ → ℕ) (i x : ℕ) → f i ≤ x → (j : ℕ) → f j ≤ put f i x j
higher f i x h = put_all (λ j y. f j ≤ y) f i x h (λ j. le_refl (f j))

-- the arcs with a left out
past_inside : (a b n : ℕ) → b < n - 1 → past a b < n
unfolding past
past_inside a b n l = go (ltb b a)
  where
    go : (t : Bool) → cond t b (suc b) < n
    go true = omega arith
    go false = omega arith

past_rises : (a b d : ℕ) → b < d → past a b < past a d
unfolding past
past_rises a b d l = go (ltb b a) (ltb d a) refl refl
  where
    go : (t u : Bool) → ltb b a ≡ t → ltb d a ≡ u → cond t b (suc b) < cond u d (suc d)
    go true true e k = l
    go true false e k = omega arith
    go false true e k = omega (arith, ltb-false b a e, ltb-true d a k)
    go false false e k = omega arith

past_other : (a b : ℕ) → past a b ≢ a
unfolding past
past_other a b = go (ltb b a) refl
  where
    go : (t : Bool) → ltb b a ≡ t → cond t b (suc b) ≢ a
    go true e k = omega (arith, ltb-true b a e)
    go false e k = omega (arith, ltb-false b a e)

past_all : (a b n : ℕ) → a < n → b < n → b ≢ a → (d : ℕ) × (d < n - 1) × (past a d ≡ b)
unfolding past
past_all a b n l m h = go (ltb b a) refl
  where
    go : (t : Bool) → ltb b a ≡ t → (d : ℕ) × (d < n - 1) × (past a d ≡ b)
    go true e = (b, omega (arith, ltb-true b a e), rw e refl)
    go false e =
        let k = ltb-false b a e in
        let q : a < b = omega arith in
        (b - 1, omega arith, rw (le-ltb (b - 1) a (omega arith)) (omega arith))

abbrev AtMost : (ℕ → ℕ) → (ℕ → ℕ) → Type 0
AtMost f g = (i : ℕ) → f i ≤ g i

module _ (c : Circuit) (S H l g s t : ℕ → ℕ)
    (setups : AtMost S c.setup) (holds : AtMost H c.hold) (leasts : AtMost c.least l) (greatests : AtMost g c.greatest)
    (shortests : AtMost c.shortest s) (longests : AtMost t c.longest) where
  -- lower setup and hold times, narrower windows and fewer arcs, all at once
  pub revised_narrows : (arcs : ℕ) (was : ℕ → ℕ) → ((a : ℕ) → a < arcs → was a < c.arcs) →
      ((b : ℕ) → b < c.arcs → (a : ℕ) × (a < arcs) × (c.to (was a) ≡ c.to b)) → Narrows c (revised c arcs was S H l g s t)
  revised_narrows arcs was old kept = record {
    cycle = refl;
    phases = refl;
    synchronizers = refl;
    closing = λ p k. refl;
    active = λ p k. refl;
    phase = λ i k. refl;
    kind = λ i k. refl;
    setup = λ i k. setups i;
    hold = λ i k. holds i;
    least = λ i k. leasts i;
    greatest = λ i k. greatests i;
    arc = λ a k. (was a, record { here = old a k; from = refl; to = refl; shortest = shortests (was a); longest = longests (was a) });
    kept = kept;
  }

  -- the same with all arcs
  whole : Narrows c (revised c c.arcs (λ b. b) S H l g s t)
  whole = revised_narrows c.arcs (λ b. b) (λ a k. k) (λ b k. (b, k, refl))

same : (f : ℕ → ℕ) → AtMost f f
same f i = le_refl (f i)

pub narrows_refl : (c : Circuit) → Narrows c c
narrows_refl c = whole c _ _ _ _ _ _ (same _) (same _) (same _) (same _) (same _) (same _)

pub narrows_trans : (c d e : Circuit) → Narrows c d → Narrows d e → Narrows c e
narrows_trans c d e n m =
    let there : (i : ℕ) → i < c.synchronizers → i < d.synchronizers = λ i l. rw n.synchronizers l in
    let phase_there : (p : ℕ) → p < c.phases → p < d.phases = λ p l. rw n.phases l in
    record {
      cycle = m.cycle ∙ n.cycle;
      phases = m.phases ∙ n.phases;
      synchronizers = m.synchronizers ∙ n.synchronizers;
      closing = λ p l. m.closing p (phase_there p l) ∙ n.closing p l;
      active = λ p l. m.active p (phase_there p l) ∙ n.active p l;
      phase = λ i l. m.phase i (there i l) ∙ n.phase i l;
      kind = λ i l. m.kind i (there i l) ∙ n.kind i l;
      setup = λ i l. omega (arith, m.setup i (there i l), n.setup i l);
      hold = λ i l. omega (arith, m.hold i (there i l), n.hold i l);
      least = λ i l. omega (arith, m.least i (there i l), n.least i l);
      greatest = λ i l. omega (arith, m.greatest i (there i l), n.greatest i l);
      arc = λ a l. let s = m.arc a l in let r = n.arc s.0 s.1.here in (
        r.0,
        record {
          here = r.1.here;
          from = r.1.from ∙ s.1.from;
          to = r.1.to ∙ s.1.to;
          shortest = omega (arith, r.1.shortest, s.1.shortest);
          longest = omega (arith, r.1.longest, s.1.longest);
        },
      );
      kept = λ b l. let k = n.kept b l in let j = m.kept k.0 k.1 in (j.0, j.1, j.2 ∙ k.2);
    }

-- a circuit that narrows a sound one is sound where its windows are windows and its arcs are in order, no more than there were
narrows_sound : (c d : Circuit) → Narrows c d → Sound c → d.arcs ≤ c.arcs →
    ((i : ℕ) → i < c.synchronizers → d.least i ≤ d.greatest i) →
    ((a : ℕ) → a < d.arcs → d.shortest a ≤ d.longest a) →
    ((a b : ℕ) → a < b → b < d.arcs → (d.to a < d.to b) ⊎ ((d.to a ≡ d.to b) × (d.from a < d.from b))) → Sound d
narrows_sound c d n v fewer windows arc-windows ordered =
    let here : (i : ℕ) → i < d.synchronizers → i < c.synchronizers = λ i l. rw n.synchronizers at l in
    let phase_here : (p : ℕ) → p < d.phases → p < c.phases = λ p l. rw n.phases at l in
    record {
      some_cycle = omega (arith, n.cycle, v.some_cycle);
      cycle = omega (arith, n.cycle, v.cycle);
      synchronizers = omega (arith, n.synchronizers, v.synchronizers);
      arcs = omega (arith, v.arcs);
      closing = λ p l. let k = phase_here p l in omega (arith, n.cycle, n.closing p k, v.closing p k);
      active = λ p l. let k = phase_here p l in omega (arith, n.cycle, n.active p k, v.active p k);
      rising = λ p q l k. let m = phase_here q k in let o : p < c.phases = omega arith in
          omega (arith, n.closing p o, n.closing q m, v.rising p q l m);
      phase = λ i l. let k = here i l in omega (arith, n.phases, n.phase i k, v.phase i k);
      kind = λ i l. let k = here i l in omega (arith, n.kind i k, v.kind i k);
      setup = λ i l. let k = here i l in omega (arith, n.cycle, n.setup i k, v.setup i k);
      hold = λ i l. let k = here i l in omega (arith, n.cycle, n.hold i k, v.hold i k);
      least = λ i l. windows i (here i l);
      greatest = λ i l. let k = here i l in omega (arith, n.greatest i k, v.greatest i k);
      from = λ a l. let s = n.arc a l in omega (arith, n.synchronizers, s.1.from, v.from s.0 s.1.here);
      to = λ a l. let s = n.arc a l in omega (arith, n.synchronizers, s.1.to, v.to s.0 s.1.here);
      shortest = arc-windows;
      longest = λ a l. let s = n.arc a l in omega (arith, s.1.longest, v.longest s.0 s.1.here);
      ordered = ordered;
    }

module _ (c : Circuit) where
  -- each arc of c has one into its target that stays
  stays : (a : ℕ) → Allowed c (drop a) → (b : ℕ) → b < c.arcs → (d : ℕ) × (d < c.arcs - 1) × (c.to (past a d) ≡ c.to b)
  stays a h b l = go (eqb b a) refl
    where
      go : (t : Bool) → eqb b a ≡ t → (d : ℕ) × (d < c.arcs - 1) × (c.to (past a d) ≡ c.to b)
      go true e = let k = past_all a h.1 c.arcs h.0 h.2 h.3 in (k.0, k.1, rw (k.2, eqb-true b a e) h.4)
      go false e = let k = past_all a b c.arcs h.0 l (eqb-false b a e) in (k.0, k.1, rw k.2 refl)

  -- each allowed change
  pub change_narrows : (x : Change) → Allowed c x → Narrows c (changed c x)
  change_narrows (setup i x) h = whole c _ _ _ _ _ _ (lower c.setup i x (omega (arith, h))) (same _) (same _) (same _) (same _) (same _)
  change_narrows (hold i x) h = whole c _ _ _ _ _ _ (same _) (lower c.hold i x (omega (arith, h))) (same _) (same _) (same _) (same _)
  change_narrows (least i x) h = whole c _ _ _ _ _ _ (same _) (same _) (higher _ i x h.0) (same _) (same _) (same _)
  change_narrows (greatest i x) h = whole c _ _ _ _ _ _ (same _) (same _) (same _) (lower _ i x h.1) (same _) (same _)
  change_narrows (shortest a x) h = whole c _ _ _ _ _ _ (same _) (same _) (same _) (same _) (higher _ a x h.0) (same _)
  change_narrows (longest a x) h = whole c _ _ _ _ _ _ (same _) (same _) (same _) (same _) (same _) (lower _ a x h.1)
  change_narrows (drop a) h = revised_narrows c _ _ _ _ _ _ (same _) (same _) (same _) (same _) (same _) (same _)
      (c.arcs - 1) (past a) (λ b l. past_inside a b c.arcs l) (stays a h)

  module _ (v : Sound c) where
    whole_sound : (S H l g s t : ℕ → ℕ) → Narrows c (revised c c.arcs (λ b. b) S H l g s t) →
        ((i : ℕ) → i < c.synchronizers → l i ≤ g i) → ((a : ℕ) → a < c.arcs → s a ≤ t a) → Sound (revised c c.arcs (λ b. b) S H l g s t)
    whole_sound S H l g s t n w u = narrows_sound c _ n v (omega arith) w u v.ordered

    -- with x, which lies inside, as an end of the window of i
    raised : (low high : ℕ → ℕ) (n i x : ℕ) → x ≤ high i → ((j : ℕ) → j < n → low j ≤ high j) → (j : ℕ) → j < n → put low i x j ≤ high j
    raised low high n i x h = put_all (λ j y. j < n → y ≤ high j) low i x (λ l. h)

    lowered : (low high : ℕ → ℕ) (n i x : ℕ) → low i ≤ x → ((j : ℕ) → j < n → low j ≤ high j) → (j : ℕ) → j < n → low j ≤ put high i x j
    lowered low high n i x h = put_all (λ j y. j < n → low j ≤ y) high i x (λ l. h)

    -- and the circuit is sound again
    pub change_sound : (x : Change) → Allowed c x → Sound (changed c x)
    change_sound (setup i x) h = whole_sound _ _ _ _ _ _ (change_narrows (setup i x) h) v.least v.shortest
    change_sound (hold i x) h = whole_sound _ _ _ _ _ _ (change_narrows (hold i x) h) v.least v.shortest
    change_sound (least i x) h = whole_sound _ _ _ _ _ _ (change_narrows (least i x) h) (raised _ _ _ i x h.1 v.least) v.shortest
    change_sound (greatest i x) h = whole_sound _ _ _ _ _ _ (change_narrows (greatest i x) h) (lowered _ _ _ i x h.0 v.least) v.shortest
    change_sound (shortest a x) h = whole_sound _ _ _ _ _ _ (change_narrows (shortest a x) h) v.least (raised _ _ _ a x h.1 v.shortest)
    change_sound (longest a x) h = whole_sound _ _ _ _ _ _ (change_narrows (longest a x) h) v.least (lowered _ _ _ a x h.0 v.shortest)
    change_sound (drop a) h = narrows_sound c _ (change_narrows (drop a) h) v (omega arith) v.least
        (λ b l. v.shortest (past a b) (past_inside a b c.arcs l))
        (λ b d l m. v.ordered (past a b) (past a d) (past_rises a b d l) (past_inside a d c.arcs m))

    -- two arcs do not lead from and to the same
    not_after : (a b : ℕ) → b < c.arcs → c.from a ≡ c.from b → c.to a ≡ c.to b → a < b → ⊥
    not_after a b k e f l = elim (v.ordered a b l k) [ inl h ↦ omega arith | inr h ↦ omega (arith, h.1) ]

    one_arc : (a b : ℕ) → a < c.arcs → b < c.arcs → c.from b ≡ c.from a → c.to b ≡ c.to a → b ≡ a
    one_arc a b k l e f = go (ltb a b) (ltb b a) refl refl
      where
        go : (t u : Bool) → ltb a b ≡ t → ltb b a ≡ u → b ≡ a
        go true u p q = absurd (not_after a b l (sym e) (sym f) (ltb-true a b p))
        go false true p q = absurd (not_after b a k e f (ltb-true b a q))
        go false false p q = omega (arith, ltb-false a b p, ltb-false b a q)

    -- nor is there another change that is in the relation and leaves the circuit sound
    change_only : (x : Change) → Applies c x → Narrows c (changed c x) → Sound (changed c x) → Allowed c x
    change_only (setup i x) l n w = rw (put_here c.setup i x) at (n.setup i l)
    change_only (hold i x) l n w = rw (put_here c.hold i x) at (n.hold i l)
    change_only (least i x) l n w = (rw (put_here c.least i x) at (n.least i l), rw (put_here c.least i x) at (w.least i l))
    change_only (greatest i x) l n w = (rw (put_here c.greatest i x) at (w.least i l), rw (put_here c.greatest i x) at (n.greatest i l))
    change_only (shortest a x) l n w = let s = n.arc a l in let e = one_arc a s.0 l s.1.here s.1.from s.1.to in
        (rw (e, put_here c.shortest a x) at s.1.shortest, rw (put_here c.shortest a x) at (w.shortest a l))
    change_only (longest a x) l n w = let s = n.arc a l in let e = one_arc a s.0 l s.1.here s.1.from s.1.to in
        (rw (put_here c.longest a x) at (w.shortest a l), rw (e, put_here c.longest a x) at s.1.longest)
    change_only (drop a) l n w = let k = n.kept a l in (l, past a k.0, past_inside a k.0 c.arcs k.1, past_other a k.0, k.2)

    -- so the changes that narrow it to a sound circuit are those that are allowed
    pub change_exactly : (x : Change) → Applies c x → Allowed c x ↔ (Narrows c (changed c x) × Sound (changed c x))
    change_exactly x l = (λ h. (change_narrows x h, change_sound x h), λ h. change_only x l h.0 h.1)

-- any number of changes, one after the other
pub changes_narrow : (c : Circuit) (xs : List Change) → AllAllowed c xs → Narrows c (changed_by c xs)
changes_narrow c [] h = narrows_refl c
changes_narrow c (x ∷ xs) h = narrows_trans c (changed c x) _ (change_narrows c x h.0) (changes_narrow (changed c x) xs h.1)

pub changes_sound : (c : Circuit) (xs : List Change) → Sound c → AllAllowed c xs → Sound (changed_by c xs)
changes_sound c [] v h = v
changes_sound c (x ∷ xs) v h = changes_sound (changed c x) xs (change_sound c v x h.0) h.1

-- so demand 3 holds of them
pub changes_narrowed : (c : Circuit) (xs : List Change) → Sound c → AllAllowed c xs → Calm c →
    Calm (changed_by c xs) × ((E D E' D' : ℕ → ℤ) → Times c E D → Times (changed_by c xs) E' D' →
    (i : ℕ) → i < c.synchronizers → Narrowed c (changed_by c xs) E D E' D' i)
changes_narrowed c xs v h calm =
    let d = changed_by c xs in
    let w = changes_sound c xs v h in
    let n = changes_narrow c xs h in
    (narrows_calm c d v w n calm, λ E D E' D' t t'. narrowed c d v w n E D E' D' t t')
