-- Only what a flow says of its nodes and arcs counts, and only the departures of the nodes: where two flows are the same there, and
-- departures agree at every node, so do arrivals, and one is a least solution, or has a rank, if the other is or has. So all that is
-- read off a least solution is unique.
use mathlib.Core.Path.{◌≡◌, refl, sym, ◌∙◌}
use Prim.Native.Nat.{ℕ, zero, suc, ◌<◌}
use lib.IntN.{ℤ}
use Rattle.flow.specs.Flow.{Flow, Good, Side, arrival, next, Fits, Least}
use Rattle.flow.specs.Bounds.{Unentered}
use Rattle.flow.specs.Inside.Within.{Agree}
use Rattle.flow.specs.Inside.Same.{Same}
use Rattle.flow.specs.Rank.{Tight, Reaches, Lowest, Rank}
use Rattle.flow.proofs.Arrival.{brings_same, arrival_same}

pub agree_self : (f : Flow) (D : ℕ → ℤ) → Agree f D D
agree_self f D i l = refl

agree_sym : (f : Flow) (D E : ℕ → ℤ) → Agree f D E → Agree f E D
agree_sym f D E h i l = sym (h i l)

pub same_self : (f : Flow) → Same f f
same_self f = record {
  nodes = refl;
  arcs = refl;
  source = λ a l. refl;
  target = λ a l. refl;
  weight = λ a l. refl;
  launch = λ i l. refl;
  latch = λ i l. refl;
}

module _ (f g : Flow) (same : Same f g) where
  pub same_sym : Same g f
  same_sym = record {
    nodes = sym same.nodes;
    arcs = sym same.arcs;
    source = λ a l. sym (same.source a (rw same.arcs at l));
    target = λ a l. sym (same.target a (rw same.arcs at l));
    weight = λ a l. sym (same.weight a (rw same.arcs at l));
    launch = λ i l. sym (same.launch i (rw same.nodes at l));
    latch = λ i l. sym (same.latch i (rw same.nodes at l));
  }

  pub agree_back : (D E : ℕ → ℤ) → Agree f D E → Agree g E D
  agree_back D E agree i l = agree_sym f D E agree i (rw same.nodes at l)

  pub unentered_same : (i : ℕ) → Unentered f i f.arcs → Unentered g i g.arcs
  unentered_same i h a l e = let k : a < f.arcs = rw same.arcs at l in h a k (sym (same.target a k) ∙ e)

pub same_good : (f g : Flow) → Good f → Same f g → Good g
same_good f g good same = record {
  leaves = λ a l. let k : a < f.arcs = rw same.arcs at l in rw (same.source a k, same.nodes) (good.leaves a k);
  enters = λ a l. let k : a < f.arcs = rw same.arcs at l in rw (same.target a k, same.nodes) (good.enters a k);
}

-- what f makes of D, g makes of E
module _ (f g : Flow) (good : Good f) (same : Same f g) (D E : ℕ → ℤ) (agree : Agree f D E) where
  pub next_same : (s : Side) (i : ℕ) → i < f.nodes → next s g E i ≡ next s f D i
  unfolding next
  next_same s i l = rw (same.latch i l, same.launch i l, arrival_same f g good same D E agree s i)

  pub fits_same : (s : Side) → Fits s f D → Fits s g E
  fits_same s h i l = let k : i < f.nodes = rw same.nodes at l in sym (agree i k) ∙ h i k ∙ sym (next_same s i k)

  reaches_same : (n i : ℕ) → i < f.nodes → Reaches f D i n → Reaches g E i n
  reaches_same zero i l e = sym (agree i l) ∙ e ∙ sym (same.launch i l)
  reaches_same (suc n) i l h =
      let a = h.0 in
      let t = h.1 in
      let k = t.here in
      let tight : Tight g E i a = record {
        here = rw same.arcs k;
        enters = same.target a k ∙ t.enters;
        holds = same.latch i l ∙ t.holds;
        carries = brings_same f g good same D E agree a k ∙ t.carries ∙ agree i l;
      } in
      (a, tight, rw (same.source a k) (reaches_same n (f.source a) (good.leaves a k) h.2))

-- properties that imply each other have the same lowest number
pub lowest_same : (P Q : ℕ → Type 0) (n : ℕ) → ((m : ℕ) → P m → Q m) → ((m : ℕ) → Q m → P m) → Lowest P n → Lowest Q n
lowest_same P Q n to from h = record { holds = to n h.holds; lowest = λ m l q. h.lowest m l (from m q) }

-- these need the way back from g to f too
module _ (f g : Flow) (good : Good f) (same : Same f g) (D E : ℕ → ℤ) (agree : Agree f D E) where
  pub least_same : (s : Side) → Least s f D → Least s g E
  least_same s h = record {
    fits = fits_same f g good same D E agree s h.fits;
    least = λ F fits i l.
        let k : i < f.nodes = rw same.nodes at l in
        let z = fits_same g f (same_good f g good same) (same_sym f g same) F F (agree_self g F) s fits in
        rw (agree i k) at (h.least F z i k);
  }

  pub rank_same : (i : ℕ) → i < f.nodes → (n : ℕ) → Rank f D i n → Rank g E i n
  rank_same i l n = lowest_same _ _ n (λ m. reaches_same f g good same D E agree m i l)
      (λ m. reaches_same g f (same_good f g good same) (same_sym f g same) E D (agree_back f g same D E agree) m i (rw same.nodes l))

-- the same in one flow; a round's law then holds of every number, as no other launch or latch comes in
module _ (f : Flow) (good : Good f) (D E : ℕ → ℤ) (agree : Agree f D E) where
  pub arrival_agree : (s : Side) (i : ℕ) → arrival s f D i ≡ arrival s f E i
  arrival_agree s i = sym (arrival_same f f good (same_self f) D E agree s i)

  pub next_agree : (s : Side) (i : ℕ) → next s f D i ≡ next s f E i
  unfolding next
  next_agree s i = rw (arrival_agree s i)
