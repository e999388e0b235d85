-- A path, as a check. A node's rank is the first round that reaches its departure, so ranks are computed, and with them which arcs a
-- path passes over.
use mathlib.Core.Path.{◌≡◌, refl}
use mathlib.Core.List.{List, [], ◌∷◌, ◌++◌}
use Prim.Native.Nat.{ℕ, zero, suc, pred, ◌≤◌, ◌<◌}
use native.Mathlib.Omega.{arith}
use lib.IntN.{ℤ}
use lib.ListN.{length, get_or, take}
use Rattle.image.specs.Rules.{lowest_of}
use Rattle.flow.specs.Flow.{Flow, Good, late, When, none, at, brings, arrival, Fits}
use Rattle.flow.specs.Inside.Rounds.{round}
use Rattle.flow.specs.Rank.{Lowest, Rank}
use Rattle.flow.specs.Path.{Brought, Last, Back, PathTo}
use Rattle.flow.proofs.Rank.{rank_round, lowest_unique}
use Rattle.known.proofs.Checks.{Check, given, never, ◌and◌, ◌or◌, less, at_most, equal, unequal, equal_ℤ, unequal_ℤ, equals, below}

module _ (f : Flow) (n : ℕ) where
  -- the late departures after n rounds
  abbrev departures : ℕ → ℤ
  departures = round late f n

  abbrev rank_of : ℕ → ℕ
  rank_of j = lowest_of (λ m. (equal_ℤ (round late f m j) (departures j)).test) n

  abbrev ranking : (j : ℕ) → Check (Lowest (λ m. round late f m j ≡ departures j) (rank_of j))
  ranking j = given (λ h. record { holds = h.0; lowest = h.1 })
      (equal_ℤ (round late f (rank_of j) j) (departures j) and below (λ m. unequal_ℤ (round late f m j) (departures j)) (rank_of j))

  -- arcs lead from node to node, and every node has the rank computed for it
  pub record RanksComputed : Type 0 where
    pub good : Good f
    pub ranks : (j : ℕ) → j < f.nodes → Rank f departures j (rank_of j)

  pub from_rank : RanksComputed → (i : ℕ) (t : ℤ) (r a : ℕ) → Brought f departures i t r a → r ≡ rank_of (f.source a)
  from_rank known i t r a h = lowest_unique _ r _ h.from (known.ranks (f.source a) (known.good.leaves a h.here))

  abbrev taking : (i : ℕ) (t : ℤ) (r a : ℕ) → Check (RanksComputed → Brought f departures i t r a)
  taking i t r a =
      given
      (λ h known. record {
        here = h.0;
        enters = h.1.0;
        gives = h.1.1.0;
        from = rw h.1.1.1 at (known.ranks (f.source a) (known.good.leaves a h.0));
      })
      (less a f.arcs and equal (f.target a) i and equal_ℤ (brings f departures a) t and equal (rank_of (f.source a)) r)

  -- where the arc a brings i the time t, its source's rank has Q
  abbrev having : (i : ℕ) (t : ℤ) {Q : ℕ → Type 0} → ((r : ℕ) → Check (Q r)) →
      (a : ℕ) → Check (RanksComputed → (r : ℕ) → Brought f departures i t r a → Q r)
  having i t check a =
      given (λ d known r h. absurd (d h.enters)) (unequal (f.target a) i)
      or given (λ d known r h. absurd (d h.gives)) (unequal_ℤ (brings f departures a) t)
      or given (λ q known r h. rw (from_rank known i t r a h) q) (check (rank_of (f.source a)))

  abbrev choosing : (i : ℕ) (t : ℤ) (r a : ℕ) → Check (RanksComputed → Lowest (Brought f departures i t r) a)
  choosing i t r a =
      given (λ h known. record { holds = h.0 known; lowest = λ b l x. h.1 b l known r x refl })
      (taking i t r a and below (having i t (λ m. unequal m r)) a)

  abbrev ending : (i r a : ℕ) (w : When) → Check (arrival late f departures i ≡ w → RanksComputed → Last f departures i r a)
  ending i r a none = never
  ending i r a (at t) =
      given
      (λ h e known. record {
        time = t;
        arrives = e;
        least = record {
          holds = (a, (h.0 known).holds);
          lowest = λ m l x. let k : r ≤ m = h.1 x.0 x.1.here known m x.1 in omega arith;
        };
        lowest = h.0 known;
      })
      (choosing i t r a and below (having i t (at_most r)) f.arcs)

  abbrev backing : (s r : ℕ) (p : List ℕ) (i : ℕ) → Check (RanksComputed → i < f.nodes → Back f departures s r p i)
  backing s zero p i =
      given (λ h known l. (rw h.0 at (known.ranks i l), h.1.0, h.1.1))
      (equal (rank_of i) zero and equal s i and equals equal p [])
  backing s (suc r) p i =
      let a = get_or p r 0 in
      let q = take r p in
      given
      (λ h known l.
      let low = h.1.0 known in
      (a, q, rw h.0 at (known.ranks i l), low, h.1.1.0 known (known.good.leaves a low.holds.here), h.1.1.1))
      (equal (rank_of i) (suc r)
      and choosing i (departures i) r a
      and backing s r q (f.source a)
      and equals equal p (q ++ (a ∷ [])))

  abbrev pub tracing : (i s : ℕ) (p : List ℕ) → Check (Good f → Fits late f departures → PathTo f departures i s p)
  tracing i s p =
      let r = pred (length p) in
      let a = get_or p r 0 in
      let q = take r p in
      given
      (λ h good fits.
      let known : RanksComputed = record { good = good; ranks = λ j l. (rank_round f good departures fits (rank_of j) j l).1 (h.0 j l) } in
      let end = h.1.0 refl known in
      record {
        rank = r;
        last = a;
        before = q;
        ends = end;
        back = h.1.1.0 known (good.leaves a end.lowest.holds.here);
        whole = h.1.1.1;
      })
      (below ranking f.nodes
      and ending i r a (arrival late f departures i)
      and backing s r q (f.source a)
      and equals equal p (q ++ (a ∷ [])))
