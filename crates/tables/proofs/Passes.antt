-- A pass, one node after the other: each is raised to its arrival, if that is later, and what holds of the nodes tried so far holds of one more.
use mathlib.Core.Path.{◌≡◌, refl, ap, ◌∙◌}
use mathlib.Core.Bool.{Bool, true, false, not}
use mathlib.Core.List.{List}
use Prim.Native.Nat.{ℕ, suc, ◌+◌, ◌-◌, ◌<◌, ◌≤◌}
use native.Mathlib.Omega.{arith}
use native.Mathlib.Decide.{ℕ_discrete}
use lib.ListN.{length, get_or, set, length-set}
use lib.Seq.{get_or-set_same, get_or-set_other, set-get_or}
use Rattle.flow.specs.Flow.{Side}
use Rattle.tables.specs.Inside.Net.{Net, times_of, arrival_n, Ranged}
use Rattle.tables.specs.Inside.Raise.{raised, Raise, raise, Lifted, Brings, Room, Sweepable}
use Rattle.tables.specs.Inside.Listing.{Order}
use Rattle.tables.specs.Inside.Passing.{to_or_fro, Unmoved, Still, Rested, Swept, Sweep, Passing}
use Rattle.tables.proofs.Raising.{raised_mono, raise_rises, raised_still, room_less, room_raise}
use Rattle.tables.proofs.Stamping.{parented_more}
use Rattle.tables.specs.Inside.Sizes.{NODES}

-- in a pass there is room for all that is left of it
pub sweep_room : {s : Side} {n : Net} {l : ℕ} {D node : ℕ → ℕ} {x : ℕ} {departs : List ℕ} → Room l l D → Swept s n l D node x departs → x ≤ l →
    Room l (l - x) (times_of departs)
sweep_room {l = l} {x = x} h p k = let e : l - x + x ≡ l = omega arith in p.room (l - x) (rw e h)

module _ {s : Side} {n : Net} {l : ℕ} (t : Sweepable n l) where
  pub sweep_none : {node : ℕ → ℕ} {departs : List ℕ} {start : ℕ} → length departs ≡ NODES → Rested s n (times_of departs) node start →
      Swept s n l (times_of departs) node start departs
  sweep_none e rested = record {
    long = e;
    onward = λ launch h. h;
    later = λ j h. omega arith;
    tried = λ z k. omega (arith, rested z k);
    room = λ b h. room_less b (omega arith) h;
  }

  module _ {D node : ℕ → ℕ} {x : ℕ} {departs : List ℕ} (p : Swept s n l D node x departs) (here : node x < l)
      (ranged : Ranged l (times_of departs)) where
    abbrev i : ℕ
    i = node x

    abbrev after : List ℕ
    after = set departs i (raised s n (times_of departs) i)

    new : get_or after i 0 ≡ raised s n (times_of departs) i
    new = get_or-set_same departs i _ 0 (omega (arith, here, t.shaped.nodes, p.long))

    other : (j : ℕ) → (j ≡ i → ⊥) → get_or after j 0 ≡ get_or departs j 0
    other j d = get_or-set_other departs i j _ 0 d

    pub step : Raise s n l i (times_of departs) (times_of after)
    step = record { here = here; new = new; rest = λ j h d. other j d }

    grows : (j : ℕ) → j < l → get_or departs j 0 ≤ get_or after j 0
    grows = raise_rises s t.shaped step

    pub sweep_more : Swept s n l D node (x + 1) after
    sweep_more = record {
      long = length-set departs i _ ∙ p.long;
      onward = λ launch h. raise {D = times_of departs} {E = times_of after} i (p.onward launch h) ranged step;
      later = λ j h. omega (arith, p.later j h, grows j h);
      tried = λ z k. elim (ℕ_discrete z x) [
        | yes q ↦ rw (q, new) (raised_mono s t.shaped D (times_of departs) p.later i here)
        | no q ↦ elim (ℕ_discrete (node z) i) [
          | yes o ↦ (let u = rw o at (p.tried z (omega arith)) in rw o (omega (arith, u, grows i here)))
          | no o ↦ rw (other (node z) o) (p.tried z (omega arith))
        ]
      ];
      room = λ b h.
          let e : b + (x + 1) ≡ suc b + x = omega arith in
          room_raise s t b step (p.room (suc b) (rw e at h));
    }

    -- a node that stays
    pub sweep_stays : raised s n (times_of departs) i ≡ get_or departs i 0 → Swept s n l D node (x + 1) departs
    sweep_stays e = let q : after ≡ departs = ap (set departs i) e ∙ set-get_or departs i 0 in rw q at sweep_more

  -- places: where a node was raised none rests yet; where it stays it rests too
  pub sweep_start : {node : ℕ → ℕ} {departs : List ℕ} {start : ℕ} → start ≤ l → length departs ≡ NODES → Rested s n (times_of departs) node start →
      Sweep s n l (times_of departs) node start departs l
  sweep_start few e rested = record {
    swept = sweep_none e rested;
    rests = λ z h k. let o : ⊥ = omega arith in absurd o;
    same = λ h j k. refl;
  }

  module _ {D node : ℕ → ℕ} {x : ℕ} {departs next : List ℕ} {last : ℕ} (p : Sweep s n l D node x departs last) (here : node x < l) (more : x < l)
      (ranged : Ranged l (times_of departs)) where
    pub sweep_rises : Lifted s n (node x) departs true next → Sweep s n l D node (x + 1) next x
    sweep_rises h = rw h.stored (record {
      swept = sweep_more p.swept here ranged;
      rests = λ z k o. let e : ⊥ = omega arith in absurd e;
      same = λ k. let e : ⊥ = omega arith in absurd e;
    })

    pub sweep_rests : Lifted s n (node x) departs false next → Sweep s n l D node (x + 1) next last
    sweep_rests h =
        let e = h.stays refl in
        let q : next ≡ departs = h.stored ∙ ap (set departs (node x)) e ∙ set-get_or departs (node x) 0 in
        rw q (record {
          swept = sweep_stays p.swept here ranged e;
          rests = λ z k o. elim (ℕ_discrete z x) [ yes q ↦ rw q e | no q ↦ p.rests z k (omega arith) ];
          same = p.same;
        })

  -- the pass that goes back starts at the last place that was raised
  pub sweep_back : (forth : Bool) {D : ℕ → ℕ} {departs : List ℕ} {last : ℕ} → last < l → Sweep s n l D (to_or_fro forth l) l departs last →
      Rested s n (times_of departs) (to_or_fro (not forth) l) (l - 1 - last)
  sweep_back true h p z k = p.rests (l - 1 - z) (omega arith) (omega arith)
  sweep_back false h p z k =
      let e : l - 1 - (l - 1 - z) ≡ z = omega arith in rw e at (p.rests (l - 1 - z) (omega arith) (omega arith))

  -- a pass over all nodes that raised none
  pub sweep_still : {D node : ℕ → ℕ} {departs : List ℕ} → Order l node → Swept s n l D node l departs → Unmoved l D (times_of departs) →
      Still s n l (times_of departs)
  sweep_still {D} {departs = departs} order p same = raised_still s t.shaped D (times_of departs) same (λ j h.
      let o = order.all j h in rw o.2 at (p.tried o.0 o.1))

  -- passes that note parents
  pub passing_none : {node : ℕ → ℕ} {departs parents : List ℕ} → length departs ≡ NODES → length parents ≡ NODES →
      Passing s n l (times_of departs) (times_of parents) node 0 departs parents l
  passing_none e f = record {
    swept = sweep_none e (λ z k. let o : ⊥ = omega arith in absurd o);
    long = f;
    course = λ base c. c;
    rose = λ k. let o : ⊥ = omega arith in absurd o;
    same = λ k j h. refl;
  }

  module _ {D P node : ℕ → ℕ} {x : ℕ} {departs parents : List ℕ} {last : ℕ} (p : Passing s n l D P node x departs parents last) (here : node x < l)
      (ranged : Ranged l (times_of departs)) where
    pub passing_stays : raised s n (times_of departs) (node x) ≡ get_or departs (node x) 0 → Passing s n l D P node (x + 1) departs parents last
    passing_stays e = record {
      swept = sweep_stays p.swept here ranged e;
      long = p.long;
      course = p.course;
      rose = p.rose;
      same = p.same;
    }

    module _ {a : ℕ} (up : get_or departs (node x) 0 < raised s n (times_of departs) (node x))
        (d : Brings n.arcs (times_of departs) (n.first (node x)) (n.first (node x + 1)) (arrival_n s n (times_of departs) (node x)) a) where
      abbrev lifted : List ℕ
      lifted = set departs (node x) (raised s n (times_of departs) (node x))

      pub passing_rises : Passing s n l D P node (x + 1) lifted (set parents (node x) a) (node x)
      passing_rises =
          let g = step p.swept here ranged in
          let room : node x < length parents = omega (arith, here, t.shaped.nodes, p.long) in
          record {
            swept = sweep_more p.swept here ranged;
            long = length-set parents (node x) a ∙ p.long;
            course = λ base c. let k = p.course base c in record {
              raises = suc k.raises;
              stamps = _;
              parented = parented_more t.shaped k.stamps k.raises parents a g up
                  d.above d.below d.brings ranged room k.parented;
            };
            rose = λ k. rw g.new (omega (arith, p.swept.later (node x) here, up));
            same = λ k. let o : ⊥ = omega (arith, here) in absurd o;
          }
