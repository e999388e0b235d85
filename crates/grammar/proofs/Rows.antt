-- Reading a row, a branch or an expression, part by part: what has been read so far is where the reader has come to (`Reached`). How much fuel
-- the reader was given does not matter, as long as it is enough. What stands on the grammar is read this way, and the loops of the code keep it.
use mathlib.Core.Path.{◌≡◌, refl, sym, ap, subst, ◌∙◌}
use mathlib.Core.List.{List}
use Prim.Native.Nat.{ℕ, zero, suc, ◌+◌, ◌-◌, ◌≤◌, ◌<◌}
use native.Mathlib.Omega.{arith}
use lib.ListN.{length}
use borrow.Author.Tests.{eq-eqb, ne_eqb}
use Rattle.std.specs.Prelude.{Option, None, Some}
use Rattle.std.proofs.lemmas.Grind.{common_steps}
use Rattle.image.specs.Words.{byte_at}
use Rattle.grammar.specs.Windows.{Join, series, parallel, Form, atom, row, part, between, opening, closing, expression}
use Rattle.grammar.specs.Inside.Reader.{and_then, ◌>>=◌, behind, ends_at, joined_span, closed_at, span_at, rest_at, floor, enough}
use Rattle.grammar.specs.declared.read.Span.{Span}
use Rattle.grammar.proofs.Places.{behind_found, behind_missed}
use Rattle.grammar.proofs.Sound.{Finds, holds, Spans, span_sound, spans_onward}

-- o is what is read of that form at a place, whatever fuel is enough
abbrev pub Is : Form → ℕ → List ℕ → ℕ → Option Span → Type 0
Is form depth bytes at o = (f : ℕ) → enough form bytes at ≤ f → o ≡ span_at f form depth bytes at

-- w has been read of a row, and fuel is left
pub record Left (j : Join) (depth : ℕ) (bytes : List ℕ) (w : Span) (whole : Option Span) : Type 0 where
  pub fuel : ℕ
  pub some : enough atom bytes w.next ≤ fuel
  pub same : whole ≡ rest_at fuel j depth bytes w

pub record Reached (j : Join) (depth : ℕ) (bytes : List ℕ) (at : ℕ) (w : Span) : Type 0 where
  pub onward : at ≤ w.next
  pub leads : (f : ℕ) → enough (row j) bytes at ≤ f → Left j depth bytes w (span_at f (row j) depth bytes at)

-- nothing is read backwards
pub is_onward : (form : Form) (depth : ℕ) (bytes : List ℕ) (at : ℕ) (w : Span) → Is form depth bytes at (Some w) → at < w.next
is_onward form depth bytes at w is =
    let f = enough form bytes at in
    spans_onward {form = form} {depth = depth} (holds (subst (Finds (Spans form depth bytes at)) (sym (is f (omega arith))) (span_sound f form depth bytes at)))

floor_part : (j : Join) → floor (row j) ≡ floor (part j) + 1
floor_part series = refl
floor_part parallel = refl

floor_some : (form : Form) → (1 ≤ floor form) × (floor form ≤ 3)
floor_some atom = omega arith
floor_some (row series) = omega arith
floor_some (row parallel) = omega arith

between_some : (j : Join) → 1 ≤ between j
between_some series = omega arith
between_some parallel = omega arith

floor_low : (j : Join) → floor (part j) ≤ 2
floor_low series = omega arith
floor_low parallel = omega arith

-- the first part of a row, and a row that has none
pub reached_first : (j : Join) (depth : ℕ) (bytes : List ℕ) (at : ℕ) (w : Span) → Is (part j) depth bytes at (Some w) → Reached j depth bytes at w
unfolding span_at and_then
reached_first j depth bytes at w is = record { onward = omega (arith, on); leads = leads }
  where
    on : at < w.next
    on = is_onward (part j) depth bytes at w is

    leads : (f : ℕ) → enough (row j) bytes at ≤ f → Left j depth bytes w (span_at f (row j) depth bytes at)
    leads zero e = let no : ⊥ = omega (arith, floor_some (row j)) in absurd no
    leads (suc f) e =
        let eq = is f (omega (arith, floor_part j, e)) in
        record {
          fuel = f;
          some = omega (arith, floor_part j, floor_some (part j), e, on);
          same = ap (λ o. o >>= rest_at f j depth bytes) (sym eq);
        }

pub none_first : (j : Join) (depth : ℕ) (bytes : List ℕ) (at : ℕ) → Is (part j) depth bytes at None → Is (row j) depth bytes at None
unfolding span_at and_then
none_first j depth bytes at is zero e = let no : ⊥ = omega (arith, floor_some (row j), e) in absurd no
none_first j depth bytes at is (suc f) e = ap (λ o. o >>= rest_at f j depth bytes) (is f (omega (arith, floor_part j, e)))

-- a joined window ends where its last part does
joined_next : (j : Join) (w v x : Span) → joined_span j w v ≡ Some x → x.next ≡ v.next
unfolding joined_span
joined_next series w v x e = grind (arith, common_steps, e)
joined_next parallel w v x e = grind (arith, common_steps, e)

-- a part more
pub reached_more : (j : Join) (depth : ℕ) (bytes : List ℕ) (at next : ℕ) (w v x : Span) → Reached j depth bytes at w →
    behind bytes w.next (between j) ≡ Some next → Is (part j) depth bytes next (Some v) → joined_span j w v ≡ Some x →
    Reached j depth bytes at x × (w.next < x.next)
unfolding span_at and_then
reached_more j depth bytes at next w v x reached found is joined =
    (record { onward = omega (arith, reached.onward, further); leads = λ f e. step f (reached.leads f e) }, further)
  where
    here : (w.next < length bytes) × (byte_at bytes w.next ≡ between j) × (next ≡ w.next + 1)
    here = behind_found bytes w.next (between j) next found

    further : w.next < x.next
    further = omega (arith, is_onward (part j) depth bytes next v is, joined_next j w v x joined, here.2)

    step : (f : ℕ) → Left j depth bytes w (span_at f (row j) depth bytes at) → Left j depth bytes x (span_at f (row j) depth bytes at)
    step f k = go k.fuel k.some k.same where
      go : (g : ℕ) → enough atom bytes w.next ≤ g → span_at f (row j) depth bytes at ≡ rest_at g j depth bytes w →
          Left j depth bytes x (span_at f (row j) depth bytes at)
      go zero e same = let no : ⊥ = omega (arith, e) in absurd no
      go (suc g) e same =
          let eq = is g (omega (arith, floor_low j, e, here)) in
          let same' = rw (eq-eqb (byte_at bytes w.next) (between j) here.1, ← here.2, ← eq, joined) at same in
          record { fuel = g; some = omega (arith, e, here.0, further); same = same' }

-- where the next part, or the window with it, is none, so is the row
pub none_more : (j : Join) (depth : ℕ) (bytes : List ℕ) (at next : ℕ) (w : Span) (o : Option Span) → Reached j depth bytes at w →
    behind bytes w.next (between j) ≡ Some next → Is (part j) depth bytes next o → (o >>= joined_span j w) ≡ None → Is (row j) depth bytes at None
unfolding span_at and_then
none_more j depth bytes at next w o reached found is none f e = go k.fuel k.some k.same
  where
    k : Left j depth bytes w (span_at f (row j) depth bytes at)
    k = reached.leads f e

    here : (w.next < length bytes) × (byte_at bytes w.next ≡ between j) × (next ≡ w.next + 1)
    here = behind_found bytes w.next (between j) next found

    lost : (g : ℕ) (p : Option Span) → (p >>= joined_span j w) ≡ None → None ≡ (p >>= λ v. joined_span j w v >>= rest_at g j depth bytes)
    lost g None n = refl
    lost g (Some v) n = ap (λ o. o >>= rest_at g j depth bytes) (sym n)

    go : (g : ℕ) → enough atom bytes w.next ≤ g → span_at f (row j) depth bytes at ≡ rest_at g j depth bytes w → None ≡ span_at f (row j) depth bytes at
    go zero e same = let no : ⊥ = omega (arith, e) in absurd no
    go (suc g) e same =
        let eq = is g (omega (arith, floor_low j, e, here)) in
        lost g o none ∙ sym (rw (eq-eqb (byte_at bytes w.next) (between j) here.1, ← here.2, ← eq) at same)

-- no part more
pub reached_end : (j : Join) (depth : ℕ) (bytes : List ℕ) (at : ℕ) (w : Span) → Reached j depth bytes at w → behind bytes w.next (between j) ≡ None →
    Is (row j) depth bytes at (Some w)
unfolding span_at
reached_end j depth bytes at w reached none f e = go k.fuel k.some k.same
  where
    k : Left j depth bytes w (span_at f (row j) depth bytes at)
    k = reached.leads f e

    other : byte_at bytes w.next ≡ between j → ⊥
    other = behind_missed bytes w.next (between j) none (between_some j)

    go : (g : ℕ) → enough atom bytes w.next ≤ g → span_at f (row j) depth bytes at ≡ rest_at g j depth bytes w → Some w ≡ span_at f (row j) depth bytes at
    go zero e same = let no : ⊥ = omega (arith, e) in absurd no
    go (suc g) e same = sym (rw (ne_eqb (byte_at bytes w.next) (between j) other) at same)

-- ---- an atom
pub atom_ends : (depth : ℕ) (bytes : List ℕ) (at : ℕ) → behind bytes at opening ≡ None → Is atom depth bytes at (ends_at bytes at)
unfolding span_at
atom_ends depth bytes at none zero e = let no : ⊥ = omega (arith, e) in absurd no
atom_ends depth bytes at none (suc f) e = rw (ne_eqb (byte_at bytes at) opening (behind_missed bytes at opening none (omega arith))) refl

pub atom_too_deep : (bytes : List ℕ) (at next : ℕ) → behind bytes at opening ≡ Some next → Is atom 0 bytes at None
unfolding span_at
atom_too_deep bytes at next found zero e = let no : ⊥ = omega (arith, e) in absurd no
atom_too_deep bytes at next found (suc f) e = rw (eq-eqb (byte_at bytes at) opening (behind_found bytes at opening next found).1) refl

pub atom_bracketed : (depth : ℕ) (bytes : List ℕ) (at next : ℕ) (o : Option Span) → (depth ≡ 0 → ⊥) → behind bytes at opening ≡ Some next →
    Is expression (depth - 1) bytes next o → Is atom depth bytes at (o >>= λ w. closed_at bytes w closing)
unfolding span_at
atom_bracketed depth bytes at next o some found is zero e = let no : ⊥ = omega (arith, e) in absurd no
atom_bracketed depth bytes at next o some found is (suc f) e =
    let here = behind_found bytes at opening next found in
    rw (eq-eqb (byte_at bytes at) opening here.1, ne_eqb depth 0 some, ← here.2)
    (ap (λ o. o >>= λ w. closed_at bytes w closing) (is f (omega (arith, e, here))))
