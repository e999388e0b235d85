-- One text after the other on a page, and the room that is left.
use mathlib.Core.Path.{◌≡◌, refl, sym, ap, subst, ◌∙◌}
use mathlib.Core.List.{List, [], ◌∷◌, ◌++◌, append_assoc, append-nil}
use Prim.Native.Nat.{ℕ, zero, suc, ◌+◌, ◌-◌, ◌^◌, ◌≤◌, ◌<◌}
use native.Mathlib.Omega.{arith}
use lib.IntN.{ℤ}
use lib.ListN.{length, take, drop, length-append, length-drop}
use Rattle.std.specs.Borrow.{GName}
use Rattle.std.specs.Fmt.{decimal}
use Rattle.std.proofs.lemmas.List.{length-take-le, take-append-drop, take_at, drop_at, drop-drop}
use mir.Syntax.{w64}
use mir.Val.{SFits}
use Rattle.ticks.proofs.Words.{worded, word_is}
use Rattle.report.specs.Decimal.{digits}
use Rattle.report.specs.Text.{each, arc_line}
use Rattle.report.specs.Inside.Page.{Sheet, ◌then◌}
use Rattle.image.proofs.Lists.{sets_append}
use Rattle.report.proofs.Signs.{digits_printed}
use Rattle.report.specs.Inside.Written.{Wrote, AtFront, joined, lengths}

-- two texts, one after the other, in a buffer
pub wrote_then : {xs ys before between after : List ℕ} {at middle next : ℕ} →
    Wrote xs before at between middle → Wrote ys between middle after next → Wrote (xs ++ ys) before at after next
wrote_then {xs} {ys} {before} {at = at} v w = record {
  stored = w.stored ∙ rw (v.stored, v.ends) (sym (sets_append xs ys before at));
  ends = rw (length-append xs ys) (omega (arith, v.ends, w.ends));
}

-- the same on a page
pub sheet_then : (p : Sheet) (xs ys : List ℕ) {q r : Sheet} → q ≡ p then xs → r ≡ q then ys → r ≡ p then (xs ++ ys)
sheet_then p xs ys v w =
    w ∙ ap (λ (s : Sheet). s then ys) v ∙ rw (append_assoc p.words xs ys, drop-drop (length ys) (length xs) p.rest, length-append xs ys) refl

-- words put where a page ends, up to the place that its end is then moved to
pub placed : (old new words : List ℕ) (end count start : ℕ) (buffer : GName) {stop : ℕ} → count ≡ length words → end + count ≤ length old → start + length words ≡ stop →
    drop start new ≡ words ++ drop stop old → take start new ≡ take start old → stop ≡ end + count →
    ◌≡◌ {A = Sheet} (record { words = take (end + count) new; rest = drop (end + count) new; buffer = buffer })
    (record { words = take end old; rest = drop end old; buffer = buffer } then words)
placed old new words end count start buffer {stop} long fits starts after before stops =
    let here : start ≡ end = omega (arith, long, starts, stops) in
    let front : take end new ≡ take end old = rw here at before in
    let back : drop end new ≡ words ++ drop (end + count) old = rw (here, stops) at after in
    let reach : length (take end old ++ words) ≡ end + count = rw length-append (omega (arith, length-take-le end old (omega (arith, fits)), long)) in
    let all : new ≡ (take end old ++ words) ++ drop (end + count) old =
    sym (take-append-drop end new) ∙ rw (front, back) (sym (append_assoc (take end old) words (drop (end + count) old))) in
    let words_are : take (end + count) new ≡ take end old ++ words = ap (take (end + count)) all ∙ take_at (take end old ++ words) (drop (end + count) old) (end + count) reach in
    let rest_is : drop (end + count) new ≡ drop (length words) (drop end old) =
    ap (drop (end + count)) all ∙ drop_at (take end old ++ words) (drop (end + count) old) (end + count) reach ∙ rw (drop-drop (length words) end old, long) refl in
    rw (words_are, rest_is) refl

-- a number's digits between the end of a page and the place that its end is then moved to. What is counted and what is written are only known to be
-- equal to the number, so that another number is refused for what it is, and not for its form.
pub digits_fit : (n end : ℕ) {some all count stop room long : ℕ} → n < 2 ^ 64 → count ≡ length (digits some) → length (digits n) ≤ room →
    end + room ≡ long → some ≡ n → all ≡ n → stop ≡ end + count → (length (decimal all) ≤ stop) × (stop ≤ long)
digits_fit n end small counted fits whole e f stops =
    rw (f, ← digits_printed n small) (omega (arith, rw e at counted, fits, whole, stops))

pub digits_placed : (n : ℕ) (old new : List ℕ) (end count start : ℕ) (buffer : GName) {some all stop : ℕ} → n < 2 ^ 64 → count ≡ length (digits some) →
    end + length (digits n) ≤ length old → start + length (decimal all) ≡ stop → drop start new ≡ decimal all ++ drop stop old → take start new ≡ take start old →
    some ≡ n → all ≡ n → stop ≡ end + count →
    ◌≡◌ {A = Sheet} (record { words = take (end + count) new; rest = drop (end + count) new; buffer = buffer })
    (record { words = take end old; rest = drop end old; buffer = buffer } then digits n)
digits_placed n old new end count start buffer small counted fits starts after before e f stops =
    let long = rw e at counted in
    let same = digits_printed n small in
    rw same (placed old new (decimal n) end count start buffer (rw same at long) (omega (arith, long, fits)) (rw f at starts) (rw f at after) before stops)

-- a signed number in a word of the machine is written as the number itself
pub word_wrote : (text : ℤ → List ℕ) (z : ℤ) (p : Sheet) {q : Sheet} → SFits w64 z → q ≡ p then text (worded z) → q ≡ p then text z
word_wrote text z p {q} f w = subst (λ (y : ℤ). q ≡ p then text y) (word_is z f) w

-- pieces are as long as all of them
pub joined_long : (pieces : List (List ℕ)) → length (joined pieces) ≡ lengths pieces
joined_long [] = refl
joined_long (piece ∷ pieces) = omega (arith, length-append piece (joined pieces), joined_long pieces)

-- pieces follow one another on a page
pub data Steps : Sheet → List (List ℕ) → Sheet → Type 0 where
  last : {p : Sheet} → Steps p [] p
  step : {p m q : Sheet} {piece : List ℕ} {pieces : List (List ℕ)} → m ≡ p then piece → Steps m pieces q → Steps p (piece ∷ pieces) q

steps_joined : {pieces : List (List ℕ)} {p q : Sheet} → Steps p pieces q → q ≡ p then joined pieces
steps_joined (last {p}) = rw append-nil refl
steps_joined (step {p} {piece = piece} {pieces} e s) = sheet_then p piece (joined pieces) e (steps_joined s)

-- the buffer had no more room than they take and the page still has
pub steps_room : {pieces : List (List ℕ)} {p q : Sheet} {before : List ℕ} {buffer : GName} →
    p ≡ record { words = []; rest = before; buffer = buffer } → Steps p pieces q → length before ≤ lengths pieces + length q.rest
steps_room {pieces} {before = before} e s =
    let told = steps_joined s ∙ ap (λ (s : Sheet). s then joined pieces) e in
    omega (arith, joined_long pieces, length-drop (length (joined pieces)) before, ap (λ (s : Sheet). length s.rest) told)

-- from the front on, in the buffer that the page was made of
pub steps_told : {pieces : List (List ℕ)} {p q : Sheet} {before after left : List ℕ} {size : ℕ} {buffer : GName} →
    p ≡ record { words = []; rest = before; buffer = buffer } → Steps p pieces q → size ≡ length q.words → left ≡ q.words ++ q.rest →
    (buffer ≡ q.buffer → after ≡ left) → AtFront (joined pieces) before size after
steps_told {pieces} {before = before} e s sized written kept =
    let told = steps_joined s ∙ ap (λ (s : Sheet). s then joined pieces) e in
    let size = sized ∙ ap (λ (s : Sheet). length s.words) told in
    let same = kept (sym (ap (λ (s : Sheet). s.buffer) told)) in
    record {
      sized = size;
      written = same ∙ written ∙ ap (λ (s : Sheet). s.words ++ s.rest) told ∙ ap (λ (n : ℕ). joined pieces ++ drop n before) (sym size);
    }

module _ (text : ℕ → List ℕ) where
  -- d more texts take no less room
  grows : (d i n : ℕ) → i + d ≡ n → length (each text i) ≤ length (each text n)
  unfolding each
  grows zero i n e = let k : i ≡ n = omega arith in rw k (omega arith)
  grows (suc d) i zero e = let z : ⊥ = omega arith in absurd z
  grows (suc d) i (suc n) e = rw (length-append (each text n) (text n)) (omega (arith, grows d i n (omega arith)))

  each_long : (i : ℕ) → length (each text (suc i)) ≡ length (each text i) + length (text i)
  unfolding each
  each_long i = length-append (each text i) (text i)

  -- where there is room for all n, there is for the one after the first i
  pub each_room : (p : Sheet) (i n : ℕ) {q : Sheet} → i < n → length (each text n) ≤ length p.rest → q ≡ p then each text i → length (text i) ≤ length q.rest
  each_room p i n l h w =
      rw w (omega (arith, h, length-drop (length (each text i)) p.rest, grows (n - suc i) (suc i) n (omega arith), each_long i))

  -- one text more
  pub each_more : (p : Sheet) (i : ℕ) {q r : Sheet} → q ≡ p then each text i → r ≡ q then text i → r ≡ p then each text (suc i)
  unfolding each
  each_more p i v w = sheet_then p (each text i) (text i) v w

  -- none yet
  pub each_none : (p : Sheet) → p ≡ p then each text 0
  unfolding each
  each_none p = rw append-nil refl

-- the same of the lines of arcs, where those that are told are equal to them
pub arcs_room : (arcs : List ℕ) (p : Sheet) (i : ℕ) {told : List ℕ} {q : Sheet} → told ≡ arcs → i < length told →
    length (each (arc_line arcs) (length arcs)) ≤ length p.rest → q ≡ p then each (arc_line arcs) i → length (arc_line told i) ≤ length q.rest
arcs_room arcs p i e l h w = rw e (each_room (arc_line arcs) p i (length arcs) (rw (sym e) l) h w)

pub arcs_more : (arcs : List ℕ) (p : Sheet) (i : ℕ) {told : List ℕ} {q r : Sheet} → told ≡ arcs → q ≡ p then each (arc_line arcs) i →
    r ≡ q then arc_line told i → r ≡ p then each (arc_line arcs) (suc i)
arcs_more arcs p i e v w = each_more (arc_line arcs) p i v (rw e at w)
