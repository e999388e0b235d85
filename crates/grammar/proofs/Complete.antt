-- What stands on the grammar is read: the reader misses nothing. By recursion on what stands, with what follows it left open: a number ends
-- where no digit follows, and behind the parts of a row so far the reader is where it looks for the next one (`Reached`).
use mathlib.Core.Path.{◌≡◌, refl}
use mathlib.Core.Bool.{true, false}
use mathlib.Core.List.{List, [], ◌∷◌, ◌++◌, append_assoc}
use Prim.Native.Char.{code}
use Prim.Native.Nat.{ℕ, zero, suc, ◌+◌, ◌-◌, ◌*◌, ◌≤◌}
use native.Mathlib.Nat.{add-zero}
use native.Mathlib.Omega.{arith}
use lib.Dec.{eqb}
use lib.ListN.{length, drop, get_or, length-append}
use lib.Seq.{get_or-drop}
use borrow.Author.Tests.{lt-ltb, le-leb, eq-eqb, eqb-false}
use Rattle.std.specs.Prelude.{Some}
use Rattle.image.specs.Words.{byte_at}
use Rattle.grammar.specs.Numbers.{greatest, most_digits, digit, Digits, none, Number}
use Rattle.grammar.specs.Windows.{Window, Join, series, parallel, joined, between, Form, atom, row, expression, part, colon, opening, closing, deepest}
use Rattle.grammar.specs.Windows.{Means, ends, bracketed, one_part, Written}
use Rattle.grammar.specs.Lines.{space, ◌then◌, tc, phase, latch, flop, arc, latch_kind, flop_kind, Says, cycle, a_phase, a_synchronizer, an_arc}
use Rattle.grammar.specs.Text.{line_feed}
use Rattle.grammar.specs.declared.read.Span.{Span}
use Rattle.grammar.specs.declared.read.Line.{Line}
use Rattle.grammar.specs.declared.read.Line.TheVariants.{Cycle, Phase, Synchronizer, Arc}
use Rattle.grammar.specs.Inside.Reader.{and_then, behind, behind_all, word_at, is_digit, longer, digits_at, number_at, field_at}
use Rattle.grammar.specs.Inside.Reader.{ends_at, joined_span, closed_at, enough, window_at, cycle_at, phase_at, synchronizer_at, arc_at, line_at}
use Rattle.grammar.proofs.Places.{byte_first, inside, past, behind_other}
use Rattle.grammar.proofs.Rows.{Is, Reached, reached_first, reached_more, reached_end, atom_ends, atom_bracketed}

-- the byte at a place is the first of what is left, and 0 at the end
pub byte_left : (bytes rest : List ℕ) (at : ℕ) → drop at bytes ≡ rest → byte_at bytes at ≡ get_or rest 0 0
byte_left bytes rest at e = rw (← e, get_or-drop at bytes 0 0, add-zero at) refl

-- a byte that stands there is found
pub behind_complete : (bytes rest : List ℕ) (at c : ℕ) → drop at bytes ≡ c ∷ rest → behind bytes at c ≡ Some (at + 1)
unfolding behind
behind_complete bytes rest at c e =
    rw (byte_first bytes rest at c e, lt-ltb at (length bytes) (inside bytes rest at c e), eq-eqb c c refl) refl

-- ---- numbers
-- digits behind those of v make no lesser number
digits_up : {v n : ℕ} {s : List ℕ} → Digits v s n → v ≤ n
digits_up none = omega arith
digits_up (Digits.one_more h r) = omega (arith, digits_up r)

digit_found : (d : ℕ) → d ≤ 9 → is_digit (digit d) ≡ true
digit_found d h = rw (le-leb (code "0") (digit d) (omega arith), le-leb (digit d) (code "9") (omega arith)) refl

-- behind the digits of v: those that are left, and no more
digits_complete : {v n : ℕ} {s : List ℕ} → Digits v s n → n ≤ greatest → (bytes rest : List ℕ) (most at : ℕ) → length s ≤ most →
    drop at bytes ≡ s ++ rest → is_digit (get_or rest 0 0) ≡ false → digits_at most bytes at v ≡ Some (record { value = n; next = at + length s })
unfolding digits_at
digits_complete none l bytes rest zero at h e free = rw (add-zero at) refl
digits_complete none l bytes rest (suc most) at h e free = rw (byte_left bytes rest at e, free, add-zero at) refl
digits_complete (Digits.one_more {v} {d} {n} {s} k r) l bytes rest zero at h e free = let no : ⊥ = omega arith in absurd no
digits_complete (Digits.one_more {v} {d} {n} {s} k r) l bytes rest (suc most) at h e free =
    let same : longer v (digit d) ≡ 10 * v + d = omega arith in
    let fits : 10 * v + d ≤ greatest = omega (arith, digits_up r) in
    let place : at + 1 + length s ≡ at + suc (length s) = omega arith in
    let next = past bytes (digit d ∷ []) (s ++ rest) at e in
    rw (byte_first bytes (s ++ rest) at (digit d) e, digit_found d k, same, le-leb (10 * v + d) greatest fits, ← place)
    (digits_complete r l bytes rest most (at + 1) (omega arith) next free)

-- where digits stand, the first byte is one
digits_first : {v n : ℕ} {s : List ℕ} → Digits v s n → (bytes rest : List ℕ) (at : ℕ) → 1 ≤ length s → drop at bytes ≡ s ++ rest →
    is_digit (byte_at bytes at) ≡ true
digits_first none bytes rest at h e = let no : ⊥ = omega arith in absurd no
digits_first (Digits.one_more {d = d} {s = s} k r) bytes rest at h e = rw (byte_first bytes (s ++ rest) at (digit d) e) (digit_found d k)

-- a number that stands there, with no digit behind it, is read
pub number_complete : (bytes s rest : List ℕ) (at n : ℕ) → Number s n → drop at bytes ≡ s ++ rest → is_digit (get_or rest 0 0) ≡ false →
    number_at bytes at ≡ Some (record { value = n; next = at + length s })
unfolding number_at
number_complete bytes s rest at n m e free = rw (digits_first m.digits bytes rest at m.some e)
    (digits_complete m.digits m.small bytes rest most_digits at m.few e free)

-- a number and the byte behind it
pub field_complete : (bytes s rest : List ℕ) (at n c : ℕ) → Number s n → is_digit c ≡ false → drop at bytes ≡ s ++ (c ∷ rest) →
    field_at bytes at c ≡ Some (record { value = n; next = at + length s + 1 })
unfolding field_at and_then
field_complete bytes s rest at n c m free e =
    rw (number_complete bytes s (c ∷ rest) at n m e free, behind_complete bytes rest (at + length s) c (past bytes s (c ∷ rest) at e)) refl

-- what is left behind a part and the byte that ends it
pub beyond : (bytes s rest : List ℕ) (at c : ℕ) → drop at bytes ≡ s ++ (c ∷ rest) → drop (at + length s + 1) bytes ≡ rest
beyond bytes s rest at c e = past bytes (c ∷ []) rest (at + length s) (past bytes s (c ∷ rest) at e)

-- ---- windows
-- no window is inside out
pub means_order : {form : Form} {depth : ℕ} {s : List ℕ} {w : Window} → Means form depth s w → w.low ≤ w.high
means_order (ends m n h) = h
means_order (bracketed m) = means_order m
means_order (one_part m) = means_order m
means_order (Means.one_more {j = series} m n) = omega (arith, means_order m, means_order n)
means_order (Means.one_more {j = parallel} m n) = omega (arith, means_order m, means_order n)

-- `+` and `|` never make a high smaller
pub high_up : (j : Join) (v w : Window) → (v.high ≤ (joined j v w).high) × (w.high ≤ (joined j v w).high)
high_up series v w = (omega arith, omega arith)
high_up parallel v w = (omega arith, omega arith)

-- what may stand behind a whole form: a byte that does not belong to it
abbrev Ends : Form → ℕ → Type 0
Ends atom c = is_digit c ≡ false
Ends (row series) c = (is_digit c ≡ false) × (eqb c (between series) ≡ false)
Ends (row parallel) c = (is_digit c ≡ false) × (eqb c (between series) ≡ false) × (eqb c (between parallel) ≡ false)

-- a row ends where its last part does and no further one follows
stops : (j : Join) (c : ℕ) → Ends (row j) c → (Ends (part j) c) × (c ≡ between j → ⊥)
stops series c h = (h.0, eqb-false c (between series) h.1)
stops parallel c h = ((h.0, h.1), eqb-false c (between parallel) h.2)

-- a part ends where the next one follows
part_ends : (j : Join) → Ends (part j) (between j)
part_ends series = refl
part_ends parallel = (refl, refl)

-- the window w, and the place behind it
abbrev pub span : Window → ℕ → Span
span w next = record { low = w.low; high = w.high; next = next }

-- a join within the limit is kept
joins : (j : Join) (v w : Window) (a b : ℕ) → v.low ≤ v.high → w.low ≤ w.high → (joined j v w).high ≤ greatest →
    joined_span j (span v a) (span w b) ≡ Some (span (joined j v w) b)
unfolding joined_span
joins series v w a b h k l =
    rw (le-leb (v.low + w.low) greatest (omega arith), le-leb (v.high + w.high) greatest (omega arith)) refl
joins parallel v w a b h k l = refl

-- LO:HI
ends_complete : {s t : List ℕ} {lo hi : ℕ} → Number s lo → Number t hi → lo ≤ hi → (depth : ℕ) (bytes rest : List ℕ) (at : ℕ) →
    drop at bytes ≡ s ++ (colon ∷ (t ++ rest)) → is_digit (get_or rest 0 0) ≡ false →
    Is atom depth bytes at (Some (record { low = lo; high = hi; next = at + length s + 1 + length t }))
unfolding ends_at and_then
ends_complete {s} {t} {lo} {hi} m n l depth bytes rest at e free = rw (← read) (atom_ends depth bytes at (behind_other bytes at opening no_bracket))
  where
    no_bracket : byte_at bytes at ≡ opening → ⊥
    no_bracket k =
        let found = digits_first m.digits bytes (colon ∷ (t ++ rest)) at m.some e in
        let z : is_digit opening ≡ true = rw k at found in
        let y : ◌≡◌ {A = ℕ} 0 1 = cc in
        omega arith

    read : ends_at bytes at ≡ Some (record { low = lo; high = hi; next = at + length s + 1 + length t })
    read = rw (
      field_complete bytes s (t ++ rest) at lo colon m refl e,
      number_complete bytes t rest (at + length s + 1) hi n (beyond bytes s (t ++ rest) at colon e) free,
      le-leb lo hi l,
    ) refl

-- what the recursion shows: an atom is read whole, and a row so far that the next part is looked for
abbrev SoFar : Form → ℕ → List ℕ → ℕ → Span → Type 0
SoFar atom depth bytes at w = Is atom depth bytes at (Some w)
SoFar (row j) depth bytes at w = Reached j depth bytes at w

-- for that, nothing may follow that belongs to the last part
abbrev last : Form → Form
last atom = atom
last (row j) = part j

-- where nothing follows that belongs to it, a form is read whole
whole : (form : Form) (depth : ℕ) (bytes s rest : List ℕ) (at : ℕ) (w : Window) → drop at bytes ≡ s ++ rest → Ends form (get_or rest 0 0) →
    (Ends (last form) (get_or rest 0 0) → SoFar form depth bytes at (span w (at + length s))) → Is form depth bytes at (Some (span w (at + length s)))
whole atom depth bytes s rest at w e free r = r free
whole (row j) depth bytes s rest at w e free r =
    let c = stops j (get_or rest 0 0) free in
    let byte = byte_left bytes rest (at + length s) (past bytes s rest at e) in
    reached_end j depth bytes at (span w (at + length s)) (r c.0) (behind_other bytes (at + length s) (between j) (rw byte c.1))

-- what has a form, with an end within the limit, is read so far
so_far : {form : Form} {depth : ℕ} {s : List ℕ} {w : Window} → Means form depth s w → w.high ≤ greatest → (bytes rest : List ℕ) (at : ℕ) →
    drop at bytes ≡ s ++ rest → Ends (last form) (get_or rest 0 0) → SoFar form depth bytes at (span w (at + length s))
unfolding closed_at and_then
so_far (ends {depth} {lo} {hi} {s} {t} m n l) h bytes rest at e free =
    let place : at + length s + 1 + length t ≡ at + length (s ++ (colon ∷ t)) = omega (arith, length-append s (colon ∷ t)) in
    rw (← place) (ends_complete m n l depth bytes rest at (rw append_assoc at e) free)
so_far (bracketed {depth} {s} {w} m) h bytes rest at e free =
    let here : drop at bytes ≡ opening ∷ (s ++ (closing ∷ rest)) = rw append_assoc at e in
    let next = past bytes (opening ∷ []) (s ++ (closing ∷ rest)) at here in
    let place : at + 1 + length s + 1 ≡ at + length (opening ∷ (s ++ (closing ∷ []))) = omega (arith, length-append s (closing ∷ [])) in
    let less : suc depth - 1 ≡ depth = omega arith in
    let opens = behind_complete bytes _ at opening here in
    let held = whole expression depth bytes s (closing ∷ rest) (at + 1) w next (refl, refl, refl) (λ c. so_far m h bytes (closing ∷ rest) (at + 1) next c) in
    let found = behind_complete bytes rest (at + 1 + length s) closing (past bytes s (closing ∷ rest) (at + 1) next) in
    rw (← place) λ f k. rw found at
    (atom_bracketed (suc depth) bytes at (at + 1) (Some (span w (at + 1 + length s))) (λ k. omega arith) opens (rw less held) f k)
so_far (one_part {j} {depth} {s} {w} m) h bytes rest at e free =
    reached_first j depth bytes at (span w (at + length s)) (whole (part j) depth bytes s rest at w e free (λ c. so_far m h bytes rest at e c))
so_far (Means.one_more {j} {depth} {s} {t} {v} {w} m n) h bytes rest at e free =
    let here : drop at bytes ≡ s ++ (between j ∷ (t ++ rest)) = rw append_assoc at e in
    let step = past bytes s (between j ∷ (t ++ rest)) at here in
    let next = beyond bytes s (t ++ rest) at (between j) here in
    let place : at + length s + 1 + length t ≡ at + length (s ++ (between j ∷ t)) = omega (arith, length-append s (between j ∷ t)) in
    let same = joins j v w (at + length s) (at + length s + 1 + length t) (means_order m) (means_order n) h in
    let a : v.high ≤ greatest = omega (arith, (high_up j v w).0) in
    let b : w.high ≤ greatest = omega (arith, (high_up j v w).1) in
    rw (← place)
    (reached_more j depth bytes at (at + length s + 1) (span v (at + length s)) (span w (at + length s + 1 + length t)) (span (joined j v w) (at + length s + 1 + length t))
    (so_far m a bytes (between j ∷ (t ++ rest)) at here (part_ends j)) (behind_complete bytes _ (at + length s) (between j) step)
    (whole (part j) depth bytes t rest (at + length s + 1) w next free (λ c. so_far n b bytes rest (at + length s + 1) next c)) same).0

-- a window, to the end of its line
pub window_complete : (bytes s rest : List ℕ) (at : ℕ) (w : Window) → Written s w → drop at bytes ≡ s ++ (line_feed ∷ rest) →
    window_at bytes at ≡ Some (span w (at + length s + 1))
unfolding window_at closed_at and_then
window_complete bytes s rest at w m e =
    let is = whole expression deepest bytes s (line_feed ∷ rest) at w e (refl, refl, refl) (so_far m.means m.small bytes (line_feed ∷ rest) at e) in
    rw (
      ← is (enough expression bytes at) (omega arith),
      behind_complete bytes rest (at + length s) line_feed (past bytes s (line_feed ∷ rest) at e),
    ) refl

-- ---- lines
-- a word that stands there is found
word_complete : (word bytes rest : List ℕ) (at : ℕ) → drop at bytes ≡ word ++ rest → behind_all word bytes at ≡ Some (at + length word)
unfolding and_then
word_complete [] bytes rest at e = rw (add-zero at) refl
word_complete (c ∷ word) bytes rest at e =
    let place : at + 1 + length word ≡ at + suc (length word) = omega arith in
    rw (behind_complete bytes (word ++ rest) at c e, ← place) (word_complete word bytes rest (at + 1) (past bytes (c ∷ []) (word ++ rest) at e))

-- the place behind a word and its space
opens : (word bytes rest : List ℕ) (at : ℕ) → drop at bytes ≡ word ++ (space ∷ rest) → word_at word bytes at ≡ Some (at + length word + 1)
unfolding word_at and_then
opens word bytes rest at e = rw (word_complete word bytes (space ∷ rest) at e)
    (behind_complete bytes rest (at + length word) space (past bytes word (space ∷ rest) at e))

-- each kind of line, with its fields in right-nested form
module _ (bytes rest : List ℕ) (at : ℕ) where
  cycle_complete : {s : List ℕ} {n : ℕ} → Number s n → drop at bytes ≡ tc ++ (space ∷ (s ++ (line_feed ∷ rest))) →
      cycle_at bytes at ≡ Some (record { line = Cycle n; next = at + length (tc then s) + 1 })
  unfolding cycle_at and_then
  cycle_complete {s} {n} m e =
      let place : at + length tc + 1 + length s + 1 ≡ at + length (tc then s) + 1 = omega arith in
      rw (opens tc bytes _ at e, field_complete bytes s rest _ n line_feed m refl (beyond bytes tc _ at space e), place) refl

  phase_complete : {s t : List ℕ} {n a : ℕ} → Number s n → Number t a →
      drop at bytes ≡ phase ++ (space ∷ (s ++ (space ∷ (t ++ (line_feed ∷ rest))))) →
      phase_at bytes at ≡ Some (record { line = Phase (record { closing = n; active = a }); next = at + length (phase then s then t) + 1 })
  unfolding phase_at and_then
  phase_complete {s} {t} {n} {a} m k e₀ =
      let place : at + length phase + 1 + length s + 1 + length t + 1 ≡ at + length (phase then s then t) + 1 = omega (arith, length-append s (space ∷ t)) in
      let e₁ = beyond bytes phase _ at space e₀ in
      let e₂ = beyond bytes s _ _ space e₁ in
      rw (opens phase bytes _ at e₀, field_complete bytes s _ _ n space m refl e₁, field_complete bytes t rest _ a line_feed k refl e₂, place) refl

  synchronizer_complete : {s t u x : List ℕ} {p setup hold : ℕ} {w : Window} (name : List ℕ) (kind : ℕ) →
      Number s p → Number t setup → Number u hold → Written x w →
      drop at bytes ≡ name ++ (space ∷ (s ++ (space ∷ (t ++ (space ∷ (u ++ (space ∷ (x ++ (line_feed ∷ rest))))))))) →
      synchronizer_at kind name bytes at ≡ Some (record {
        line = Synchronizer (record { phase = p; kind = kind; setup = setup; hold = hold; least = w.low; greatest = w.high });
        next = at + length (name then s then t then u then x) + 1;
      })
  unfolding synchronizer_at and_then
  synchronizer_complete {s} {t} {u} {x} {p} {setup} {hold} {w} name kind m n o v e₀ =
      let place : at + length name + 1 + length s + 1 + length t + 1 + length u + 1 + length x + 1 ≡ at + length (name then s then t then u then x) + 1 =
      simp length-append (omega arith) in
      let at₁ : ℕ = at + length name + 1 in
      let at₂ : ℕ = at₁ + length s + 1 in
      let e₁ = beyond bytes name _ at space e₀ in
      let e₂ = beyond bytes s _ at₁ space e₁ in
      let e₃ = beyond bytes t _ at₂ space e₂ in
      let e₄ = beyond bytes u _ _ space e₃ in
      rw (
        opens name bytes _ at e₀,
        field_complete bytes s _ at₁ p space m refl e₁,
        field_complete bytes t _ at₂ setup space n refl e₂,
        field_complete bytes u _ _ hold space o refl e₃,
        window_complete bytes x rest _ w v e₄,
        place,
      ) refl

  arc_complete : {s t x : List ℕ} {from to : ℕ} {w : Window} → Number s from → Number t to → Written x w →
      drop at bytes ≡ arc ++ (space ∷ (s ++ (space ∷ (t ++ (space ∷ (x ++ (line_feed ∷ rest))))))) →
      arc_at bytes at ≡ Some (record {
        line = Arc (record { from = from; to = to; least = w.low; greatest = w.high });
        next = at + length (arc then s then t then x) + 1;
      })
  unfolding arc_at and_then
  arc_complete {s} {t} {x} {from} {to} {w} m n v e₀ =
      let place : at + length arc + 1 + length s + 1 + length t + 1 + length x + 1 ≡ at + length (arc then s then t then x) + 1 =
      simp length-append (omega arith) in
      let at₁ : ℕ = at + length arc + 1 in
      let e₁ = beyond bytes arc _ at space e₀ in
      let e₂ = beyond bytes s _ at₁ space e₁ in
      let e₃ = beyond bytes t _ _ space e₂ in
      rw (
        opens arc bytes _ at e₀,
        field_complete bytes s _ at₁ from space m refl e₁,
        field_complete bytes t _ _ to space n refl e₂,
        window_complete bytes x rest _ w v e₃,
        place,
      ) refl

-- a line that stands there is read: its first byte tells its kind, and its fields follow
pub line_complete : (bytes s rest : List ℕ) (at : ℕ) (line : Line) → Says s line → drop at bytes ≡ s ++ (line_feed ∷ rest) →
    line_at bytes at ≡ Some (record { line = line; next = at + length s + 1 })
unfolding line_at
line_complete bytes s rest at line (cycle m) e = rw (byte_first bytes _ at (code "t") e) (cycle_complete bytes rest at m e)
line_complete bytes s rest at line (a_phase m n) e = rw (byte_first bytes _ at (code "p") e) (phase_complete bytes rest at m n (simp append_assoc at e))
line_complete bytes s rest at line (a_synchronizer latch_kind m n o v) e =
    rw (byte_first bytes _ at (code "l") e) (synchronizer_complete bytes rest at latch 0 m n o v (simp append_assoc at e))
line_complete bytes s rest at line (a_synchronizer flop_kind m n o v) e =
    rw (byte_first bytes _ at (code "f") e) (synchronizer_complete bytes rest at flop 1 m n o v (simp append_assoc at e))
line_complete bytes s rest at line (an_arc m n v) e = rw (byte_first bytes _ at (code "a") e) (arc_complete bytes rest at m n v (simp append_assoc at e))
