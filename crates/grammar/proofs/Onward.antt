-- A reader never goes back: the place behind what it read is later than the place it began at, and within the text. What it read is small. That it is
-- later and small follows from what stands there (Sound); that it is within the text, from the byte that was read last.
use mathlib.Core.Path.{◌≡◌, ap}
use mathlib.Core.Bool.{Bool, ◌&&◌}
use mathlib.Core.List.{List, [], ◌∷◌, ◌++◌}
use Prim.Native.Char.{code}
use Prim.Native.Nat.{ℕ, zero, suc, ◌+◌, ◌-◌, ◌≤◌, ◌<◌}
use native.Mathlib.Omega.{arith}
use lib.Dec.{ltb, leb, eqb}
use lib.ListN.{length, drop, length-append, length-drop}
use Rattle.std.specs.Prelude.{Option, None, Some, if◌then◌else◌}
use Rattle.std.proofs.lemmas.Bool.{cond_both, and_parts, ltb-true}
use Rattle.image.specs.Words.{byte_at}
use Rattle.grammar.specs.Numbers.{greatest, most_digits}
use Rattle.grammar.specs.Windows.{Window, Join, series, parallel, joined, Form, atom, row, expression, part, between, colon, opening, closing, deepest}
use Rattle.grammar.specs.Lines.{space, tc, phase, latch, flop, arc}
use Rattle.grammar.specs.Text.{line_feed}
use Rattle.grammar.specs.Inside.Reader.{behind, behind_all, is_digit, longer, digits_at, number_at, field_at}
use Rattle.grammar.specs.Inside.Reader.{ends_at, joined_span, closed_at, span_at, rest_at, enough, window_at}
use Rattle.grammar.specs.Inside.Reader.{cycle_at, phase_at, synchronizer_at, arc_at, line_at}
use Rattle.grammar.specs.declared.read.Number.{Number}
use Rattle.grammar.specs.declared.read.Span.{Span}
use Rattle.grammar.specs.declared.read.Read.{Read}
use Rattle.grammar.proofs.Places.{digit_inside}
use Rattle.grammar.proofs.Sound.{Finds, nothing, found, step, so, Ended, window, behind_sound, number_sound, field_sound, ends_sound, joined_sound, span_sound}
use Rattle.grammar.proofs.Sound.{window_sound, spaced_sound, line_sound, spans_onward}
use Rattle.grammar.proofs.Complete.{means_order}

-- bytes that stand from one place to the next, one at least
later : (bytes s : List ℕ) (at next : ℕ) → drop at bytes ≡ s ++ drop next bytes → 1 ≤ length s → at < next
later bytes s at next e some = omega (arith, ap length e, length-append s (drop next bytes), length-drop at bytes, length-drop next bytes, some)

ended_later : {P : List ℕ → Type 0} {bytes : List ℕ} {at c next : ℕ} → Ended P c bytes at next → at < next
ended_later {bytes = bytes} {at} {c} {next} t =
    omega (arith, ap length t.from, length-append t.s (c ∷ drop next bytes), length-drop at bytes, length-drop next bytes)

-- ---- a byte, a word
pub behind_onward : (bytes : List ℕ) (at c : ℕ) → Finds (λ next. at < next) (behind bytes at c)
behind_onward bytes at c = so (behind_sound bytes at c) (λ next e. later bytes (c ∷ []) at next e (omega arith))

-- a word may have no byte
pub word_onward : (word bytes : List ℕ) (at : ℕ) → Finds (λ next. at ≤ next) (behind_all word bytes at)
word_onward [] bytes at = found (omega arith)
word_onward (c ∷ word) bytes at = step (behind_onward bytes at c) (λ mid l. so (word_onward word bytes mid) (λ next k. omega (arith, l, k)))

-- ---- numbers
abbrev pub SmallNumber : ℕ → Number → Type 0
SmallNumber at n = (at < n.next) × (n.value ≤ greatest)

pub number_onward : (bytes : List ℕ) (at : ℕ) → Finds (SmallNumber at) (number_at bytes at)
number_onward bytes at = so (number_sound bytes at) (λ n t. (later bytes t.s at n.next t.from t.is.some, t.is.small))

pub field_onward : (bytes : List ℕ) (at c : ℕ) → Finds (SmallNumber at) (field_at bytes at c)
field_onward bytes at c = so (field_sound bytes at c) (λ n t. (ended_later t, t.is.small))

-- ---- windows: the ends in order, the higher at most `greatest`
abbrev pub Small : Span → Type 0
Small w = (w.low ≤ w.high) × (w.high ≤ greatest)

pub ends_onward : (bytes : List ℕ) (at : ℕ) → Finds (λ w. (at < w.next) × Small w) (ends_at bytes at)
ends_onward bytes at = so (ends_sound 0 bytes at) (λ w t. (spans_onward t, (means_order t.is.0, t.is.1)))

pub span_onward : (f : ℕ) (form : Form) (depth : ℕ) (bytes : List ℕ) (at : ℕ) → Finds (λ w. (at < w.next) × Small w) (span_at f form depth bytes at)
span_onward f form depth bytes at = so (span_sound f form depth bytes at) (λ w t. (spans_onward t, (means_order t.is.0, t.is.1)))

-- the row that goes on from a window
pub rest_onward : (f : ℕ) (j : Join) (depth : ℕ) (bytes : List ℕ) (w : Span) → Finds (λ v. w.next ≤ v.next) (rest_at f j depth bytes w)
unfolding rest_at
rest_onward zero j depth bytes w = nothing
rest_onward (suc f) j depth bytes w =
    cond_both (eqb (byte_at bytes w.next) (between j)) _ _ (Finds (λ v. w.next ≤ v.next))
    (λ e. step (span_onward f (part j) depth bytes (w.next + 1))
    (λ x l. step (joined_sound j w x (λ _ to. x.next ≤ to) (λ _. omega arith))
    (λ y k. so (rest_onward f j depth bytes y) (λ v m. omega (arith, l.0, k, m)))))
    (λ e. found (omega arith))

pub window_onward : (bytes : List ℕ) (at : ℕ) → Finds (λ w. (at < w.next) × Small w) (window_at bytes at)
window_onward bytes at = so (window_sound bytes at) (λ w t. (ended_later t, (means_order t.is.means, t.is.small)))

-- a window joined to a small one is small
joined_order : (j : Join) (v w : Window) → v.low ≤ v.high → w.low ≤ w.high → (joined j v w).low ≤ (joined j v w).high
joined_order series v w h k = omega arith
joined_order parallel v w h k = omega arith

pub joined_small : (j : Join) (v w : Span) → Small v → Small w → Finds Small (joined_span j v w)
joined_small j v w h k =
    joined_sound j v w (λ x _. (x.low ≤ x.high) × (x.high ≤ greatest)) (λ small. (joined_order j (window v) (window w) h.0 k.0, small h.1 k.1))

pub rest_small : (f : ℕ) (j : Join) (depth : ℕ) (bytes : List ℕ) (w : Span) → Small w → Finds Small (rest_at f j depth bytes w)
unfolding rest_at
rest_small zero j depth bytes w h = nothing
rest_small (suc f) j depth bytes w h =
    cond_both (eqb (byte_at bytes w.next) (between j)) _ _ (Finds Small)
    (λ e. step (span_onward f (part j) depth bytes (w.next + 1))
    (λ x l. step (joined_small j w x h l.1) (λ y k. rest_small f j depth bytes y k)))
    (λ e. found h)

-- ---- lines: a line takes a byte at least
pub line_onward : (bytes : List ℕ) (at : ℕ) → Finds (λ r. at < r.next) (line_at bytes at)
line_onward bytes at = so (line_sound bytes at) (λ r t. ended_later t)

-- ---- the place behind is within the text
pub behind_within : (bytes : List ℕ) (at c : ℕ) → Finds (λ next. next ≤ length bytes) (behind bytes at c)
unfolding behind
behind_within bytes at c =
    cond_both (ltb at (length bytes) && eqb (byte_at bytes at) c) (Some (at + 1)) None (Finds (λ next. next ≤ length bytes))
    (λ e. found (omega (arith, ltb-true at (length bytes) (and_parts (ltb at (length bytes)) (eqb (byte_at bytes at) c) e).0)))
    (λ e. nothing)

pub word_within : (word bytes : List ℕ) (at : ℕ) → at ≤ length bytes → Finds (λ next. next ≤ length bytes) (behind_all word bytes at)
word_within [] bytes at h = found h
word_within (c ∷ word) bytes at h = step (behind_within bytes at c) (λ mid l. word_within word bytes mid l)

digits_within : (more : ℕ) (bytes : List ℕ) (at v : ℕ) → at ≤ length bytes → Finds (λ n. n.next ≤ length bytes) (digits_at more bytes at v)
unfolding digits_at
digits_within zero bytes at v h = found h
digits_within (suc more) bytes at v h =
    cond_both (is_digit (byte_at bytes at)) _ _ (Finds (λ n. n.next ≤ length bytes))
    (λ e. cond_both (leb (longer v (byte_at bytes at)) greatest) _ _ (Finds (λ n. n.next ≤ length bytes))
    (λ g. digits_within more bytes (at + 1) (longer v (byte_at bytes at)) (omega (arith, digit_inside bytes at e)))
    (λ g. nothing))
    (λ e. found h)

pub number_within : (bytes : List ℕ) (at : ℕ) → Finds (λ n. n.next ≤ length bytes) (number_at bytes at)
unfolding number_at
number_within bytes at =
    cond_both (is_digit (byte_at bytes at)) (digits_at most_digits bytes at 0) None (Finds (λ n. n.next ≤ length bytes))
    (λ e. digits_within most_digits bytes at 0 (omega (arith, digit_inside bytes at e)))
    (λ e. nothing)

pub field_within : (bytes : List ℕ) (at c : ℕ) → Finds (λ n. n.next ≤ length bytes) (field_at bytes at c)
unfolding field_at
field_within bytes at c = step (number_within bytes at) (λ n _. step (behind_within bytes n.next c) (λ next l. found l))

ends_within : (bytes : List ℕ) (at : ℕ) → Finds (λ w. w.next ≤ length bytes) (ends_at bytes at)
unfolding ends_at
ends_within bytes at =
    step (field_within bytes at colon) λ lo _.
    step (number_within bytes lo.next) λ hi l.
    cond_both (leb lo.value hi.value) (Some (record { low = lo.value; high = hi.value; next = hi.next })) None (Finds (λ w. w.next ≤ length bytes))
    (λ e. found l)
    (λ e. nothing)

closed_within : (bytes : List ℕ) (w : Span) (c : ℕ) → Finds (λ v. v.next ≤ length bytes) (closed_at bytes w c)
unfolding closed_at
closed_within bytes w c = step (behind_within bytes w.next c) (λ next l. found l)

mutual
  unfolding span_at

  pub span_within : (f : ℕ) (form : Form) (depth : ℕ) (bytes : List ℕ) (at : ℕ) → Finds (λ w. w.next ≤ length bytes) (span_at f form depth bytes at)
  span_within zero form depth bytes at = nothing
  span_within (suc f) atom depth bytes at =
      cond_both (eqb (byte_at bytes at) opening) _ _ (Finds (λ w. w.next ≤ length bytes))
      (λ e. cond_both (eqb depth 0) _ _ (Finds (λ w. w.next ≤ length bytes)) (λ d. nothing)
      (λ d. step (span_within f expression (depth - 1) bytes (at + 1)) (λ w _. closed_within bytes w closing)))
      (λ e. ends_within bytes at)
  span_within (suc f) (row j) depth bytes at = step (span_within f (part j) depth bytes at) (λ w l. rest_within f j depth bytes w l)

  pub rest_within : (f : ℕ) (j : Join) (depth : ℕ) (bytes : List ℕ) (w : Span) → w.next ≤ length bytes →
      Finds (λ v. v.next ≤ length bytes) (rest_at f j depth bytes w)
  rest_within zero j depth bytes w h = nothing
  rest_within (suc f) j depth bytes w h =
      cond_both (eqb (byte_at bytes w.next) (between j)) _ _ (Finds (λ v. v.next ≤ length bytes))
      (λ e. step (span_within f (part j) depth bytes (w.next + 1))
      (λ x l. step (joined_sound j w x (λ _ to. to ≤ length bytes) (λ _. l)) (λ y m. rest_within f j depth bytes y m)))
      (λ e. found h)

pub window_within : (bytes : List ℕ) (at : ℕ) → Finds (λ w. w.next ≤ length bytes) (window_at bytes at)
unfolding window_at
window_within bytes at = step (span_within (enough expression bytes at) expression deepest bytes at) (λ w _. closed_within bytes w line_feed)

-- a line ends within the text
abbrev Within : List ℕ → Read → Type 0
Within bytes read = read.next ≤ length bytes

cycle_within : (bytes : List ℕ) (at : ℕ) → Finds (Within bytes) (cycle_at bytes at)
unfolding cycle_at
cycle_within bytes at =
    step (spaced_sound tc bytes at) λ p _.
    step (field_within bytes p line_feed) λ x l.
    found l

phase_within : (bytes : List ℕ) (at : ℕ) → Finds (Within bytes) (phase_at bytes at)
unfolding phase_at
phase_within bytes at =
    step (spaced_sound phase bytes at) λ p _.
    step (field_within bytes p space) λ x _.
    step (field_within bytes x.next line_feed) λ y l.
    found l

synchronizer_within : (kind : ℕ) (name bytes : List ℕ) (at : ℕ) → Finds (Within bytes) (synchronizer_at kind name bytes at)
unfolding synchronizer_at
synchronizer_within kind name bytes at =
    step (spaced_sound name bytes at) λ p _.
    step (field_within bytes p space) λ x _.
    step (field_within bytes x.next space) λ y _.
    step (field_within bytes y.next space) λ z _.
    step (window_within bytes z.next) λ w l.
    found l

arc_within : (bytes : List ℕ) (at : ℕ) → Finds (Within bytes) (arc_at bytes at)
unfolding arc_at
arc_within bytes at =
    step (spaced_sound arc bytes at) λ p _.
    step (field_within bytes p space) λ x _.
    step (field_within bytes x.next space) λ y _.
    step (window_within bytes y.next) λ w l.
    found l

pub line_within : (bytes : List ℕ) (at : ℕ) → Finds (Within bytes) (line_at bytes at)
unfolding line_at
line_within bytes at =
    either (eqb (byte_at bytes at) (code "t")) _ _ (cycle_within bytes at)
    (either (eqb (byte_at bytes at) (code "p")) _ _ (phase_within bytes at)
    (either (eqb (byte_at bytes at) (code "l")) _ _ (synchronizer_within 0 latch bytes at)
    (either (eqb (byte_at bytes at) (code "f")) _ _ (synchronizer_within 1 flop bytes at)
    (either (eqb (byte_at bytes at) (code "a")) _ _ (arc_within bytes at) nothing))))
  where
    either : (b : Bool) (x y : Option Read) → Finds (Within bytes) x → Finds (Within bytes) y → Finds (Within bytes) (if b then x else y)
    either b x y p q = cond_both b x y (Finds (Within bytes)) (λ e. p) (λ e. q)
