-- What is read stands on the grammar: the bytes from its place on are those of what was read, and then those from the place behind. Each reader
-- is gone through step by step (`step`), and each test in it is split once (`cond_both`).
use mathlib.Core.Path.{◌≡◌, refl, ap, ◌∙◌}
use mathlib.Core.Bool.{Bool, true, ◌&&◌}
use mathlib.Core.List.{List, [], ◌∷◌, ◌++◌, append_assoc}
use Prim.Native.Char.{code}
use Prim.Native.Nat.{ℕ, zero, suc, ◌+◌, ◌-◌, ◌≤◌, ◌<◌}
use native.Mathlib.Omega.{arith}
use lib.Dec.{ltb, leb, eqb}
use lib.ListN.{length, drop, length-append, length-drop}
use Rattle.std.specs.Prelude.{Option, None, Some, if◌then◌else◌}
use Rattle.std.proofs.lemmas.Bool.{cond_both, and_parts, ltb-true, leb-true, eqb-true, eqb-false}
use Rattle.image.specs.Words.{byte_at}
use Rattle.grammar.specs.Numbers.{greatest, most_digits, digit, Digits, none, one_more, Number}
use Rattle.grammar.specs.Windows.{Window, Join, series, parallel, joined, Form, atom, row, expression, part, between}
use Rattle.grammar.specs.Windows.{colon, opening, closing, deepest, Means, ends, bracketed, one_part, one_more as another, Written}
use Rattle.grammar.specs.Lines.{space, ◌then◌, tc, phase, latch, flop, arc, Kind, latch_kind, flop_kind}
use Rattle.grammar.specs.Lines.{Says, cycle, a_phase, a_synchronizer, an_arc}
use Rattle.grammar.specs.Text.{line_feed}
use Rattle.grammar.specs.declared.read.Number.{Number as Counted}
use Rattle.grammar.specs.declared.read.Span.{Span}
use Rattle.grammar.specs.declared.read.Read.{Read}
use Rattle.grammar.specs.Inside.Reader.{and_then, ◌>>=◌, behind, behind_all, is_digit, longer, digits_at, number_at, field_at}
use Rattle.grammar.specs.Inside.Reader.{ends_at, joined_span, closed_at, span_at, rest_at, enough, window_at}
use Rattle.grammar.specs.Inside.Reader.{word_at, cycle_at, phase_at, synchronizer_at, arc_at, line_at}
use Rattle.grammar.proofs.Places.{left, reads_inside, digit_true, digit_inside, between_inside}

-- from one place to the next stand bytes of which P holds
pub record Stands (P : List ℕ → Type 0) (bytes : List ℕ) (at next : ℕ) : Type 0 where
  pub s : List ℕ
  pub is : P s
  pub from : drop at bytes ≡ s ++ drop next bytes

-- so they do, before the byte c
pub record Ended (P : List ℕ → Type 0) (c : ℕ) (bytes : List ℕ) (at next : ℕ) : Type 0 where
  pub s : List ℕ
  pub is : P s
  pub from : drop at bytes ≡ s ++ (c ∷ drop next bytes)

abbrev pub window : Span → Window
window w = record { low = w.low; high = w.high }

-- P holds of what was read, if anything was
pub data Finds {A : Type 0} (P : A → Type 0) : Option A → Type 0 where
  nothing : Finds P None
  found : {x : A} → P x → Finds P (Some x)

pub holds : {A : Type 0} {P : A → Type 0} {x : A} → Finds P (Some x) → P x
holds (found h) = h

-- what holds of a step serves what follows
pub step : {A B : Type 0} {o : Option A} {f : A → Option B} {P : A → Type 0} {Q : B → Type 0} → Finds P o → ((x : A) → P x → Finds Q (f x)) → Finds Q (o >>= f)
unfolding and_then
step nothing k = nothing
step (found {x = x} h) k = k x h

-- and so does what follows from it
pub so : {A : Type 0} {o : Option A} {P Q : A → Type 0} → Finds P o → ((x : A) → P x → Q x) → Finds Q o
so nothing k = nothing
so (found {x = x} h) k = found (k x h)

-- ---- a byte, a word
byte_stands : (bytes : List ℕ) (at c : ℕ) → at < length bytes → byte_at bytes at ≡ c → drop at bytes ≡ c ∷ drop (at + 1) bytes
byte_stands bytes at c h e = rw e at (left bytes at h)

-- a byte that is found is there
pub behind_sound : (bytes : List ℕ) (at c : ℕ) → Finds (λ next. drop at bytes ≡ c ∷ drop next bytes) (behind bytes at c)
unfolding behind
behind_sound bytes at c = cond_both (ltb at (length bytes) && eqb (byte_at bytes at) c) (Some (at + 1)) None (Finds (λ next. drop at bytes ≡ c ∷ drop next bytes))
    (λ e. let both = and_parts (ltb at (length bytes)) (eqb (byte_at bytes at) c) e in
    found (byte_stands bytes at c (ltb-true at (length bytes) both.0) (eqb-true (byte_at bytes at) c both.1)))
    (λ e. nothing)

pub word_sound : (word bytes : List ℕ) (at : ℕ) → Finds (λ next. drop at bytes ≡ word ++ drop next bytes) (behind_all word bytes at)
word_sound [] bytes at = found refl
word_sound (c ∷ word) bytes at =
    step (behind_sound bytes at c)
    (λ mid e. so (word_sound word bytes mid) (λ next f. e ∙ ap (λ (r : List ℕ). c ∷ r) f))

-- what stands before a byte that is found
ended : {P : List ℕ → Type 0} {bytes : List ℕ} {at mid c next : ℕ} → Stands P bytes at mid → drop mid bytes ≡ c ∷ drop next bytes → Ended P c bytes at next
ended t e = record { s = t.s; is = t.is; from = rw e at t.from }

-- two pieces with a byte between
spliced : {x a : List ℕ} (c : ℕ) (s t b : List ℕ) → x ≡ s ++ (c ∷ a) → a ≡ t ++ b → x ≡ (s ++ (c ∷ t)) ++ b
spliced c s t b p q = rw (append_assoc s (c ∷ t) b) (rw (← q) p)

-- ---- numbers
-- the digits of a number that goes on from v
record Digited (v : ℕ) (more : ℕ) (first : ℕ) (s : List ℕ) (n : ℕ) : Type 0 where
  digits : Digits v s n
  few : length s ≤ more
  some : 1 ≤ more → is_digit first ≡ true → 1 ≤ length s
  small : n ≤ greatest

digit_more : (v c n : ℕ) (s : List ℕ) → is_digit c ≡ true → Digits (longer v c) s n → Digits v (c ∷ s) n
digit_more v c n s e h =
    let b = digit_true c e in
    let same : digit (c - code "0") ≡ c = omega arith in
    rw same at (one_more {d = c - code "0"} (omega arith) h)

digits_sound : (more : ℕ) (bytes : List ℕ) (at v : ℕ) → v ≤ greatest →
    Finds (λ n. Stands (λ s. Digited v more (byte_at bytes at) s n.value) bytes at n.next) (digits_at more bytes at v)
unfolding digits_at
digits_sound zero bytes at v l = found (record { s = []; is = record { digits = none; few = omega arith; some = λ h e. omega arith; small = l }; from = refl })
digits_sound (suc more) bytes at v l =
    cond_both (is_digit c) _ _ Goes
    (λ e. cond_both (leb (longer v c) greatest) _ _ Goes (λ g. digit_first e (digits_sound more bytes (at + 1) (longer v c) (leb-true (longer v c) greatest g)))
    (λ g. nothing))
    (λ e. found (record {
      s = [];
      is = record { digits = none; few = omega arith; some = λ _ f. let z : ◌≡◌ {A = ℕ} 0 1 = cc in omega arith; small = l };
      from = refl;
    }))
  where
    c : ℕ
    c = byte_at bytes at

    Goes : Option Counted → Type 0
    Goes o = Finds (λ n. Stands (λ s. Digited v (suc more) c s n.value) bytes at n.next) o

    digit_first : is_digit c ≡ true →
        Finds (λ n. Stands (λ s. Digited (longer v c) more (byte_at bytes (at + 1)) s n.value) bytes (at + 1) n.next) (digits_at more bytes (at + 1) (longer v c)) →
        Goes (digits_at more bytes (at + 1) (longer v c))
    digit_first e h = so h (λ n t. record {
      s = c ∷ t.s;
      is = record { digits = digit_more v c n.value t.s e t.is.digits; few = omega (arith, t.is.few); some = λ _ _. omega arith; small = t.is.small };
      from = left bytes at (digit_inside bytes at e) ∙ ap (λ (r : List ℕ). c ∷ r) t.from;
    })

-- a number that is read is written there
pub number_sound : (bytes : List ℕ) (at : ℕ) → Finds (λ n. Stands (λ s. Number s n.value) bytes at n.next) (number_at bytes at)
unfolding number_at
number_sound bytes at =
    cond_both (is_digit (byte_at bytes at)) (digits_at most_digits bytes at 0) None (Finds (λ n. Stands (λ s. Number s n.value) bytes at n.next))
    (λ e. so (digits_sound most_digits bytes at 0 (omega arith)) (λ n t. record {
      s = t.s;
      is = record { digits = t.is.digits; some = t.is.some (omega arith) e; few = t.is.few; small = t.is.small };
      from = t.from;
    }))
    (λ e. nothing)

-- and the byte behind it
pub field_sound : (bytes : List ℕ) (at c : ℕ) → Finds (λ n. Ended (λ s. Number s n.value) c bytes at n.next) (field_at bytes at c)
unfolding field_at
field_sound bytes at c = step (number_sound bytes at) (λ n t. step (behind_sound bytes n.next c) (λ next e. found (ended t e)))

-- ---- windows
-- a window that is read, its end within the limit
abbrev pub Spans : Form → ℕ → List ℕ → ℕ → Span → Type 0
Spans form depth bytes at w = Stands (λ s. Means form depth s (window w) × (w.high ≤ greatest)) bytes at w.next

-- LO:HI
pub ends_sound : (depth : ℕ) (bytes : List ℕ) (at : ℕ) → Finds (Spans atom depth bytes at) (ends_at bytes at)
unfolding ends_at
ends_sound depth bytes at =
    step (field_sound bytes at colon) λ lo x.
    step (number_sound bytes lo.next) λ hi y.
    cond_both (leb lo.value hi.value) (Some (record { low = lo.value; high = hi.value; next = hi.next })) None (Finds (Spans atom depth bytes at))
    (λ e. found (record {
      s = x.s ++ (colon ∷ y.s);
      is = (ends x.is y.is (leb-true lo.value hi.value e), y.is.small);
      from = spliced colon x.s y.s (drop hi.next bytes) x.from y.from;
    }))
    (λ e. nothing)

-- a window and the byte behind it
pub closed_sound : (P : Window → List ℕ → Type 0) (bytes : List ℕ) (at : ℕ) (w : Span) (c : ℕ) → Stands (P (window w)) bytes at w.next →
    Finds (λ v. Ended (P (window v)) c bytes at v.next) (closed_at bytes w c)
unfolding closed_at
closed_sound P bytes at w c t = step (behind_sound bytes w.next c) (λ next e. found (ended t e))

-- one part more
row_more : (j : Join) (depth : ℕ) (bytes : List ℕ) (at : ℕ) (v w : Span) →
    Spans (row j) depth bytes at v → byte_at bytes v.next ≡ between j → Spans (part j) depth bytes (v.next + 1) w →
    (joined j (window v) (window w)).high ≤ greatest →
    Stands (λ s. Means (row j) depth s (joined j (window v) (window w)) × ((joined j (window v) (window w)).high ≤ greatest)) bytes at w.next
row_more j depth bytes at v w x e y l = record {
  s = x.s ++ (between j ∷ y.s);
  is = (another x.is.0 y.is.0, l);
  from = spliced (between j) x.s y.s (drop w.next bytes)
      (rw (byte_stands bytes v.next (between j) (between_inside j bytes v.next e) e) at x.from) y.from;
}

-- A window that is joined is that of the grammar, to the end of its last part: what holds of that one, Q, holds of it. It is small where its parts are.
pub joined_sound : (j : Join) (v w : Span) (Q : Window → ℕ → Type 0) →
    ((v.high ≤ greatest → w.high ≤ greatest → (joined j (window v) (window w)).high ≤ greatest) → Q (joined j (window v) (window w)) w.next) →
    Finds (λ x. Q (window x) x.next) (joined_span j v w)
unfolding joined_span
joined_sound parallel v w Q h = found (h (λ k l. omega arith))
joined_sound series v w Q h =
    cond_both (low && high) (Some (record { low = v.low + w.low; high = v.high + w.high; next = w.next })) None (Finds (λ x. Q (window x) x.next))
    (λ e. found (h (λ _ _. leb-true (v.high + w.high) greatest (and_parts low high e).1)))
    (λ e. nothing)
  where
    low : Bool
    low = leb (v.low + w.low) greatest

    high : Bool
    high = leb (v.high + w.high) greatest

-- a window that is read has the form and means what was read
mutual
  unfolding span_at

  pub span_sound : (f : ℕ) (form : Form) (depth : ℕ) (bytes : List ℕ) (at : ℕ) → Finds (Spans form depth bytes at) (span_at f form depth bytes at)
  span_sound zero form depth bytes at = nothing
  span_sound (suc f) atom depth bytes at =
      cond_both (eqb (byte_at bytes at) opening) _ _ Good
      (λ e. cond_both (eqb depth 0) _ _ Good (λ d. nothing)
      (λ d. step (span_sound f expression (depth - 1) bytes (at + 1)) (λ w t. in_brackets (eqb-true (byte_at bytes at) opening e) (eqb-false depth 0 d) w t)))
      (λ e. ends_sound depth bytes at)
    where
      Good : Option Span → Type 0
      Good o = Finds (Spans atom depth bytes at) o

      in_brackets : byte_at bytes at ≡ opening → (depth ≡ 0 → ⊥) → (w : Span) → Spans expression (depth - 1) bytes (at + 1) w → Good (closed_at bytes w closing)
      in_brackets e d w t =
          let deep : suc (depth - 1) ≡ depth = omega (arith, d) in
          so
          (closed_sound (λ v s. Means expression (depth - 1) s v × (v.high ≤ greatest)) bytes (at + 1) w closing t)
          (λ v b. record {
            s = opening ∷ (b.s ++ (closing ∷ []));
            is = (rw deep at (bracketed b.is.0), b.is.1);
            from = byte_stands bytes at opening (reads_inside bytes at (omega arith)) e ∙ rw (b.from, append_assoc b.s (closing ∷ []) (drop v.next bytes));
          })
  span_sound (suc f) (row j) depth bytes at =
      step (span_sound f (part j) depth bytes at)
      (λ w t. rest_sound f j depth bytes at w (record { s = t.s; is = (one_part t.is.0, t.is.1); from = t.from }))

  -- and so does the row that goes on from w
  pub rest_sound : (f : ℕ) (j : Join) (depth : ℕ) (bytes : List ℕ) (at : ℕ) (w : Span) → Spans (row j) depth bytes at w →
      Finds (Spans (row j) depth bytes at) (rest_at f j depth bytes w)
  rest_sound zero j depth bytes at w t = nothing
  rest_sound (suc f) j depth bytes at w t =
      cond_both (eqb (byte_at bytes w.next) (between j)) _ _ (Finds (Spans (row j) depth bytes at))
      (λ e. step (span_sound f (part j) depth bytes (w.next + 1))
      (λ x u. step
      (joined_sound j w x (λ v to. Stands (λ s. Means (row j) depth s v × (v.high ≤ greatest)) bytes at to)
      (λ small. row_more j depth bytes at w x t (eqb-true (byte_at bytes w.next) (between j) e) u (small t.is.1 u.is.1)))
      (λ y v. rest_sound f j depth bytes at y v)))
      (λ e. found t)

-- a window, to the end of its line
pub window_sound : (bytes : List ℕ) (at : ℕ) → Finds (λ w. Ended (λ s. Written s (window w)) line_feed bytes at w.next) (window_at bytes at)
unfolding window_at
window_sound bytes at =
    step (span_sound (enough expression bytes at) expression deepest bytes at)
    (λ w t. closed_sound (λ v s. Written s v) bytes at w line_feed
    (record { s = t.s; is = record { means = t.is.0; small = t.is.1 }; from = t.from }))

-- ---- lines
-- a word and the space behind it
pub spaced_sound : (word bytes : List ℕ) (at : ℕ) → Finds (λ next. drop at bytes ≡ word ++ (space ∷ drop next bytes)) (word_at word bytes at)
unfolding word_at
spaced_sound word bytes at =
    step (word_sound word bytes at)
    (λ mid e. so (behind_sound bytes mid space) (λ next f. e ∙ ap (λ (r : List ℕ). word ++ r) f))

-- one field more before what follows
before : {P : List ℕ → Type 0} {bytes : List ℕ} {at mid : ℕ} (x : Ended P space bytes at mid) (t b : List ℕ) → drop mid bytes ≡ t ++ b →
    drop at bytes ≡ (x.s then t) ++ b
before x t b e = spliced space x.s t b x.from e

-- what a reader of lines read stands on the grammar, up to its line feed
abbrev pub StandsLine : List ℕ → ℕ → Read → Type 0
StandsLine bytes at read = Ended (λ s. Says s read.line) line_feed bytes at read.next

cycle_sound : (bytes : List ℕ) (at : ℕ) → Finds (StandsLine bytes at) (cycle_at bytes at)
unfolding cycle_at
cycle_sound bytes at =
    step (spaced_sound tc bytes at) λ p e.
    step (field_sound bytes p line_feed) λ x n.
    found (record { s = tc then n.s; is = cycle n.is; from = spliced space tc n.s (line_feed ∷ drop x.next bytes) e n.from })

phase_sound : (bytes : List ℕ) (at : ℕ) → Finds (StandsLine bytes at) (phase_at bytes at)
unfolding phase_at
phase_sound bytes at =
    step (spaced_sound phase bytes at) λ p k.
    step (field_sound bytes p space) λ x e.
    step (field_sound bytes x.next line_feed) λ y a.
    let end = line_feed ∷ drop y.next bytes in
    found (record { s = phase then e.s then a.s; is = a_phase e.is a.is; from = spliced space phase (e.s then a.s) end k (before e a.s end a.from) })

synchronizer_sound : (name : List ℕ) (kind : ℕ) → Kind name kind → (bytes : List ℕ) (at : ℕ) → Finds (StandsLine bytes at) (synchronizer_at kind name bytes at)
unfolding synchronizer_at
synchronizer_sound name kind is-kind bytes at =
    step (spaced_sound name bytes at) λ p k.
    step (field_sound bytes p space) λ x a.
    step (field_sound bytes x.next space) λ y b.
    step (field_sound bytes y.next space) λ z c.
    step (window_sound bytes z.next) λ v w.
    let end = line_feed ∷ drop v.next bytes in
    found (record {
      s = name then a.s then b.s then c.s then w.s;
      is = a_synchronizer is-kind a.is b.is c.is w.is;
      from = spliced space name (a.s then b.s then c.s then w.s) end k
          (before a (b.s then c.s then w.s) end (before b (c.s then w.s) end (before c w.s end w.from)));
    })

arc_sound : (bytes : List ℕ) (at : ℕ) → Finds (StandsLine bytes at) (arc_at bytes at)
unfolding arc_at
arc_sound bytes at =
    step (spaced_sound arc bytes at) λ p k.
    step (field_sound bytes p space) λ x a.
    step (field_sound bytes x.next space) λ y b.
    step (window_sound bytes y.next) λ v w.
    let end = line_feed ∷ drop v.next bytes in
    found (record {
      s = arc then a.s then b.s then w.s;
      is = an_arc a.is b.is w.is;
      from = spliced space arc (a.s then b.s then w.s) end k (before a (b.s then w.s) end (before b w.s end w.from));
    })

-- a line that is read is one that the bytes say
pub line_sound : (bytes : List ℕ) (at : ℕ) → Finds (StandsLine bytes at) (line_at bytes at)
unfolding line_at
line_sound bytes at =
    either (eqb (byte_at bytes at) (code "t")) _ _ (cycle_sound bytes at)
    (either (eqb (byte_at bytes at) (code "p")) _ _ (phase_sound bytes at)
    (either (eqb (byte_at bytes at) (code "l")) _ _ (synchronizer_sound latch 0 latch_kind bytes at)
    (either (eqb (byte_at bytes at) (code "f")) _ _ (synchronizer_sound flop 1 flop_kind bytes at)
    (either (eqb (byte_at bytes at) (code "a")) _ _ (arc_sound bytes at) nothing))))
  where
    either : (b : Bool) (x y : Option Read) → Finds (StandsLine bytes at) x → Finds (StandsLine bytes at) y →
        Finds (StandsLine bytes at) (if b then x else y)
    either b x y p q = cond_both b x y (Finds (StandsLine bytes at)) (λ e. p) (λ e. q)

-- ---- a reader goes onward
-- no window is written without bytes
means_some : {form : Form} {depth : ℕ} {s : List ℕ} {w : Window} → Means form depth s w → 1 ≤ length s
means_some (ends {s} {t} m n l) = omega (arith, length-append s (colon ∷ t))
means_some (bracketed m) = omega arith
means_some (one_part m) = means_some m
means_some (another {j} {s} {t} m n) = omega (arith, length-append s (between j ∷ t))

pub spans_onward : {form : Form} {depth : ℕ} {bytes : List ℕ} {at : ℕ} {w : Span} → Spans form depth bytes at w → at < w.next
spans_onward {bytes = bytes} {at} {w} t =
    omega (arith, ap length t.from, length-append t.s (drop w.next bytes), length-drop at bytes, length-drop w.next bytes, means_some t.is.0)
