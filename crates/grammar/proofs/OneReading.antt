-- A text has at most one reading, and not both a reading and a fault. The reader is a function, and it reads whatever stands on the grammar
-- (`line_complete`), so at a place stands at most one line. Two beginnings with equally many lines are then the same, and a beginning may go on
-- behind each of its lines but the last.
use mathlib.Core.Path.{◌≡◌, refl, sym, ap, ◌∙◌}
use mathlib.Core.List.{List, [], ◌∷◌, ◌++◌}
use mathlib.Core.Logic.{inl, inr}
use Prim.Native.Nat.{ℕ, ◌+◌, ◌<◌}
use native.Mathlib.Decide.{dec_lt}
use native.Mathlib.Omega.{arith}
use lib.ListN.{length, take, drop, length-append}
use lib.Seq.{length-take-le, take-append-le, take_at}
use Rattle.std.proofs.lemmas.Option.{same_Some}
use Rattle.grammar.specs.Windows.{Window, Written}
use Rattle.grammar.specs.Lines.{Says}
use Rattle.grammar.specs.Text.{line_feed, InPlace, Begins, start, one_more, Reads, Stuck, Stops, Fault, too_long, at_line}
use Rattle.grammar.specs.declared.read.Line.{Line}
use Rattle.grammar.specs.declared.read.Read.{Read}
use Rattle.grammar.specs.declared.read.Span.{Span}
use Rattle.grammar.proofs.Complete.{line_complete, window_complete, beyond}

-- one window
pub window_one : {s : List ℕ} {v w : Window} → Written s v → Written s w → v ≡ w
window_one {s} {v} {w} m n =
    let bytes : List ℕ = s ++ (line_feed ∷ []) in
    let same = same_Some _ _ (sym (window_complete bytes s [] 0 v m refl) ∙ window_complete bytes s [] 0 w n refl) in
    ap (λ (x : Span). record { low = x.low; high = x.high }) same

-- one line, and one rest behind it
pub line_one : (s s' r r' : List ℕ) (x x' : Line) → s ++ (line_feed ∷ r) ≡ s' ++ (line_feed ∷ r') → Says s x → Says s' x' → (x ≡ x') × (r ≡ r')
line_one s s' r r' x x' e h h' =
    let bytes : List ℕ = s ++ (line_feed ∷ r) in
    let same = same_Some _ _ (sym (line_complete bytes s r 0 x h refl) ∙ line_complete bytes s' r' 0 x' h' e) in
    let place : 0 + length s + 1 ≡ 0 + length s' + 1 = ap (λ (q : Read). q.next) same in
    (ap (λ (q : Read). q.line) same, sym (beyond bytes s r 0 line_feed refl) ∙ ap (λ (n : ℕ). drop n bytes) place ∙ beyond bytes s' r' 0 line_feed e)

no_end : (s r : List ℕ) → [] ≡ s ++ (line_feed ∷ r) → ⊥
no_end s r e = omega (arith, ap length e, length-append s (line_feed ∷ r))

-- equally many lines are the same lines
pub begins_one : {text r r' : List ℕ} {stage stage' : ℕ} {xs ys : List Line} → Begins text stage xs r → Begins text stage' ys r' →
    length xs ≡ length ys → (xs ≡ ys) × (stage ≡ stage') × (r ≡ r')
begins_one start start e = (refl, refl, refl)
begins_one start (one_more {lines = ys} {line = y} b k p) e = let no : ⊥ = omega (arith, length-append ys (y ∷ [])) in absurd no
begins_one (one_more {lines = xs} {line = x} a h o) start e = let no : ⊥ = omega (arith, length-append xs (x ∷ [])) in absurd no
begins_one (one_more {lines = xs} {s = s} {rest = r} {line = x} a h o) (one_more {lines = ys} {s = s'} {rest = r'} {line = y} b k p) e =
    let before = begins_one a b (omega (arith, length-append xs (x ∷ []), length-append ys (y ∷ []))) in
    let here = line_one s s' r r' x y before.2 h k in
    let line : x ≡ y = here.0 in
    let lines : xs ≡ ys = before.0 in
    (rw (line, lines) refl, rw line refl, here.1)

-- the first k lines, behind which a line may stand
pub record Next (text : List ℕ) (xs : List Line) (k : ℕ) : Type 0 where
  pub stage : ℕ
  pub s : List ℕ
  pub rest : List ℕ
  pub line : Line
  pub before : Begins text stage (take k xs) (s ++ (line_feed ∷ rest))
  pub says : Says s line
  pub place : InPlace stage line

-- behind each line but the last one may stand
pub begins_next : {text r : List ℕ} {stage : ℕ} {xs : List Line} → Begins text stage xs r → (k : ℕ) → k < length xs → Next text xs k
begins_next start k h = let no : ⊥ = omega arith in absurd no
begins_next (one_more {stage} {lines} {s} {rest} {line} b h p) k l = elim (dec_lt k (length lines)) [
  | yes m ↦ (let n = begins_next b k m in
      record {
        stage = n.stage;
        s = n.s;
        rest = n.rest;
        line = n.line;
        says = n.says;
        place = n.place;
        before = rw (take-append-le k lines (line ∷ []) (omega arith)) n.before;
      })
  | no m ↦ record {
    stage = stage;
    s = s;
    rest = rest;
    line = line;
    says = h;
    place = p;
    before = rw (take_at lines (line ∷ []) k (omega (arith, length-append lines (line ∷ [])))) b;
  }
]

-- behind fewer lines than another beginning has, a line may stand
pub not_stuck : {text r r' : List ℕ} {stage stage' : ℕ} {xs ys : List Line} → Begins text stage xs r → Begins text stage' ys r' →
    length xs < length ys → Stuck stage r → ⊥
not_stuck {xs = xs} {ys = ys} a b l stuck =
    let n = begins_next b (length xs) l in
    let same = begins_one a n.before (sym (length-take-le (length xs) ys (omega arith))) in
    stuck n.s n.rest n.line same.2 n.says (rw same.1 n.place)

-- at the end of a text no line may stand
stuck_end : (stage : ℕ) → Stuck stage []
stuck_end stage s after line e h p = no_end s after e

-- ---- texts: of two numbers of lines the lesser would not be where the text ends or stops
pub reads_one : {text : List ℕ} {xs ys : List Line} → Reads text xs → Reads text ys → xs ≡ ys
reads_one {xs = xs} {ys = ys} a b = elim (dec_lt (length xs) (length ys)) [
  | yes l ↦ absurd (not_stuck a.whole b.whole l (stuck_end a.stage))
  | no l ↦ elim (dec_lt (length ys) (length xs)) [
    | yes m ↦ absurd (not_stuck b.whole a.whole m (stuck_end b.stage))
    | no m ↦ (begins_one a.whole b.whole (omega arith)).0
  ]
]

pub stops_one : {text : List ℕ} {m n : ℕ} → Stops text m → Stops text n → m ≡ n
stops_one {m = m} {n = n} a b = elim (dec_lt m n) [
  | yes l ↦ absurd (not_stuck a.before b.before (omega (arith, a.count, b.count)) a.stuck)
  | no l ↦ elim (dec_lt n m) [
    | yes k ↦ absurd (not_stuck b.before a.before (omega (arith, a.count, b.count)) b.stuck)
    | no k ↦ omega arith
  ]
]

pub reads_not_stops : {text : List ℕ} {xs : List Line} {n : ℕ} → Reads text xs → Stops text n → ⊥
reads_not_stops {xs = xs} {n = n} a b = elim (dec_lt (length xs) n) [
  | yes l ↦ not_stuck a.whole b.before (omega (arith, b.count)) (stuck_end a.stage)
  | no l ↦ elim (dec_lt n (length xs)) [
    | yes m ↦ not_stuck b.before a.whole (omega (arith, b.count)) b.stuck
    | no m ↦ (let same = begins_one b.before a.whole (omega (arith, b.count)) in
        elim b.unfinished [ inl some ↦ some same.2 | inr none ↦ omega (arith, same.1, a.begun) ])
  ]
]

-- ---- faults: a text is too long or not
pub fault_one : {text : List ℕ} {m n : ℕ} → Fault text m → Fault text n → m ≡ n
fault_one (too_long h) (too_long k) = refl
fault_one (too_long h) (at_line b) = let no : ⊥ = omega (arith, b.short) in absurd no
fault_one (at_line a) (too_long k) = let no : ⊥ = omega (arith, a.short) in absurd no
fault_one (at_line a) (at_line b) = stops_one a b

pub reads_not_fault : {text : List ℕ} {xs : List Line} {n : ℕ} → Reads text xs → Fault text n → ⊥
reads_not_fault a (too_long h) = omega (arith, a.short)
reads_not_fault a (at_line b) = reads_not_stops a b
