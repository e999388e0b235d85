-- The text determines what it tells: the answer, the number of synchronizers, the arcs of a ring and the results. No character of a
-- field ends one, so fields and lines come apart in one way, and a field determines its number.
use mathlib.Core.Path.{◌≡◌, refl, sym, ap, ◌∙◌}
use mathlib.Core.List.{List, [], ◌∷◌, ◌++◌, map, append_assoc, append-nil}
use mathlib.Core.Logic.{inl, inr}
use Rattle.std.specs.Prelude.{Result, Ok, Err}
use Prim.Native.Nat.{ℕ, zero, suc, ◌*◌, ◌/◌, ◌%◌, ◌≤◌, ◌<◌}
use native.Mathlib.Omega.{arith}
use lib.IntN.{ℤ, pos, negsuc}
use lib.ListN.{take, drop, get_or}
use Rattle.flow.specs.Walk.{Every}
use Rattle.flow.proofs.Joined.{every_join}
use Rattle.image.specs.Refusal.{number_of}
use Rattle.image.specs.declared.refusal.Refusal.{Refusal}
use Rattle.image.proofs.RuleNumbers.{number_tells}
use Rattle.timing.specs.declared.timing_call.Answer.{Answer}
use Rattle.timing.specs.declared.timing_call.Answer.TheVariants.{Growing, Timed}
use Rattle.report.specs.Ascii.{ascii}
use Rattle.report.specs.Decimal.{digit, digits, signed, result_text}
use Rattle.report.specs.Text.{feed, spaced, line, each, arc_line, row, text_of}
use Rattle.report.proofs.Digits.{size, digits_one, digits_more}
use Rattle.report.proofs.Determined.{digits_determine, signed_determines, shown, result_determines}

-- no character ends a field: all lie above the space, which lies above the line feed
abbrev Field : List ℕ → Type 0
Field xs = Every (λ c. 32 < c) xs

abbrev Fields : List (List ℕ) → Type 0
Fields [] = Unit {0}
Fields (f ∷ fs) = Field f × Fields fs

-- a text that begins with the end of a field
abbrev Stops : List ℕ → Type 0
Stops [] = ⊥
Stops (c ∷ cs) = c ≤ 32

-- two fields, each before such a text
apart : (xs ys us vs : List ℕ) → Field xs → Field ys → Stops us → Stops vs → xs ++ us ≡ ys ++ vs → (xs ≡ ys) × (us ≡ vs)
apart [] [] us vs f g s t e = (refl, e)
apart [] (y ∷ ys) [] vs f g s t e = absurd s
apart [] (y ∷ ys) (u ∷ us) vs f g s t e = let k : u ≡ y = cc in let z : ⊥ = omega (arith, g.0) in absurd z
apart (x ∷ xs) [] us [] f g s t e = absurd t
apart (x ∷ xs) [] us (v ∷ vs) f g s t e = let k : x ≡ v = cc in let z : ⊥ = omega (arith, f.0) in absurd z
apart (x ∷ xs) (y ∷ ys) us vs f g s t e =
    let k : x ≡ y = cc in
    let h = apart xs ys us vs f.1 g.1 s t cc in
    (rw (k, h.0), h.1)

-- the further fields of a line, and what comes after it
abbrev tail : List (List ℕ) → List ℕ → List ℕ
tail fs rest = spaced fs ++ (feed ∷ rest)

tail_stops : (fs : List (List ℕ)) (rest : List ℕ) → Stops (tail fs rest)
tail_stops [] rest = omega arith
tail_stops (f ∷ fs) rest = omega arith

tails : (fs gs : List (List ℕ)) (us vs : List ℕ) → Fields fs → Fields gs → tail fs us ≡ tail gs vs → (fs ≡ gs) × (us ≡ vs)
tails [] [] us vs f g e = (refl, cc)
tails [] (y ∷ gs) us vs f g e = let k : ◌≡◌ {A = ℕ} 10 32 = cc in let z : ⊥ = omega arith in absurd z
tails (x ∷ fs) [] us vs f g e = let k : ◌≡◌ {A = ℕ} 32 10 = cc in let z : ⊥ = omega arith in absurd z
tails (x ∷ fs) (y ∷ gs) us vs f g e =
    let d : (x ++ spaced fs) ++ (feed ∷ us) ≡ (y ++ spaced gs) ++ (feed ∷ vs) = cc in
    let h = apart x y (tail fs us) (tail gs vs) f.0 g.0 (tail_stops fs us) (tail_stops gs vs)
    (sym (append_assoc x (spaced fs) (feed ∷ us)) ∙ d ∙ append_assoc y (spaced gs) (feed ∷ vs)) in
    let k = tails fs gs us vs f.1 g.1 h.1 in
    (rw (h.0, k.0), k.1)

-- a line and what comes after it
line_is : (a : List ℕ) (fs : List (List ℕ)) (rest : List ℕ) → line a fs ++ rest ≡ a ++ tail fs rest
line_is a fs rest = simp append_assoc

lines_apart : (a b : List ℕ) (fs gs : List (List ℕ)) (us vs : List ℕ) → Field a → Field b → Fields fs → Fields gs →
    line a fs ++ us ≡ line b gs ++ vs → (a ≡ b) × (fs ≡ gs) × (us ≡ vs)
lines_apart a b fs gs us vs f g h k e =
    let p = apart a b (tail fs us) (tail gs vs) f g (tail_stops fs us) (tail_stops gs vs) (sym (line_is a fs us) ∙ e ∙ line_is b gs vs) in
    let q = tails fs gs us vs h k p.1 in
    (p.0, q.0, q.1)

-- the first of some texts, and the others
each_front : (text : ℕ → List ℕ) (n : ℕ) → each text (suc n) ≡ text 0 ++ each (λ i. text (suc i)) n
unfolding each
each_front text zero = sym (append-nil (text 0))
each_front text (suc n) = ap (λ (l : List ℕ). l ++ text (suc n)) (each_front text n) ∙ append_assoc (text 0) (each (λ i. text (suc i)) n) (text (suc n))

each_lines : (n : ℕ) (a b : ℕ → List ℕ) (fs gs : ℕ → List (List ℕ)) →
    ((i : ℕ) → Field (a i)) → ((i : ℕ) → Field (b i)) → ((i : ℕ) → Fields (fs i)) → ((i : ℕ) → Fields (gs i)) →
    each (λ i. line (a i) (fs i)) n ≡ each (λ i. line (b i) (gs i)) n → (i : ℕ) → i < n → (a i ≡ b i) × (fs i ≡ gs i)
each_lines zero a b fs gs f g h k e i l = let z : ⊥ = omega arith in absurd z
each_lines (suc n) a b fs gs f g h k e i l = go i l
    (lines_apart (a 0) (b 0) (fs 0) (gs 0) _ _ (f 0) (g 0) (h 0) (k 0)
    (sym (each_front (λ i. line (a i) (fs i)) n) ∙ e ∙ each_front (λ i. line (b i) (gs i)) n))
    (λ d. each_lines n (λ i. a (suc i)) (λ i. b (suc i)) (λ i. fs (suc i)) (λ i. gs (suc i)) (λ i. f (suc i)) (λ i. g (suc i)) (λ i. h (suc i)) (λ i. k (suc i)) d)
  where
    go : (i : ℕ) → i < suc n →
        (a 0 ≡ b 0) × (fs 0 ≡ gs 0) × (each (λ i. line (a (suc i)) (fs (suc i))) n ≡ each (λ i. line (b (suc i)) (gs (suc i))) n) →
        (each (λ i. line (a (suc i)) (fs (suc i))) n ≡ each (λ i. line (b (suc i)) (gs (suc i))) n → (j : ℕ) → j < n →
        (a (suc j) ≡ b (suc j)) × (fs (suc j) ≡ gs (suc j))) →
        (a i ≡ b i) × (fs i ≡ gs i)
    go zero l p q = (p.0, p.1)
    go (suc i) l p q = q p.2 i (omega arith)

-- numbers are fields
digits_in : (k n : ℕ) → n < k → Field (digits n)
digits_in zero n h = let z : ⊥ = omega arith in absurd z
digits_in (suc k) n h = elim (size n) [
  | inl few ↦ rw (digits_one n few) (omega arith, tt)
  | inr many ↦ rw (digits_more n many)
      (every_join (λ c. 32 < c) (digits (n / 10)) (digit (n % 10) ∷ []) (digits_in k (n / 10) (omega arith)) (omega arith, tt))
]

digits_field : (n : ℕ) → Field (digits n)
digits_field n = digits_in (suc n) n (omega arith)

signed_field : (z : ℤ) → Field (signed z)
unfolding signed
signed_field (pos n) = digits_field n
signed_field (negsuc n) = (omega arith, digits_field (suc n))

result_field : (z : ℤ) → Field (result_text z)
result_field z = elim (shown z) [ inl p ↦ rw p.1 (omega arith, tt) | inr p ↦ rw p (signed_field z) ]

results_fields : (xs : List ℤ) → Fields (map result_text xs)
results_fields [] = tt
results_fields (x ∷ xs) = (result_field x, results_fields xs)

results_same : (xs ys : List ℤ) → map result_text xs ≡ map result_text ys → xs ≡ ys
results_same [] [] e = refl
results_same [] (y ∷ ys) e = let k : ◌≡◌ {A = ℕ} 0 1 = cc in let z : ⊥ = omega arith in absurd z
results_same (x ∷ xs) (y ∷ ys) e =
    let h = result_determines x y cc in
    let k = results_same xs ys cc in
    rw (h, k)
results_same (x ∷ xs) [] e = let k : ◌≡◌ {A = ℕ} 0 1 = cc in let z : ⊥ = omega arith in absurd z

-- the parts of a report: its first line, and the lines after it
abbrev word : Result Answer Refusal → List ℕ
word (Err why) = ascii "refused"
word (Ok (Growing count gain)) = ascii "loop"
word (Ok (Timed setups holds)) = ascii "timed"

abbrev fields_of : ℕ → Result Answer Refusal → List (List ℕ)
fields_of l (Err why) = digits (number_of why.rule) ∷ digits why.«record» ∷ []
fields_of l (Ok (Growing count gain)) = digits count ∷ signed gain ∷ []
fields_of l (Ok (Timed setups holds)) = digits l ∷ digits setups ∷ digits holds ∷ []

abbrev rest_of : ℕ → Result Answer Refusal → List ℤ → List ℕ → List ℕ
rest_of l (Err why) R A = []
rest_of l (Ok (Growing count gain)) R A = each (arc_line A) count
rest_of l (Ok (Timed setups holds)) R A = each (row R) l

text_is : (l : ℕ) (X : Result Answer Refusal) (R : List ℤ) (A : List ℕ) → text_of l X R A ≡ line (word X) (fields_of l X) ++ rest_of l X R A
unfolding text_of
text_is l (Err why) R A = sym (append-nil _)
text_is l (Ok (Growing count gain)) R A = refl
text_is l (Ok (Timed setups holds)) R A = refl

word_field : (X : Result Answer Refusal) → Field (word X)
word_field (Err why) = (omega arith, (omega arith, (omega arith, (omega arith, (omega arith, (omega arith, (omega arith, tt)))))))
word_field (Ok (Growing count gain)) = (omega arith, (omega arith, (omega arith, (omega arith, tt))))
word_field (Ok (Timed setups holds)) = (omega arith, (omega arith, (omega arith, (omega arith, (omega arith, tt)))))

fields_of_lem : (l : ℕ) (X : Result Answer Refusal) → Fields (fields_of l X)
fields_of_lem l (Err why) = (digits_field (number_of why.rule), (digits_field why.«record», tt))
fields_of_lem l (Ok (Growing count gain)) = (digits_field count, (signed_field gain, tt))
fields_of_lem l (Ok (Timed setups holds)) = (digits_field l, (digits_field setups, (digits_field holds, tt)))

-- what two reports of one answer have in common: the arcs of the ring; the number of synchronizers and their results
abbrev pub Shared : Result Answer Refusal → ℕ → ℕ → List ℤ → List ℤ → List ℕ → List ℕ → Type 0
Shared (Err why) l k R S A B = Unit {0}
Shared (Ok (Growing count gain)) l k R S A B = (i : ℕ) → i < count → get_or A i 0 ≡ get_or B i 0
Shared (Ok (Timed setups holds)) l k R S A B = (l ≡ k) × ((i : ℕ) → i < l → take 6 (drop (6 * i) R) ≡ take 6 (drop (6 * i) S))

module _ (l k : ℕ) (R S : List ℤ) (A B : List ℕ) where
  arcs_same : (m n : ℕ) → m ≡ n → each (arc_line A) m ≡ each (arc_line B) n → (i : ℕ) → i < m → get_or A i 0 ≡ get_or B i 0
  arcs_same m n e h i b = digits_determine _ _ (each_lines m (λ i. digits (get_or A i 0)) (λ i. digits (get_or B i 0)) (λ i. []) (λ i. [])
      (λ i. digits_field _) (λ i. digits_field _) (λ i. tt) (λ i. tt) (rw (sym e) at h) i b).0

  rows_same : l ≡ k → each (row R) l ≡ each (row S) k → (i : ℕ) → i < l → take 6 (drop (6 * i) R) ≡ take 6 (drop (6 * i) S)
  rows_same e h i b = results_same _ _ (each_lines l digits digits (λ i. map result_text (take 6 (drop (6 * i) R))) (λ i. map result_text (take 6 (drop (6 * i) S)))
      digits_field digits_field (λ i. results_fields (take 6 (drop (6 * i) R))) (λ i. results_fields (take 6 (drop (6 * i) S))) (rw (sym e) at h) i b).1

  same : (X Y : Result Answer Refusal) → word X ≡ word Y → fields_of l X ≡ fields_of k Y → rest_of l X R A ≡ rest_of k Y S B → (X ≡ Y) × Shared X l k R S A B
  same (Err x) (Err y) w f e =
      let p = number_tells x.rule y.rule (digits_determine (number_of x.rule) (number_of y.rule) cc) in
      let q = digits_determine x.«record» y.«record» cc in
      (alike x y p q, tt)
    where
      alike : (x y : Refusal) → x.rule ≡ y.rule → x.«record» ≡ y.«record» → ◌≡◌ {A = Result Answer Refusal} (Err x) (Err y)
      alike x y p q = rw (p, q)
  same (Ok (Growing m g)) (Ok (Growing n h)) w f e =
      let p = digits_determine m n cc in
      let q = signed_determines g h cc in
      (rw (p, q), arcs_same m n p e)
  same (Ok (Timed r c)) (Ok (Timed s d)) w f e =
      let o = digits_determine l k cc in
      let p = digits_determine r s cc in
      let q = digits_determine c d cc in
      (rw (p, q), (o, rows_same o e))
  same (Err x) (Ok (Growing n h)) w f e = let z : ◌≡◌ {A = ℕ} 114 108 = cc in let k : ⊥ = omega arith in absurd k
  same (Err x) (Ok (Timed s d)) w f e = let z : ◌≡◌ {A = ℕ} 114 116 = cc in let k : ⊥ = omega arith in absurd k
  same (Ok (Growing n h)) (Err x) w f e = let z : ◌≡◌ {A = ℕ} 108 114 = cc in let k : ⊥ = omega arith in absurd k
  same (Ok (Growing n h)) (Ok (Timed s d)) w f e = let z : ◌≡◌ {A = ℕ} 108 116 = cc in let k : ⊥ = omega arith in absurd k
  same (Ok (Timed s d)) (Err x) w f e = let z : ◌≡◌ {A = ℕ} 116 114 = cc in let k : ⊥ = omega arith in absurd k
  same (Ok (Timed s d)) (Ok (Growing n h)) w f e = let z : ◌≡◌ {A = ℕ} 116 108 = cc in let k : ⊥ = omega arith in absurd k

  pub text_determines : (X Y : Result Answer Refusal) → text_of l X R A ≡ text_of k Y S B → (X ≡ Y) × Shared X l k R S A B
  text_determines X Y e =
      let p = lines_apart (word X) (word Y) (fields_of l X) (fields_of k Y) (rest_of l X R A) (rest_of k Y S B)
      (word_field X) (word_field Y) (fields_of_lem l X) (fields_of_lem k Y) (sym (text_is l X R A) ∙ e ∙ text_is k Y S B) in
      same X Y p.0 p.1 p.2
