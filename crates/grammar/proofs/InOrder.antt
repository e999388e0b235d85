-- The records of the lines of a text stand in the order of the tables: all phases, then all synchronizers, then all arcs. A line is added at the
-- end, and before a phase stands no synchronizer and before a phase or a synchronizer no arc, so its record goes to the end of the last table
-- that has any.
use mathlib.Core.Path.{◌≡◌, refl, sym, ◌∙◌}
use mathlib.Core.Bool.{true}
use mathlib.Core.List.{List, [], ◌∷◌, ◌++◌, map, append_assoc, append-nil}
use Prim.Native.Nat.{ℕ, zero, suc, ◌≤◌}
use native.Mathlib.Omega.{arith}
use borrow.Author.Tests.{eq-eqb, ne_eqb, eqb-true, leb-true, le-leb}
use Rattle.grammar.specs.Text.{rank, InPlace, Begins, start, one_more}
use Rattle.grammar.specs.Layout.{bytes_of, table, phase_words, synchronizer_words, arc_words, cycle_of, phases_of, synchronizers_of, arcs_of}
use Rattle.grammar.specs.Inside.Reader.{in_place}
use Rattle.grammar.specs.Inside.Rows.{words_of, flat}
use Rattle.grammar.specs.declared.read.Line.{Line}
use Rattle.grammar.specs.declared.read.Line.TheVariants.{Cycle, Phase, Synchronizer, Arc}

-- ---- lines added behind others
-- the cycle stays, where what is added has none
pub cycle_append : (xs ys : List Line) → cycle_of ys ≡ 0 → cycle_of (xs ++ ys) ≡ cycle_of xs
cycle_append [] ys h = h
cycle_append (Cycle n ∷ xs) ys h = refl
cycle_append (Phase p ∷ xs) ys h = cycle_append xs ys h
cycle_append (Synchronizer s ∷ xs) ys h = cycle_append xs ys h
cycle_append (Arc a ∷ xs) ys h = cycle_append xs ys h

pub phases_append : (xs ys : List Line) → phases_of (xs ++ ys) ≡ phases_of xs ++ phases_of ys
phases_append [] ys = refl
phases_append (Cycle n ∷ xs) ys = phases_append xs ys
phases_append (Phase p ∷ xs) ys = rw (phases_append xs ys)
phases_append (Synchronizer s ∷ xs) ys = phases_append xs ys
phases_append (Arc a ∷ xs) ys = phases_append xs ys

pub synchronizers_append : (xs ys : List Line) → synchronizers_of (xs ++ ys) ≡ synchronizers_of xs ++ synchronizers_of ys
synchronizers_append [] ys = refl
synchronizers_append (Cycle n ∷ xs) ys = synchronizers_append xs ys
synchronizers_append (Phase p ∷ xs) ys = synchronizers_append xs ys
synchronizers_append (Synchronizer s ∷ xs) ys = rw (synchronizers_append xs ys)
synchronizers_append (Arc a ∷ xs) ys = synchronizers_append xs ys

pub arcs_append : (xs ys : List Line) → arcs_of (xs ++ ys) ≡ arcs_of xs ++ arcs_of ys
arcs_append [] ys = refl
arcs_append (Cycle n ∷ xs) ys = arcs_append xs ys
arcs_append (Phase p ∷ xs) ys = arcs_append xs ys
arcs_append (Synchronizer s ∷ xs) ys = arcs_append xs ys
arcs_append (Arc a ∷ xs) ys = rw (arcs_append xs ys)

-- a table stays, where what is added has no record of it
pub phases_kept : (xs ys : List Line) → phases_of ys ≡ [] → phases_of (xs ++ ys) ≡ phases_of xs
phases_kept xs ys h = rw (phases_append xs ys, h) (append-nil (phases_of xs))

pub synchronizers_kept : (xs ys : List Line) → synchronizers_of ys ≡ [] → synchronizers_of (xs ++ ys) ≡ synchronizers_of xs
synchronizers_kept xs ys h = rw (synchronizers_append xs ys, h) (append-nil (synchronizers_of xs))

pub arcs_kept : (xs ys : List Line) → arcs_of ys ≡ [] → arcs_of (xs ++ ys) ≡ arcs_of xs
arcs_kept xs ys h = rw (arcs_append xs ys, h) (append-nil (arcs_of xs))

-- ---- rows added behind others
pub table_append : {A : Type 0} (f : A → List ℕ) (xs ys : List A) → table (map f (xs ++ ys)) ≡ table (map f xs) ++ table (map f ys)
table_append f [] ys = refl
table_append f (x ∷ xs) ys = rw (table_append f xs ys) (sym (append_assoc (bytes_of (f x)) (table (map f xs)) (table (map f ys))))

-- a row at the end
pub table_snoc : {A : Type 0} (f : A → List ℕ) (xs : List A) (x : A) → table (map f (xs ++ (x ∷ []))) ≡ table (map f xs) ++ bytes_of (f x)
table_snoc f xs x = rw (table_append f xs (x ∷ []), append-nil (bytes_of (f x)))

pub flat_snoc : (lines : List Line) (x : Line) → flat (lines ++ (x ∷ [])) ≡ flat lines ++ bytes_of (words_of x)
flat_snoc lines x = table_snoc words_of lines x

-- ---- the order
pub place_rank : (stage : ℕ) (line : Line) → InPlace stage line → stage ≤ rank line
place_rank zero line h = omega arith
place_rank (suc stage) line h = h

-- no line at stage 0
pub none_begun : {text rest : List ℕ} {stage : ℕ} {lines : List Line} → Begins text stage lines rest → stage ≡ 0 → lines ≡ []
none_begun start e = refl
none_begun (one_more {line = Cycle n} b h p) e = let no : ⊥ = omega arith in absurd no
none_begun (one_more {line = Phase x} b h p) e = let no : ⊥ = omega arith in absurd no
none_begun (one_more {line = Synchronizer s} b h p) e = let no : ⊥ = omega arith in absurd no
none_begun (one_more {line = Arc a} b h p) e = let no : ⊥ = omega arith in absurd no

-- no synchronizer at stage 1 or earlier, no arc at stage 2 or earlier
pub none_yet : {text rest : List ℕ} {stage : ℕ} {lines : List Line} → Begins text stage lines rest →
    (stage ≤ 1 → synchronizers_of lines ≡ []) × (stage ≤ 2 → arcs_of lines ≡ [])
none_yet start = (λ l. refl, λ l. refl)
none_yet (one_more {stage} {lines} {line = Cycle n} b h p) =
    let l : stage ≤ 0 = place_rank stage (Cycle n) p in
    (λ i. synchronizers_kept lines (Cycle n ∷ []) refl ∙ (none_yet b).0 (omega arith), λ i. arcs_kept lines (Cycle n ∷ []) refl ∙ (none_yet b).1 (omega arith))
none_yet (one_more {stage} {lines} {line = Phase x} b h p) =
    let l : stage ≤ 1 = place_rank stage (Phase x) p in
    (λ i. synchronizers_kept lines (Phase x ∷ []) refl ∙ (none_yet b).0 (omega arith), λ i. arcs_kept lines (Phase x ∷ []) refl ∙ (none_yet b).1 (omega arith))
none_yet (one_more {stage} {lines} {line = Synchronizer s} b h p) =
    let l : stage ≤ 2 = place_rank stage (Synchronizer s) p in
    (λ i. let no : ⊥ = omega arith in absurd no, λ i. arcs_kept lines (Synchronizer s ∷ []) refl ∙ (none_yet b).1 (omega arith))
none_yet (one_more {line = Arc a} b h p) = (λ i. let no : ⊥ = omega arith in absurd no, λ i. let no : ⊥ = omega arith in absurd no)

-- the rows in the order of the lines are the tables
pub in_order : {text rest : List ℕ} {stage : ℕ} {lines : List Line} → Begins text stage lines rest →
    flat lines
    ≡ table (map phase_words (phases_of lines)) ++ table (map synchronizer_words (synchronizers_of lines)) ++ table (map arc_words (arcs_of lines))
in_order start = refl
in_order (one_more {stage} {lines} {line = Cycle n} b h p) =
    let x : List Line = Cycle n ∷ [] in
    rw (flat_snoc lines (Cycle n), append-nil (flat lines), phases_kept lines x refl, synchronizers_kept lines x refl, arcs_kept lines x refl) (in_order b)
in_order (one_more {stage} {lines} {line = Phase q} b h p) =
    let x : List Line = Phase q ∷ [] in
    let l : stage ≤ 1 = place_rank stage (Phase q) p in
    let no_synchronizer = (none_yet b).0 l in
    let no_arc = (none_yet b).1 (omega arith) in
    let before : flat lines ≡ table (map phase_words (phases_of lines)) = rw (in_order b, no_synchronizer, no_arc) (simp append-nil) in
    rw (
      flat_snoc lines (Phase q),
      phases_append lines x,
      synchronizers_kept lines x refl,
      arcs_kept lines x refl,
      table_snoc phase_words (phases_of lines) q,
      no_synchronizer,
      no_arc,
      before,
    ) (simp append-nil)
in_order (one_more {stage} {lines} {line = Synchronizer s} b h p) =
    let x : List Line = Synchronizer s ∷ [] in
    let l : stage ≤ 2 = place_rank stage (Synchronizer s) p in
    let no_arc = (none_yet b).1 l in
    rw (
      flat_snoc lines (Synchronizer s),
      in_order b,
      phases_kept lines x refl,
      synchronizers_append lines x,
      arcs_kept lines x refl,
      table_snoc synchronizer_words (synchronizers_of lines) s,
      no_arc,
    ) (simp (append-nil, append_assoc))
in_order (one_more {stage} {lines} {line = Arc a} b h p) =
    let x : List Line = Arc a ∷ [] in
    rw (
      flat_snoc lines (Arc a),
      in_order b,
      phases_kept lines x refl,
      synchronizers_kept lines x refl,
      arcs_append lines x,
      table_snoc arc_words (arcs_of lines) a,
    ) (simp append_assoc)

-- ---- the test of a line's place
pub in_place_lem : (stage : ℕ) (x : Line) → in_place stage x ≡ true → InPlace stage x
in_place_lem zero x h = eqb-true (rank x) 0 h
in_place_lem (suc stage) x h = leb-true (suc stage) (rank x) (rw (ne_eqb (suc stage) 0 (λ e. omega (arith, e))) at h)

pub placed : (stage : ℕ) (x : Line) → InPlace stage x → in_place stage x ≡ true
placed zero x h = eq-eqb (rank x) 0 h
placed (suc stage) x h = rw (ne_eqb (suc stage) 0 (λ e. omega (arith, e))) (le-leb (suc stage) (rank x) h)
