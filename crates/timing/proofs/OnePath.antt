-- The promise of the path question leaves one outcome, and there always is one. The cases are told apart by questions asked in order:
-- is the image refused, are there too few places, is there no such synchronizer, no arc into it, a growing ring? The first that is
-- answered with yes is one number, and within a case everything that is left follows from the input.
use mathlib.Core.Path.{◌≡◌, refl, sym, ap, ◌∙◌}
use mathlib.Core.List.{List, ◌++◌}
use mathlib.Core.Logic.{inl, inr}
use Rattle.std.specs.Prelude.{Result, Ok, Err}
use Prim.Native.Nat.{ℕ, zero, suc, ◌≤◌, ◌<◌}
use native.Mathlib.Omega.{arith}
use native.Mathlib.Decide.{dec_lt, ℕ_discrete}
use lib.IntN.{ℤ}
use lib.ListN.{length, drop}
use Rattle.image.specs.Checks.{check_of}
use Rattle.image.specs.Valid.{image_in}
use Rattle.image.specs.Refusal.{refusal}
use Rattle.image.specs.declared.header.Image.{Image}
use Rattle.image.specs.declared.refusal.Rule.TheVariants as by
use Rattle.image.specs.declared.refusal.Refusal.{Refusal}
use Rattle.image.proofs.Validity.{accepts, accepted_is}
use Rattle.image.proofs.Alike.{err_is_not_ok}
use Rattle.flow.specs.Flow.{Good, late, Least}
use Rattle.flow.specs.Bounds.{Unentered}
use Rattle.flow.specs.Walk.{GrowingRing}
use Rattle.flow.specs.Path.{PathTo}
use Rattle.flow.proofs.Pigeonhole.{some_or_all}
use Rattle.flow.proofs.Walks.{fits_calm}
use Rattle.flow.proofs.Path.{path_walk}
use Rattle.flow.proofs.HasPath.{entered_path}
use Rattle.flow.proofs.SamePath.{path_same}
use Rattle.circuit.specs.Circuit.{circuit_of}
use Rattle.circuit.specs.Clock.{flow}
use Rattle.circuit.proofs.Sound.{Sound, sound, good}
use Rattle.circuit.proofs.Solved.{decided, worked, worked_least}
use Rattle.timing.specs.declared.trail.Path.{Path}
use Rattle.timing.specs.PathPromise.{Asked, PathCall, refused, few_arcs, no_such, unentered, growing, found}
use Rattle.timing.proofs.FirstYes.{Past, start, on, FirstYes, yes_at, one_outcome}

-- a path, or a refusal
abbrev Answer : Type 0
Answer = Result Path Refusal

module _ (bytes : List ℕ) (i : ℕ) (arcs : List ℕ) where
  -- the questions, in order; the last is always answered with yes
  abbrev Question : ℕ → Type 0
  Question zero = (why : Refusal) × (check_of bytes ≡ Err why)
  Question (suc zero) = length arcs < (circuit_of bytes).synchronizers
  Question (suc (suc zero)) = (circuit_of bytes).synchronizers ≤ i
  Question (suc (suc (suc zero))) = Unentered (flow late (circuit_of bytes)) i (circuit_of bytes).arcs
  Question (suc (suc (suc (suc zero)))) = GrowingRing (flow late (circuit_of bytes))
  Question (suc (suc (suc (suc (suc k))))) = Unit {0}

  -- this answer, and nothing written
  abbrev Only : Answer → Answer → List ℕ → Type 0
  Only x X A = (X ≡ x) × (A ≡ arcs)

  -- what is left open in each case
  abbrev Left : Answer → List ℕ → ℕ → Type 0
  Left X A zero = (why : Refusal) × (check_of bytes ≡ Err why) × Only (Err why) X A
  Left X A (suc zero) = Only (Err (refusal by.ArcBuffer 0)) X A
  Left X A (suc (suc zero)) = Only (Err (refusal by.NoSynchronizer 0)) X A
  Left X A (suc (suc (suc zero))) = Only (Err (refusal by.NothingEnters 0)) X A
  Left X A (suc (suc (suc (suc zero)))) = Only (Err (refusal by.GrowingLoop 0)) X A
  Left X A (suc (suc (suc (suc (suc k))))) = (D : ℕ → ℤ) × (s : ℕ) × (p : List ℕ) × Good (flow late (circuit_of bytes))
      × Least late (flow late (circuit_of bytes)) D × PathTo (flow late (circuit_of bytes)) D i s p
      × (X ≡ Ok (record { launch = s; count = length p })) × (A ≡ p ++ drop (length p) arcs)

  past_image : check_of bytes ≡ Ok (image_in bytes) → Past Question 1
  past_image ok = on Question 0 (start Question) (λ q. err_is_not_ok (sym q.1 ∙ ok))

  past_room : check_of bytes ≡ Ok (image_in bytes) → (circuit_of bytes).synchronizers ≤ length arcs → Past Question 2
  past_room ok room = on Question 1 (past_image ok) (λ q. omega arith)

  past_number : Asked bytes i arcs → Past Question 3
  past_number a = on Question 2 (past_room a.good a.arcs_fit) (λ q. omega (arith, a.inside))

  past_entry : (a : ℕ) → Asked bytes i arcs → a < (circuit_of bytes).arcs → (circuit_of bytes).to a ≡ i → Past Question 4
  past_entry a asked l e = on Question 3 (past_number asked) (λ q. q a l e)

  held : check_of bytes ≡ Ok (image_in bytes) → Sound (circuit_of bytes)
  held ok = sound bytes ((accepts bytes).1 ok)

  case_of : {X : Answer} {A : List ℕ} → PathCall bytes i arcs X A → FirstYes Question (Left X A)
  case_of (refused {why} e) = yes_at Question 0 (start Question) (why, e) (why, e, (refl, refl))
  case_of (few_arcs ok h) = yes_at Question 1 (past_image ok) h (refl, refl)
  case_of (no_such ok room h) = yes_at Question 2 (past_room ok room) h (refl, refl)
  case_of (unentered asked h) = yes_at Question 3 (past_number asked) h (refl, refl)
  case_of (growing a asked l e ring) = yes_at Question 4 (past_entry a asked l e) ring (refl, refl)
  case_of (found D s p asked least path) =
      let f = flow late (circuit_of bytes) in
      let v = good late (circuit_of bytes) (held asked.good) in
      let w = path_walk f D i s p path in
      let past = on Question 4 (past_entry path.last asked w.1 w.2) (fits_calm f v D least.fits) in
      yes_at Question 5 past tt (D, s, p, v, least, path, refl, refl)

  -- within one case
  module _ {X Y : Answer} {A B : List ℕ} where
    same : {x : Answer} → Only x X A → Only x Y B → (X ≡ Y) × (A ≡ B)
    same h k = (h.0 ∙ sym k.0, h.1 ∙ sym k.1)

    alike : (k : ℕ) → Left X A k → Left Y B k → (X ≡ Y) × (A ≡ B)
    alike zero h k =
        let a = h.1 in
        let b = k.1 in
        let e : h.0 ≡ k.0 = cc in
        (h.2.0 ∙ ap Err e ∙ sym k.2.0, h.2.1 ∙ sym k.2.1)
    alike (suc zero) h k = same h k
    alike (suc (suc zero)) h k = same h k
    alike (suc (suc (suc zero))) h k = same h k
    alike (suc (suc (suc (suc zero)))) h k = same h k
    alike (suc (suc (suc (suc (suc n))))) h k =
        let e = path_same (flow late (circuit_of bytes)) h.3 h.0 k.0 h.4 k.4 i h.1 k.1 h.2 k.2 h.5 k.5 in
        (h.6 ∙ rw (e.0, e.1) (sym k.6), h.7 ∙ rw e.1 (sym k.7))

    -- two outcomes that keep the promise are the same: the answer, and the buffer as it is left
    pub path_only : PathCall bytes i arcs X A → PathCall bytes i arcs Y B → (X ≡ Y) × (A ≡ B)
    path_only x y = one_outcome Question alike (case_of x) (case_of y)

  -- some outcome keeps the promise: each question is decided
  abbrev Answered : Type 0
  Answered = (X : Answer) × (A : List ℕ) × PathCall bytes i arcs X A

  entered : (a : ℕ) → Asked bytes i arcs → a < (circuit_of bytes).arcs → (circuit_of bytes).to a ≡ i → Answered
  entered a asked l e =
      let c = circuit_of bytes in
      let v = held asked.good in
      elim (decided c v) [
        | inl calm ↦ (
            let least = worked_least c v calm.0 calm.1 late in
            let h = entered_path (flow late c) (good late c v) (worked c v late) least i a l e in
            (Ok (record { launch = h.0; count = length h.1 }), h.1 ++ drop (length h.1) arcs, found (worked c v late) h.0 h.1 asked least h.3)
            )
        | inr ring ↦ (Err (refusal by.GrowingLoop 0), arcs, growing a asked l e ring)
      ]

  asking : Asked bytes i arcs → Answered
  asking asked =
      let to = (circuit_of bytes).to in
      elim (some_or_all (λ a. to a ≡ i) (λ a. to a ≡ i → ⊥) (circuit_of bytes).arcs
      (λ a l. elim (ℕ_discrete (to a) i) [ yes e ↦ inl e | no d ↦ inr d ])) [
        | inl h ↦ entered h.0 asked h.1 h.2
        | inr d ↦ (Err (refusal by.NothingEnters 0), arcs, unentered asked d)
      ]

  serving : check_of bytes ≡ Ok (image_in bytes) → Answered
  serving ok = elim (dec_lt (length arcs) (circuit_of bytes).synchronizers) [
    | yes l ↦ (Err (refusal by.ArcBuffer 0), arcs, few_arcs ok l)
    | no l ↦ elim (dec_lt i (circuit_of bytes).synchronizers) [
      | no k ↦ (Err (refusal by.NoSynchronizer 0), arcs, no_such ok (omega arith) (omega arith))
      | yes k ↦ asking (record { good = ok; arcs_fit = omega arith; inside = k })
    ]
  ]

  pub path_some : Answered
  path_some = go (check_of bytes) refl
    where
      go : (c : Result Image Refusal) → check_of bytes ≡ c → Answered
      go (Err why) e = (Err why, arcs, refused e)
      go (Ok image) e = serving (rw (accepted_is bytes image e) at e)
