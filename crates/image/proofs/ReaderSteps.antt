-- Steps of the walks of `Reader::next` and `first`, each by itself: what a reader owns gives what its bytes own; what the calls of `onward` and of
-- `Reader::new` ask and tell; and that the last two fields of a struct's machine value have their types together where each has its own.
-- The idea: a reader is Copy, so what it owns is had twice, and of one copy the bytes' part is taken. Numbers own facts alone, which are made anew.
use mathlib.Core.Path.{◌≡◌}
use mathlib.Core.Bool.{Bool, true, false, ◌&&◌}
use mathlib.Core.List.{List, [], ◌∷◌}
use Prim.Native.Nat.{ℕ, ◌<◌, ◌^◌}
use lib.Dec.{T}
use lib.ListN.{length}
use seplogic.Ra.Ura.{Ura}
use mir.Syntax.{Ty, named, w8, w64}
use mir.Val.{Val, WT, has_ty, vint}
use base.Logic.{SProp, ent, sep, emp, snd∗, ex_e}
use base.Fml.{Lft, Share, Fml, ftrue, fsep, flft}
use prog.Memory.{Memory}
use prog.Routine.{Routine}
use types.Logic.{Logic, sem}
use contract.Lifetimes.{Lfts}
use contract.Monad.{Fun, fact}
use types.Kit.{Item, Goal, Step, step, ‵, ◌⊛◌, given, ⋆, ◌$◌, ◌∵◌, !, qed, move, drop, use1, split, join, learn, fjoin, frame, done}
use denote.RattleType.{RattleType}
use denote.Laws.{Is}
use denote.Plain.{uint_row_laws}
use denote.Builtin.{u8}
use denote.Ref.{Bor}
use denote.Signature.{named_lft}
use denote.Slice.{slice_val, ShrSlice, shr_slice_copy}
use denote.Steps.{owned, nothing}
use denote.Enum.Laws as EL
use denote.Struct.Declared.{Declared}
use denote.Struct.Laws as LL
use denote.Struct.Rest.{all_own, field_own, rest, own_open, own_out}
use denote.Struct.Values.{Values}
use denote.Triple.Statement.{Contract}
use denote.Triple.Clauses.{ensured, lasts}
use denote.Triple.Spec.{triple_of}
use Rattle.image.specs.Reader.{onward_of, reader_at}
use Rattle.image.specs.declared.header.Part.{Part}
use Rattle.image.specs.declared.reader.Reader.{Reader}
use Rattle.image.proofs.WalkSteps.{number}
use Rattle.image.specs.contracts.header.Part as P
use Rattle.image.proofs.header.Part.TheLaws as P'
use Rattle.image.specs.contracts.reader.Reader as R
use Rattle.image.proofs.reader.Reader.TheLaws as R'
use Rattle.image.specs.contracts.reader.Reader.new as new
use Rattle.image.specs.contracts.reader.onward as onward

both : (a b : Bool) → T a → T b → T (a && b)
both true b p q = q
both false b p q = absurd p

pub last_two : (σ τ : Ty) (u w : Val) → T (has_ty σ u) × WT u → T (has_ty τ w) × WT w → T (has_ty σ u && (has_ty τ w && true)) × (WT u × (WT w × Unit {0}))
last_two σ τ u w p q = (both (has_ty σ u) (has_ty τ w && true) p.0 (both (has_ty τ w) true q.0 tt), (p.1, (q.1, tt)))

-- what a slice owns, and what a reader owns
abbrev pub slice_owns : Lft → Bor (List ℕ) → Fml
slice_owns κ s = (ShrSlice (named 0) κ u8).own_val s (slice_val s.ref_ptr (length s.now) ∷ [])

abbrev pub reader_owns : Lft → Reader → Fml
reader_owns κ d = (R.the_row (named_lft 1 0 tt (κ, tt))).own_val d (R'.lowered d ∷ [])

-- the reader's type and laws, over a signature's lifetimes
abbrev pub reader_row : Lfts 1 → RattleType
reader_row κs = R.the_row (named_lft 1 0 tt κs)

abbrev pub reader_type : Lfts 1 → Declared
reader_type κs = R.the_type (named_lft 1 0 tt κs)

abbrev pub reader_laws : (κs : Lfts 1) → LL.Laws (reader_type κs)
reader_laws κs = R'.the_laws (named_lft 1 0 tt κs)

-- what is known of a table, a part of the image, that was passed. It owns facts alone, and joins what the head owns
abbrev pub TableKnown : Part → Type 0
TableKnown p = Is P.the_row p (EL.vals P.the_type P'.the_laws p)

pub tabled : {M : Type 1} {𝓤 : Ura M} {𝓛 : Logic 𝓤} {K : Type 0} {Γ : List (Item 𝓤)}
    {G : Goal 𝓤 𝓛.H} → K → (p : Part) → TableKnown p → {F : Fml}
    → Step K 𝓛 (‵ (fsep ((P.the_row).own_val p (EL.vals P.the_type P'.the_laws p)) F) ∷ Γ) G (‵ F ∷ Γ) G
tabled {𝓤 = 𝓤} {𝓛 = 𝓛} t p known = step (λ s. owned t P.the_row (Is P.the_row) (EL.makes P.the_type P'.the_plain 𝓛) p _ known $ fjoin t $ s)

module _ {M : Type 1} {𝓤 : Ura M} (𝓛 : Logic 𝓤) (κ : Lft) (d : Reader) where
  -- the reader's type and laws, and its fields' values
  abbrev D : Declared
  D = reader_type (κ, tt)

  abbrev L : LL.Laws D
  L = reader_laws (κ, tt)

  abbrev vd : Values D.parts
  vd = (d.bytes, (d.at, tt))

  pub bytes_lent : ent 𝓤 (sem 𝓛 (reader_owns κ d)) (sep 𝓤 (sem 𝓛 (slice_owns κ d.bytes)) (sem 𝓛 (reader_owns κ d)))
  bytes_lent =
      qed 𝓛 (‵ (reader_owns κ d) ∷ []) ∵
      use1 𝓛 (‵ (reader_owns κ d) ⊛ ‵ (reader_owns κ d)) ((LL.copy D (R'.the_copy (named_lft 1 0 tt (κ, tt))) 𝓛).twice d (R'.lowered d ∷ [])) $ split ! $
      use1 𝓛 (given (R'.lowered d ∷ [] ≡ R'.lowered d ∷ []) (‵ (all_own D.parts L vd))) (own_open 𝓛 D L vd (R'.lowered d)) $ learn ! (λ _.
      use1 𝓛 (‵ (field_own D.parts L 0 d.bytes) ⊛ ‵ (rest D.parts L 0 vd)) (own_out 𝓛 D.parts L 0 vd) $ split ! $ move ! (1 ∷ []) $ drop ! $ done !)

module _ {M : Type 1} {𝓤 : Ura M} (𝓛 : Logic 𝓤) (mem : Memory → SProp 𝓤) (run : Routine → Fun 𝓤) where
  abbrev pub OnwardContract : Contract 𝓤
  OnwardContract = triple_of 𝓛 onward.signature (onward.spec 𝓛 mem run)

  abbrev pub New : Contract 𝓤
  New = triple_of 𝓛 new.signature (new.spec 𝓛 mem run)

-- the call of `onward`: what it is passed, what it asks, and what is known of its result
module _ {M : Type 1} {𝓤 : Ura M} (𝓛 : Logic 𝓤) (mem : Memory → SProp 𝓤) (run : Routine → Fun 𝓤) (i m n : ℕ) where
  abbrev pub to_onward : (OnwardContract 𝓛 mem run).Ghost
  to_onward = ((tt, tt, tt, (i, (m, (n, tt))), (vint w64 i ∷ [], (vint w64 m ∷ [], (vint w64 n ∷ [], tt)))), tt)

  pub goes_onward : i < 2 ^ 64 → m < 2 ^ 64 → n < 2 ^ 64 → ent 𝓤 (emp 𝓤) ((OnwardContract 𝓛 mem run).pre to_onward)
  goes_onward at_Ok Size-ok end-ok =
      qed 𝓛 [] ∵ nothing ! $ number ! n end-ok $ number ! m Size-ok $ number ! i at_Ok $ nothing ! $ join ! $ frame ! $ done !

  -- of the callee's `ensured`, the clause alone: it has no `&mut`, so what is said of last values is dropped
  pub onward_said : (k : ℕ) → ent 𝓤 (ensured 𝓛 onward.ended (onward.clauses 𝓛 mem run) tt (i, (m, (n, tt))) tt k) (fact 𝓤 (k ≡ onward_of i m n))
  onward_said k = ex_e 𝓤 _ (λ ws. snd∗ 𝓤 (sem 𝓛 (lasts onward.ended tt (i, (m, (n, tt))) ws)) (fact 𝓤 (k ≡ onward_of i m n)))

-- the call of `Reader::new`: the same. A slice is Copy, so what it owns is kept
module _ {M : Type 1} {𝓤 : Ura M} (𝓛 : Logic 𝓤) (mem : Memory → SProp 𝓤) (run : Routine → Fun 𝓤)
    (κ : Lft) (q : Share) (s : Bor (List ℕ)) (i : ℕ) where
  abbrev pub to_new : (New 𝓛 mem run).Ghost
  to_new = (((κ, tt), (q, tt), tt, (s, (i, tt)), (slice_val s.ref_ptr (length s.now) ∷ [], (vint w64 i ∷ [], tt))), tt)

  pub goes_new : i < 2 ^ 64
      → ent 𝓤 (⋆ 𝓛 (‵ (slice_owns κ s) ∷ (‵ (flft κ q) ⊛ ‵ ftrue) ∷ [])) (sep 𝓤 ((New 𝓛 mem run).pre to_new) (sem 𝓛 (slice_owns κ s)))
  goes_new at_Ok =
      qed 𝓛 (‵ (slice_owns κ s) ∷ (‵ (flft κ q) ⊛ ‵ ftrue) ∷ []) ∵
      use1 𝓛 (‵ (slice_owns κ s) ⊛ ‵ (slice_owns κ s)) ((shr_slice_copy 𝓛 (named 0) κ u8 (uint_row_laws w8)).twice s (slice_val s.ref_ptr (length s.now) ∷ [])) $ split ! $
      nothing ! $ number ! i at_Ok $ move ! (1 ∷ 0 ∷ []) $ fjoin ! $ move ! (2 ∷ 0 ∷ []) $ join ! $ nothing ! $ move ! (1 ∷ 0 ∷ []) $ join ! $ frame ! $ done !

  pub new_said : (r : Reader) → ent 𝓤 (ensured 𝓛 new.ended (new.clauses 𝓛 mem run) (κ, tt) (s, (i, tt)) tt r) (fact 𝓤 (r ≡ reader_at s i))
  new_said r = ex_e 𝓤 _ (λ ws. snd∗ 𝓤 (sem 𝓛 (lasts new.ended (κ, tt) (s, (i, tt)) ws)) (fact 𝓤 (r ≡ reader_at s i)))
