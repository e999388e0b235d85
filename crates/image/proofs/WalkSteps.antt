-- Steps that the walks of the reader's functions take many times: an operand that is a local, a store to a local, a local freed, a number
-- that joins what is owned, and what a callee tells of its result.
use mathlib.Core.Path.{◌≡◌, refl, subst}
use mathlib.Core.List.{List, [], ◌∷◌}
use Prim.Native.Nat.{ℕ, zero, ◌<◌, ◌^◌}
use seplogic.Ra.Ura.{Ura}
use base.Fraction.{full_share}
use mir.Syntax.{Ty, place, Opd as Operand, copy, Body, Rv as RValue, seq, assign, w64}
use mir.Val.{Val, vint}
use base.Logic.{SProp, ent, sep, ex, via, mono_l, mono_r, assoc'}
use base.Fml.{Share, Fml, fsep, fat, fdies}
use prog.Wp.{Env, Calls, Loops, spot_of}
use types.Logic.{Logic}
use contract.Monad.{fact}
use types.Kit.{Item, ‵, raw, ◌⊛◌, some, later, mean, ⋆, nth, del, pull, Post, Goal, runs, lands, frees, Seq, Step, Soaks, step, ◌$◌, move, use1, split, pick, fjoin, await}
use types.Run.{Opds, Rv, Writes, look, stop, from, load, and_then, assigns, land}
use denote.Laws.{Is}
use denote.Plain.{uint_Makes}
use denote.Builtin.{usize}
use denote.Steps.{owned, heard}

module _ {M : Type 1} {𝓤 : Ura M} {𝓛 : Logic 𝓤} {K : Type 0} {Γ : List (Item 𝓤)} where
  open 𝓛 use {H}

  module _ {E : Env 𝓤 H} where
    -- an operand that is the local at entry n, and those after it
    pub arg : K → (n : ℕ) {i : ℕ} {s : Share} {v : Val} {xs : List Operand} {vs : List Val}
        → nth 𝓛 n Γ ≡ ‵ (fat s (spot_of 𝓤 H E i).0 (spot_of 𝓤 H E i).1 zero v) → Opds K 𝓛 Γ E xs vs → Opds K 𝓛 Γ E (copy (place i []) ∷ xs) (v ∷ vs)
    arg t n e rest = and_then t (load t (from t (stop t)) (look t n e)) rest

    -- a local is set, by an assignment and by a call's result
    module _ {C : Calls 𝓤 H} {Λ : Loops 𝓤 H} {q : Post 𝓤 H} {rest : Body} {i : ℕ} {v : Val} {Γ' : List (Item 𝓤)} where
      pub sets : K → {rv : RValue} → Rv K 𝓛 Γ E rv v → Writes K 𝓛 Γ (spot_of 𝓤 H E i).0 (spot_of 𝓤 H E i).1 zero v Γ'
          → Step K 𝓛 Γ' (runs C Λ E rest q) Γ (runs C Λ E (seq (assign (place i []) rv) rest) q)
      sets t value w = assigns t value (from t (stop t)) w

      pub lands_in : K → Writes K 𝓛 Γ (spot_of 𝓤 H E i).0 (spot_of 𝓤 H E i).1 zero v Γ'
          → Step K 𝓛 Γ' (runs C Λ E rest q) Γ (lands C Λ E (place i []) v rest q)
      lands_in t w = land t (from t (stop t)) w

  -- the local at entry n is freed
  pub vacates : K → (n : ℕ) {τ : Ty} {b : ℕ} {v : Val} {E : Env 𝓤 H} {g : Goal 𝓤 H} → nth 𝓛 n Γ ≡ ‵ (fat full_share τ b zero v)
      → nth 𝓛 n (del 𝓛 n Γ) ≡ ‵ (fdies τ b) → Step K 𝓛 (del 𝓛 n (del 𝓛 n Γ)) (frees E g) Γ (frees ((τ, b) ∷ E) g)
  vacates t n {τ} {b} {v} e e' =
      let Δ = del 𝓛 n Γ in
      let Θ = del 𝓛 n Δ in
      let room : SProp 𝓤 = H.room τ b zero in
      let dies : SProp 𝓤 = H.dies τ b in
      let cell = subst (λ (j : Item 𝓤). ent 𝓤 (⋆ 𝓛 Γ) (sep 𝓤 (mean 𝓛 j) (⋆ 𝓛 Δ))) e (pull 𝓛 n Γ) in
      let end = subst (λ (j : Item 𝓤). ent 𝓤 (⋆ 𝓛 Δ) (sep 𝓤 (mean 𝓛 j) (⋆ 𝓛 Θ))) e' (pull 𝓛 n Δ) in
      step (λ s. record {
        prf = via 𝓤 (sep 𝓤 (H.at full_share τ b zero v) (⋆ 𝓛 Δ)) cell
            (via 𝓤 (sep 𝓤 room (⋆ 𝓛 Δ)) (mono_l 𝓤 (⋆ 𝓛 Δ) (𝓛.laws.at_room τ b zero v))
            (via 𝓤 (sep 𝓤 room (sep 𝓤 dies (⋆ 𝓛 Θ))) (mono_r 𝓤 room end)
            (via 𝓤 (sep 𝓤 (sep 𝓤 room dies) (⋆ 𝓛 Θ)) (assoc' 𝓤 room dies (⋆ 𝓛 Θ)) (mono_r 𝓤 (sep 𝓤 room dies) s.prf))));
      })

  -- a number owns facts alone: it joins what the head owns
  pub number : {G : Goal 𝓤 H} → K → (n : ℕ) → n < 2 ^ 64 → {F : Fml} → Step K 𝓛 (‵ (fsep (usize.own_val n (vint w64 n ∷ [])) F) ∷ Γ) G (‵ F ∷ Γ) G
  number t n ok = step (λ s. owned t usize (Is usize) (uint_Makes 𝓛 w64) n (vint w64 n ∷ []) (refl, ok) $ fjoin t $ s)

-- what a callee hands back, F at some result x, with Q of x, from which φ of x is learned
pub told : {M : Type 1} {𝓤 : Ura M} {K : Type 0} (𝓛 : Logic 𝓤) {Γ : List (Item 𝓤)} {G : Goal 𝓤 𝓛.H}
    {i : Item 𝓤} {X : Type 0} (F : X → Item 𝓤) {Q : X → SProp 𝓤} {φ : X → Type 0}
    → K → ((x : X) → ent 𝓤 (Q x) (fact 𝓤 (φ x))) → ent 𝓤 (mean 𝓛 i) (𝓛.H.⇛ (ex 𝓤 (λ x. sep 𝓤 (mean 𝓛 (F x)) (Q x)))) → Soaks G
    → ((x : X) → φ x → Seq K 𝓛 (F x ∷ Γ) G) → Seq K 𝓛 (i ∷ Γ) G
told {𝓤 = 𝓤} 𝓛 F {Q} {φ} t says back z k =
    use1 𝓛 (later (some (λ x. F x ⊛ raw (Q x)))) back $ await t z $ pick t (λ x.
    split t $ move t (1 ∷ []) $ use1 𝓛 (raw (fact 𝓤 (φ x))) (says x) $ heard t (φ x) (k x))
