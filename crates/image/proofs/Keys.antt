-- An arc's key is one number in which `to` weighs more than any `from`: where keys rise, so do arcs, by `to` and then by `from`.
use mathlib.Core.Path.{◌≡◌}
use mathlib.Core.Bool.{true, false, ◌||◌}
use mathlib.Core.List.{List}
use mathlib.Core.Logic.{inl, inr}
use Prim.Native.Nat.{ℕ, ◌+◌, ◌-◌, ◌*◌, ◌<◌, ◌≤◌, ◌^◌}
use native.Mathlib.Omega.{arith}
use native.Mathlib.Decide.{dec_lt}
use lib.Dec.{ltb, leb}
use Rattle.image.specs.Header.{longest_delay}
use Rattle.image.specs.Records.{arc_at}
use Rattle.image.specs.Rules.{precedes, bad_order}
use Rattle.image.specs.declared.header.Image.{Image}
use Rattle.image.specs.declared.records.Arc.{Arc}
use Rattle.image.proofs.Tests.{ltb_iff, leb_iff, below_iff, same_iff, or_iff, and_iff, both_iff, either_iff, not_iff}

abbrev pub key_of : Arc → ℕ
key_of a = 4294967296 * a.to + a.from

pub keys_rise : (a b : Arc) → b.from < 2 ^ 32 → key_of a < key_of b → precedes a b ≡ true
keys_rise a b h l =
    (either_iff _ _ (below_iff a.to b.to) (both_iff _ _ (same_iff a.to b.to) (below_iff a.from b.from))).1
    (elim (dec_lt a.to b.to) [ yes p ↦ inl p | no p ↦ inr (omega arith, omega arith) ])

-- rule 9 of arc i, from what was kept of the arc before
pub in_order : (bytes : List ℕ) (image : Image) (i next : ℕ) → (let arc = arc_at bytes image.layout in
    (arc i).from < 2 ^ 32 → (0 < i → next ≡ key_of (arc (i - 1)) + 1) → next ≤ key_of (arc i) → bad_order bytes image i ≡ false)
unfolding bad_order
in_order bytes image i next small kept l =
    (and_iff _ _ (below_iff 0 i) (not_iff _ (λ h. h, λ h. h))).1
    (λ p. keys_rise (arc_at bytes image.layout (i - 1)) (arc_at bytes image.layout i) small (omega (arith, kept p, l)))

-- an arc that keeps rule 8 ends below l, so that one more than its key is still a number of 64 bits
pub to_below : (a : Arc) (l : ℕ) → (leb l a.from || leb l a.to || ltb a.greatest a.least || ltb longest_delay a.greatest) ≡ false → a.to < l
to_below a l h =
    ((or_iff _ _ (or_iff _ _ (or_iff _ _ (leb_iff l a.from) (leb_iff l a.to)) (ltb_iff a.greatest a.least)) (ltb_iff longest_delay a.greatest)).0 h).0.0.1
