-- Words stored one behind the other: where all have room, they are their bytes, stored from the first place on.
use mathlib.Core.Path.{◌≡◌, refl, sym, ◌∙◌}
use mathlib.Core.List.{List, [], ◌∷◌, append_assoc}
use Prim.Native.Nat.{ℕ, ◌+◌, ◌*◌, ◌≤◌}
use native.Mathlib.Omega.{arith}
use lib.ListN.{length, take, drop}
use lib.Seq.{sets, sets-eq}
use borrow.Author.Tests.{le-leb}
use Rattle.std.proofs.lemmas.List.{drop-drop}
use borrow.Rule.Slice.PartMut.{put_mid}
use Rattle.image.specs.Header.{most_bytes}
use Rattle.image.proofs.Lists.{sets_append}
use Rattle.grammar.specs.Layout.{le32, bytes_of}
use Rattle.text.specs.Inside.Stores.{stored, stored_all, behind_words}

-- four bytes written over as many
pub four_bytes : (room bytes : List ℕ) (at size word : ℕ) → bytes ≡ le32 word → size ≡ 4 → length room ≡ most_bytes → at + 4 ≤ most_bytes →
    put_mid at size room bytes ≡ stored room at word
unfolding stored
four_bytes room bytes at size word same four long h =
    rw (same, four, le-leb (at + 4) most_bytes h, sets-eq (le32 word) room at (omega arith), append_assoc (take at room) (le32 word) (drop (at + 4) room), drop-drop 4 at room) refl

pub behind_words_lem : (at : ℕ) (words : List ℕ) → behind_words at words ≡ at + 4 * length words
behind_words_lem at [] = omega arith
behind_words_lem at (word ∷ words) = omega (arith, behind_words_lem (at + 4) words)

pub stored_all_lem : (room : List ℕ) (at : ℕ) (words : List ℕ) → behind_words at words ≤ most_bytes → stored_all room at words ≡ sets room at (bytes_of words)
unfolding stored
stored_all_lem room at [] h = refl
stored_all_lem room at (word ∷ words) h =
    let fits : at + 4 ≤ most_bytes = omega (arith, h, behind_words_lem (at + 4) words) in
    let e = stored_all_lem (sets room at (le32 word)) (at + 4) words h in
    rw (le-leb (at + 4) most_bytes fits) (e ∙ sym (sets_append (le32 word) (bytes_of words) room at))
