-- Each promise of this crate is an equation between the answer and a definition, so it leaves one answer.
use mathlib.Core.Path.{◌≡◌, sym, ◌∙◌}
use mathlib.Core.List.{List}
use Rattle.std.specs.Prelude.{Option, Result}
use Prim.Native.Nat.{ℕ}
use denote.Ref.{Bor}
use Rattle.image.specs.Checks.{check_of}
use Rattle.image.specs.Reader.{found_of, reader_at, next_of}
use Rattle.image.specs.declared.header.Image.{Image}
use Rattle.image.specs.declared.refusal.Refusal.{Refusal}
use Rattle.image.specs.declared.reader.Reader.{Reader}

pub only {ℓ} : {A : Type ℓ} {x y meant : A} → x ≡ meant → y ≡ meant → x ≡ y
only p q = p ∙ sym q

pub check_only : (bytes : List ℕ) (a b : Result Image Refusal) → a ≡ check_of bytes → b ≡ check_of bytes → a ≡ b
check_only bytes a b p q = only p q

-- the reader's: the image, the place and what was found are all fixed
pub reader_only : (image : Bor (List ℕ)) (at : ℕ) (a b : Reader) → a ≡ reader_at image at → b ≡ reader_at image at → a ≡ b
reader_only image at a b p q = only p q

pub next_only : {R : Type 0} (from : List ℕ → ℕ → R) (r : Reader) (size end : ℕ) (a b : Reader) (x y : Option R) → a ≡ next_of r size end → b ≡ next_of r size end
    → x ≡ found_of from r.bytes.now r.at size end → y ≡ found_of from r.bytes.now r.at size end → (a ≡ b) × (x ≡ y)
next_only from r size end a b x y p q found found' = (only p q, only found found')
