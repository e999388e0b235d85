-- The promise leaves one answer and one content of the buffer: a text has one reading or one fault, its image has one check, and a buffer is
-- long enough or not.
use mathlib.Core.Path.{◌≡◌, refl, sym, ap, ◌∙◌}
use mathlib.Core.List.{List, ◌++◌}
use Rattle.std.specs.Prelude.{Result, Ok, Err}
use Prim.Native.Nat.{ℕ}
use native.Mathlib.Omega.{arith}
use lib.ListN.{length, drop}
use Rattle.image.specs.Checks.{check_of}
use Rattle.image.specs.declared.header.Image.{Image}
use Rattle.image.specs.Refusal.{refusal}
use Rattle.image.specs.declared.refusal.Rule.TheVariants as by
use Rattle.image.specs.declared.refusal.Refusal.{Refusal}
use Rattle.image.proofs.Alike.{err_is_not_ok}
use Rattle.grammar.specs.Text.{Reads}
use Rattle.grammar.specs.Layout.{image_from}
use Rattle.grammar.specs.declared.read.Line.{Line}
use Rattle.grammar.proofs.OneReading.{reads_one, fault_one, reads_not_fault}
use Rattle.text.specs.TextPromise.{TextCall, faulty, refused, short, made}

-- two readings of a text have one check
check_one : {text : List ℕ} {xs ys : List Line} {c d : Result Image Refusal} → Reads text xs → Reads text ys →
    check_of (image_from xs) ≡ c → check_of (image_from ys) ≡ d → c ≡ d
check_one {xs = xs} r s p q = sym p ∙ ap (λ (l : List Line). check_of (image_from l)) (reads_one r s) ∙ q

long_one : {text : List ℕ} {xs ys : List Line} → Reads text xs → Reads text ys → length (image_from xs) ≡ length (image_from ys)
long_one r s = ap (λ (l : List Line). length (image_from l)) (reads_one r s)

pub text_one : {text before : List ℕ} {X Y : Result ℕ Refusal} {a b : List ℕ} → TextCall text before X a → TextCall text before Y b → (X ≡ Y) × (a ≡ b)
text_one (faulty f) (faulty g) = (ap (λ (n : ℕ). Err (refusal by.Text n)) (fault_one f g), refl)
text_one (faulty f) (refused s q) = absurd (reads_not_fault s f)
text_one (faulty f) (short s q m) = absurd (reads_not_fault s f)
text_one (faulty f) (made s q m) = absurd (reads_not_fault s f)
text_one (refused r p) (faulty g) = absurd (reads_not_fault r g)
text_one (refused r p) (refused s q) = let e = check_one r s p q in (cc, refl)
text_one (refused r p) (short s q m) = absurd (err_is_not_ok (check_one r s p q))
text_one (refused r p) (made s q m) = absurd (err_is_not_ok (check_one r s p q))
text_one (short r p l) (faulty g) = absurd (reads_not_fault r g)
text_one (short r p l) (refused s q) = absurd (err_is_not_ok (sym (check_one r s p q)))
text_one (short r p l) (short s q m) = (refl, refl)
text_one (short r p l) (made s q m) = let no : ⊥ = omega (arith, long_one r s, l, m) in absurd no
text_one (made r p l) (faulty g) = absurd (reads_not_fault r g)
text_one (made r p l) (refused s q) = absurd (err_is_not_ok (sym (check_one r s p q)))
text_one (made r p l) (short s q m) = let no : ⊥ = omega (arith, long_one r s, l, m) in absurd no
text_one {before = before} (made r p l) (made s q m) =
    (ap Ok (long_one r s), ap (λ (l : List Line). image_from l ++ drop (length (image_from l)) before) (reads_one r s))
