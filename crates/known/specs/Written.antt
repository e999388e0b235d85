-- Circuits with known numbers as a person writes them (circuits/), and what the call that makes an image from a text gives for each.
use Rattle.std.specs.Prelude.{◌≡◌, List, ◌++◌, ℕ, ◌≤◌, length, drop, Result, Ok, Err}
use Prim.Native.String.{String}
use Rattle.image.specs.Refusal.{refusal}
use Rattle.image.specs.declared.refusal.Rule.TheVariants as by
use Rattle.image.specs.declared.refusal.Refusal.{Refusal}
use Rattle.report.specs.Ascii.{ascii}
use Rattle.text.specs.TextPromise.{TextCall}
use Rattle.known.specs.Circuits.{p1}

-- circuits/p1.text
abbrev pub p1_text : String
p1_text = "tc 100\nphase 50 40\nphase 100 40\nlatch 0 10 5 5:10\nlatch 1 10 5 5:10\narc 1 0 10:20\narc 0 1 20:60\n"

-- circuits/p6.text: the same circuit, its windows put together from others
abbrev pub p6_text : String
p6_text = "tc 100\nphase 50 40\nphase 100 40\nlatch 0 10 5 5:10\nlatch 1 10 5 5:10\narc 1 0 (10:15+0:5)\narc 0 1 (20:25|15:40)+5:20\n"

-- circuits/bad_line.text: a dash in the place of the colon
abbrev pub bad_text : String
bad_text = "tc 100\nphase 50 40\nphase 100 40\nlatch 0 10 5 5-10\nlatch 1 10 5 5:10\narc 1 0 10:20\narc 0 1 20:60\n"

-- whatever the call leaves in a buffer that is long enough, it is the image, and the rest of the buffer as it was
abbrev pub MakesImage : String → List ℕ → Type 0
MakesImage text image = (before : List ℕ) → length image ≤ length before → (X : Result ℕ Refusal) (after : List ℕ) → TextCall (ascii text) before X after →
    (X ≡ Ok (length image)) × (after ≡ image ++ drop (length image) before)

-- whatever the call is lent, the text is refused for that line, and the buffer stays
abbrev pub RefusedFor : String → ℕ → Type 0
RefusedFor text line = (before : List ℕ) (X : Result ℕ Refusal) (after : List ℕ) → TextCall (ascii text) before X after →
    (X ≡ Err (refusal by.Text line)) × (after ≡ before)

pub record Texts : Type 0 where
  pub p1_made : MakesImage p1_text p1
  pub p6_made : MakesImage p6_text p1
  pub bad_line : RefusedFor bad_text 3
