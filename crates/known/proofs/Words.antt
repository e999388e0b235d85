-- That images and the mark are what docs/RULES.md says: P1 is these 32 words (that a word reads back as itself is grammar's `Word-back`), and the
-- mark in digits.
use mathlib.Core.Path.{◌≡◌, refl}
use mathlib.Core.List.{List, [], ◌∷◌, ◌++◌}
use Prim.Native.Nat.{ℕ}
use lib.IntN.{pos}
use Rattle.circuit.specs.Times.{mark}
use Rattle.grammar.specs.Layout.{bytes_of}
use Rattle.known.specs.Circuits.{p1}

header : List ℕ
header = 1 ∷ 100 ∷ 2 ∷ 2 ∷ 2 ∷ 32 ∷ 48 ∷ 96 ∷ []

phases : List ℕ
phases = 50 ∷ 40 ∷ 100 ∷ 40 ∷ []

synchronizers : List ℕ
synchronizers = 0 ∷ 0 ∷ 10 ∷ 5 ∷ 5 ∷ 10 ∷ 1 ∷ 0 ∷ 10 ∷ 5 ∷ 5 ∷ 10 ∷ []

arcs : List ℕ
arcs = 1 ∷ 0 ∷ 10 ∷ 20 ∷ 0 ∷ 1 ∷ 20 ∷ 60 ∷ []

p1_words : p1 ≡ bytes_of (header ++ phases ++ synchronizers ++ arcs)
unfolding p1 header phases synchronizers arcs
p1_words = refl

mark_digits : mark ≡ pos 9_223_372_036_854_775_807
mark_digits = refl
