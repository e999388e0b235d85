-- The records of an image as lists of words, for `laid` (grammar's specs/Layout) to lay out.
use Rattle.std.specs.Prelude.{List, [], ◌∷◌, ℕ}

-- a delay window: least to greatest
infix 60 ◌to◌
pub data Window : Type 0 where
  ◌to◌ : ℕ → ℕ → Window

-- closing time and active length
abbrev pub phase : ℕ → ℕ → List ℕ
phase closing active = closing ∷ active ∷ []

-- phase, setup, hold, delays; kind 0 is a latch, kind 1 a flip-flop
abbrev pub latch : ℕ → ℕ → ℕ → Window → List ℕ
latch phase setup hold (least to greatest) = phase ∷ 0 ∷ setup ∷ hold ∷ least ∷ greatest ∷ []

abbrev pub flip_flop : ℕ → ℕ → ℕ → Window → List ℕ
flip_flop phase setup hold (least to greatest) = phase ∷ 1 ∷ setup ∷ hold ∷ least ∷ greatest ∷ []

-- from, to, delays
abbrev pub arc : ℕ → ℕ → Window → List ℕ
arc source target (least to greatest) = source ∷ target ∷ least ∷ greatest ∷ []
