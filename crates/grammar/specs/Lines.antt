-- Lines as they are written, without their line feed: a word and its fields, parted by one space.
use Rattle.std.specs.Prelude.{List, [], ◌∷◌, ◌++◌, ℕ}
use Prim.Native.Char.{code}
use Rattle.grammar.specs.Numbers.{Number}
use Rattle.grammar.specs.Windows.{Window, Written}
use Rattle.grammar.specs.declared.read.Line.{Line}
use Rattle.grammar.specs.declared.read.Line.TheVariants.{Cycle, Phase, Synchronizer, Arc}

abbrev pub space : ℕ
space = code " "

-- one field, a space, and what follows
infixr 5 ◌then◌
abbrev pub ◌then◌ : List ℕ → List ℕ → List ℕ
s then t = s ++ (space ∷ t)

abbrev pub tc : List ℕ
tc = code "t" ∷ code "c" ∷ []

abbrev pub phase : List ℕ
phase = code "p" ∷ code "h" ∷ code "a" ∷ code "s" ∷ code "e" ∷ []

abbrev pub latch : List ℕ
latch = code "l" ∷ code "a" ∷ code "t" ∷ code "c" ∷ code "h" ∷ []

abbrev pub flop : List ℕ
flop = code "f" ∷ code "l" ∷ code "o" ∷ code "p" ∷ []

abbrev pub arc : List ℕ
arc = code "a" ∷ code "r" ∷ code "c" ∷ []

-- the words for the kinds of synchronizer
pub data Kind : List ℕ → ℕ → Type 0 where
  latch_kind : Kind latch 0
  flop_kind : Kind flop 1

-- `Says s line`: the bytes s are that line
pub data Says : List ℕ → Line → Type 0 where
  -- tc N
  cycle : {s : List ℕ} {n : ℕ} → Number s n → Says (tc then s) (Cycle n)
  -- phase E T
  a_phase : {s t : List ℕ} {e a : ℕ} → Number s e → Number t a → Says (phase then s then t) (Phase (record { closing = e; active = a }))
  -- latch P S H W, flop P S H W
  a_synchronizer : {name s t u x : List ℕ} {kind p setup hold : ℕ} {w : Window} →
      Kind name kind → Number s p → Number t setup → Number u hold → Written x w →
      Says
      (name then s then t then u then x)
      (Synchronizer (record { phase = p; kind = kind; setup = setup; hold = hold; least = w.low; greatest = w.high }))
  -- arc FROM TO W
  an_arc : {s t x : List ℕ} {from to : ℕ} {w : Window} → Number s from → Number t to → Written x w →
      Says (arc then s then t then x) (Arc (record { from = from; to = to; least = w.low; greatest = w.high }))
