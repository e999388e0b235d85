-- Delay windows as they are written. An expression is one or more branches parted by `|`, a branch is one or more atoms joined by `+`, and an
-- atom is `LO:HI` or an expression in round brackets.
use Rattle.std.specs.Prelude.{List, [], ◌∷◌, ◌++◌, ℕ, suc, ◌+◌, ◌≤◌, min, max}
use Prim.Native.Char.{code}
use Rattle.grammar.specs.Numbers.{greatest, Number}

-- the least and the greatest delay
pub record Window : Type 0 where
  pub low : ℕ
  pub high : ℕ

-- the two ways to join windows
pub data Join : Type 0 where
  series : Join
  parallel : Join

-- `+` adds both ends; `|` takes the lesser low and the greater high
abbrev pub joined : Join → Window → Window → Window
joined series v w = record { low = v.low + w.low; high = v.high + w.high }
joined parallel v w = record { low = min v.low w.low; high = max v.high w.high }

-- the byte between the parts of a row
abbrev pub between : Join → ℕ
between series = code "+"
between parallel = code "|"

-- an atom, or a row of parts that are joined
pub data Form : Type 0 where
  atom : Form
  row : Join → Form

abbrev pub branch : Form
branch = row series

abbrev pub expression : Form
expression = row parallel

-- a branch has atoms, an expression has branches
abbrev pub part : Join → Form
part series = atom
part parallel = branch

abbrev pub colon : ℕ
colon = code ":"

abbrev pub opening : ℕ
opening = code "("

abbrev pub closing : ℕ
closing = code ")"

-- `Means form depth s w`: s has that form, with brackets at most so deep, and means the window w
pub data Means : Form → ℕ → List ℕ → Window → Type 0 where
  ends : {depth lo hi : ℕ} {s t : List ℕ} → Number s lo → Number t hi → lo ≤ hi → Means atom depth (s ++ (colon ∷ t)) (record { low = lo; high = hi })
  bracketed : {depth : ℕ} {s : List ℕ} {w : Window} → Means expression depth s w → Means atom (suc depth) (opening ∷ (s ++ (closing ∷ []))) w
  one_part : {j : Join} {depth : ℕ} {s : List ℕ} {w : Window} → Means (part j) depth s w → Means (row j) depth s w
  one_more : {j : Join} {depth : ℕ} {s t : List ℕ} {v w : Window} → Means (row j) depth s v → Means (part j) depth t w →
      Means (row j) depth (s ++ (between j ∷ t)) (joined j v w)

abbrev pub deepest : ℕ
deepest = 16

-- s is written for the window w
pub record Written (s : List ℕ) (w : Window) : Type 0 where
  pub means : Means expression deepest s w
  pub small : w.high ≤ greatest
