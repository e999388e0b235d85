-- A page as its writers see it.
use Rattle.std.specs.Prelude.{List, ◌++◌, ℕ, take, drop, length}
use Rattle.std.specs.Borrow.{GName}
use Rattle.report.specs.declared.page.Page.{Page}

-- what is written, what stands in the rest of the buffer, and which buffer it is
pub record Sheet : Type 0 where
  pub words : List ℕ
  pub rest : List ℕ
  pub buffer : GName

abbrev pub sheet : Page → Sheet
sheet page = record { words = take page.end page.text.now; rest = drop page.end page.text.now; buffer = page.text.ghost_name }

-- more words follow those that stand; what is past them stays
infixl 55 ◌then◌
abbrev pub ◌then◌ : Sheet → List ℕ → Sheet
s then more = record { words = s.words ++ more; rest = drop (length more) s.rest; buffer = s.buffer }

-- how many more words a page takes
abbrev pub room : Page → ℕ
room page = length (sheet page).rest
