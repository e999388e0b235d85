-- The greater and the lesser of two whole numbers.
use Rattle.std.specs.Prelude.{cond, ℤ}
use Rattle.std.specs.Int.Signed.{lt_z}

unfoldable pub max_ℤ : ℤ → ℤ → ℤ
max_ℤ a b = cond (lt_z a b) b a

unfoldable pub min_ℤ : ℤ → ℤ → ℤ
min_ℤ a b = cond (lt_z b a) b a
