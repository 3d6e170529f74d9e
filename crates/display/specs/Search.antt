-- What a search for a symbol answers.
use Rattle.std.specs.Prelude.{ℕ, ◌≤◌, ◌≡◌, List, length}
use Rattle.rules.specs.Basics.{place}

-- The first place of the symbol in the row, or the row's length where the symbol is not in it.
pub record Found (symbol : ℕ) (row : List ℕ) (r : ℕ) : Type 0 where
  pub first : r ≡ place symbol row
  pub within : r ≤ length row
