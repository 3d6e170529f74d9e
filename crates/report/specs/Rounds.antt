-- The number of rounds that a word names in decimal: digits alone, no zero before others, and not over 32 bits. (Document 02, "Five")
use Rattle.std.specs.Prelude.{ℕ, ◌+◌, ◌*◌, ◌-◌, Bool, cond, ◌&&◌, List, [], ◌∷◌, Option, Some, None, option_and_then, eqb, leb}

abbrev pub most_rounds : ℕ
most_rounds = 4294967295

-- The digit 0 is byte 48.
abbrev pub is_digit : ℕ → Bool
is_digit b = leb 48 b && leb b 57

-- A number with one byte more after it. No digit comes after a zero.
abbrev pub with_byte : (number byte : ℕ) → Option ℕ
with_byte n b =
    cond
    (eqb n 0)
    None
    (cond (is_digit b) (cond (leb (10 * n + (b - 48)) most_rounds) (Some (10 * n + (b - 48))) None) None)

-- The number that a word names whose first bytes name `n`.
unfoldable pub rounds_from : (n : ℕ) → List ℕ → Option ℕ
rounds_from n [] = Some n
rounds_from n (b ∷ word) = option_and_then (λ more. rounds_from more word) (with_byte n b)

unfoldable pub rounds_in : List ℕ → Option ℕ
rounds_in [] = None
rounds_in (b ∷ word) = cond (is_digit b) (rounds_from (b - 48) word) None
