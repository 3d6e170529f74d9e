-- An order of refusals: tests one after the other, of which the first that holds gives its number and its detail.
-- (Document 01, "Refusal numbers": "given exactly when", and the orders for a plan and a check below the table)
use Rattle.std.specs.Prelude.{ℕ, Bool, true, false, List, [], ◌∷◌}

-- A test of an order: the number and the detail of its refusal, and whether it holds.
pub data Test : Type 0 where
  test : (number detail : ℕ) (holds : Bool) → Test

-- What an order comes to: no test holds, or one is met, the first that holds.
pub data Verdict : Type 0 where
  clear : Verdict
  met : (number detail : ℕ) → Verdict

unfoldable pub first_of : List Test → Verdict
first_of [] = clear
first_of (test number detail true ∷ later) = met number detail
first_of (test number detail false ∷ later) = first_of later

-- The number of a verdict; 0 where no test holds.
abbrev pub number_in : Verdict → ℕ
number_in clear = 0
number_in (met number detail) = number
