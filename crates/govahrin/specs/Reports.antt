-- What a check leaves in a row for ticks and in bytes for slots, beside its answer and the number of its draws.
use Rattle.std.specs.Prelude.{◌≡◌, List, ℕ, ◌≤◌, ◌*◌, length}
use Rattle.rules.specs.Display.{Run}
use Rattle.rules.specs.Refusals.{answer_of, ticks_of, slots_of, lent}
use Rattle.checker.specs.declared.checked.Checked.{Checked}

pub record Reports (run : Run) (r : Checked) (row row' slots slots' : List ℕ) : Type 0 where
  pub answers : r.answer ≡ answer_of run
  pub many : r.draws ≡ length (ticks_of run)
  pub at : row' ≡ lent (ticks_of run) row
  pub from : slots' ≡ lent (slots_of run) slots

-- Bytes for the first ticks of a row: four to each.
pub record ByteRoom (count : ℕ) (bytes row : List ℕ) : Type 0 where
  pub to : 4 * count ≤ length bytes
  pub from : count ≤ length row
