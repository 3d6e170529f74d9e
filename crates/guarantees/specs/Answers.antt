-- What the guarantees say of an outcome: a full answer or a refusal by the table, and a sheet that is right by the list alone.
use Rattle.std.specs.Prelude.{ℕ, ◌/◌, ◌≤◌, ◌≡◌, List, length}
use Rattle.rules.specs.declared.Answer.{Answer}
use Rattle.rules.specs.declared.Written.{Written}
use Rattle.rules.specs.Job.{Call}
use Rattle.rules.specs.Refusals.{lent, tick_bytes}
use Rattle.demands.specs.Table.{Gives, Row, plan_rows, Given, NoCounts}
use Rattle.demands.specs.Fair.{Right}

-- A plan is accepted with number 0 and detail 0; or it is refused with the number and detail that the table gives, without counts, and the
-- room is as it was.
pub data PlanAnswers (asked : Call) (plan : ℕ) (room : List ℕ) (answer : Answer) (room' : List ℕ) : Type 0 where
  accepted : answer.number ≡ 0 → answer.detail ≡ 0 → PlanAnswers asked plan room answer room'
  refused : Gives (plan_rows asked plan (length room)) answer.number answer.detail
      → NoCounts answer
      → room' ≡ room
      → PlanAnswers asked plan room answer room'

-- The same of a check and its two buffers. It has a place for a tick to every four bytes lent.
pub data CheckAnswers (asked : Call) (list ticks slots : List ℕ) (answer : Answer) (ticks' slots' : List ℕ) : Type 0 where
  accepted : answer.number ≡ 0 → answer.detail ≡ 0 → CheckAnswers asked list ticks slots answer ticks' slots'
  refused : Given asked list (length ticks / 4) (length slots) answer.number answer.detail
      → NoCounts answer
      → (ticks' ≡ ticks) × (slots' ≡ slots)
      → CheckAnswers asked list ticks slots answer ticks' slots'

-- A sheet of draw ticks and slots that is right by the list alone, and the lent memory holds it.
pub record HoldsSheet (asked : Call) (list ticks slots : List ℕ) (answer : Answer) (ticks' slots' : List ℕ) : Type 0 where
  pub at : List ℕ
  pub from : List ℕ
  pub right : Right asked list (length ticks / 4) (length slots) at from answer
  pub ticks_hold : ticks' ≡ lent (tick_bytes at) ticks
  pub slots_hold : slots' ≡ lent from slots

-- A call that writes into lent room wrote these bytes: number 0, detail 0 and their size; they are at the front of the room, and all after
-- them is as it was.
pub record Wrote (bytes room : List ℕ) (answer : Written) (room' : List ℕ) : Type 0 where
  pub number : answer.number ≡ 0
  pub detail : answer.detail ≡ 0
  pub size : answer.size ≡ length bytes
  pub fits : length bytes ≤ length room
  pub holds : room' ≡ lent bytes room

-- It wrote some bytes; or it is refused with the number and detail that its table gives, with size 0, and the room is as it was.
pub data WriteAnswers (rows : List Row) (room : List ℕ) (answer : Written) (room' : List ℕ) : Type 1 where
  accepted : (bytes : List ℕ) → Wrote bytes room answer room' → WriteAnswers rows room answer room'
  refused : Gives rows answer.number answer.detail → answer.size ≡ 0 → room' ≡ room → WriteAnswers rows room answer room'
