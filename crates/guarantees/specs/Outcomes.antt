-- What a host learns of a call of the C surface: the exported contract of the function, at the bytes and numbers of the call. Nothing else
-- is said of an outcome, and no definition of an answer is between it and the function.
use Rattle.std.specs.Prelude.{ℕ, ◌≡◌, List}
use contract.Lifetimes.{Lfts}
use denote.Triple.Clauses.{Lasts, at_exit}
use borrow.Fn.World.{ArgsD}
use Rattle.rules.specs.declared.Answer.{Answer}
use Rattle.rules.specs.declared.Written.{Written}
use Rattle.rules.specs.Job.{Call, call}
use Rattle.govahrin.specs.contracts as contracts
use Rattle.govahrin.proofs.govahrin_plan as govahrin_plan
use Rattle.govahrin.proofs.govahrin_check as govahrin_check
use Rattle.govahrin.proofs.govahrin_write_text as govahrin_write_text
use Rattle.govahrin.proofs.govahrin_read_text as govahrin_read_text

-- A call of `govahrin_plan` that asks about this job and its rounds, with this plan and room, ended with this answer and left this in the room.
pub record PlanOutcome (asked : Call) (plan : ℕ) (room : List ℕ) (answer : Answer) (room' : List ℕ) : Type 0 where
  pub lifetimes : Lfts (contracts.govahrin_plan.signature).lifetimes
  pub given : ArgsD contracts.govahrin_plan.signature lifetimes
  pub left : Lasts contracts.govahrin_plan.ended lifetimes given
  pub learnt : govahrin_plan.Reads.Learnt lifetimes given answer (at_exit contracts.govahrin_plan.ended lifetimes given left)
  pub with_call : call given.0.now given.1.1.0 ≡ asked
  pub with_plan : given.1.0 ≡ plan
  pub with_room : given.1.1.1.0.now ≡ room
  pub left_room : left.1.1.1.0 ≡ room'

-- A call of `govahrin_check` that asks about this job and its rounds, with this list and memory for ticks and slots, ended with this answer
-- and left this in that memory.
pub record CheckOutcome (asked : Call) (list ticks slots : List ℕ) (answer : Answer) (ticks' slots' : List ℕ) : Type 0 where
  pub lifetimes : Lfts (contracts.govahrin_check.signature).lifetimes
  pub given : ArgsD contracts.govahrin_check.signature lifetimes
  pub left : Lasts contracts.govahrin_check.ended lifetimes given
  pub learnt : govahrin_check.Reads.Learnt lifetimes given answer (at_exit contracts.govahrin_check.ended lifetimes given left)
  pub with_call : call given.0.now given.1.1.0 ≡ asked
  pub with_list : given.1.0.now ≡ list
  pub with_ticks : given.1.1.1.0.now ≡ ticks
  pub with_slots : given.1.1.1.1.0.now ≡ slots
  pub left_ticks : left.1.1.1.0 ≡ ticks'
  pub left_slots : left.1.1.1.1.0 ≡ slots'

-- A call of `govahrin_write_text` with this list and room for its text ended with this answer and left this in the room.
pub record WriteOutcome (list text : List ℕ) (answer : Written) (text' : List ℕ) : Type 0 where
  pub lifetimes : Lfts (contracts.govahrin_write_text.signature).lifetimes
  pub given : ArgsD contracts.govahrin_write_text.signature lifetimes
  pub left : Lasts contracts.govahrin_write_text.ended lifetimes given
  pub learnt : govahrin_write_text.Reads.Learnt lifetimes given answer (at_exit contracts.govahrin_write_text.ended lifetimes given left)
  pub with_list : given.0.now ≡ list
  pub with_text : given.1.0.now ≡ text
  pub left_text : left.1.0 ≡ text'

-- A call of `govahrin_read_text` with this text and room for its list ended with this answer and left this in the room.
pub record ReadOutcome (text list : List ℕ) (answer : Written) (list' : List ℕ) : Type 0 where
  pub lifetimes : Lfts (contracts.govahrin_read_text.signature).lifetimes
  pub given : ArgsD contracts.govahrin_read_text.signature lifetimes
  pub left : Lasts contracts.govahrin_read_text.ended lifetimes given
  pub learnt : govahrin_read_text.Reads.Learnt lifetimes given answer (at_exit contracts.govahrin_read_text.ended lifetimes given left)
  pub with_text : given.0.now ≡ text
  pub with_list : given.1.0.now ≡ list
  pub left_list : left.1.0 ≡ list'
