-- Demand 2: which lists a check accepts, and with which numbers, said from the list alone; and each of the four plans is accepted.
-- To be held beside specs/Held.antt (what a slot holds at a tick) and specs/Fair.antt (which lists are right).
use Prim.Native.Nat.{ℕ, ◌+◌, ◌*◌, ◌≤◌}
use mathlib.Core.Path.{◌≡◌}
use mathlib.Core.List.{List}
use mathlib.Core.Logic.{◌↔◌}
use lib.ListN.{length}
use Rattle.std.specs.Prelude.{Ok}
use Rattle.rules.specs.declared.Answer.{Answer}
use Rattle.rules.specs.Job.{Call, unrolled, draws_of}
use Rattle.rules.specs.LoadList.{head_size, event_size}
use Rattle.rules.specs.Plans.{last_plan}
use Rattle.rules.specs.Refusals.{read_call, checked, planned, answer_of, ticks_of, slots_of, written_by}
use Rattle.plan_laws.proofs.Plans.{plan_checked}
use Rattle.demands.specs.Fair.{Right}
use Rattle.demands.proofs.Exactly.{accepted_is_right, right_is_accepted, right_is_reported}
use Rattle.demands.proofs.Refusing.{check_goes}

-- What a check reports: it answers 0, with these counts, these draw ticks and these slots.
pub record Reports (asked : Call) (list : List ℕ) (tick_places slot_places : ℕ) (ticks slots : List ℕ) (answer : Answer) : Type 0 where
  pub accepted : (answer_of (checked asked list tick_places slot_places)).number ≡ 0
  pub ticks_are : ticks_of (checked asked list tick_places slot_places) ≡ ticks
  pub slots_are : slots_of (checked asked list tick_places slot_places) ≡ slots
  pub answer_is : answer_of (checked asked list tick_places slot_places) ≡ answer

-- A check accepts a list with a sheet of ticks, slots and counts exactly when by the list alone every load may begin and every draw is
-- made from a slot that holds its symbol at that tick, as soon as one does, and the counts are those of that sheet.
pub accepted_exactly : (asked : Call) (list : List ℕ) (tick_places slot_places : ℕ) (ticks slots : List ℕ) (answer : Answer)
    → Reports asked list tick_places slot_places ticks slots answer ↔ Right asked list tick_places slot_places ticks slots answer
accepted_exactly asked list tick_places slot_places ticks slots answer = (
  λ r.
      let (s, ran) = check_goes asked list tick_places slot_places r.accepted in
      rw (r.ticks_are, r.slots_are, r.answer_is) at (accepted_is_right asked list tick_places slot_places s ran),
  λ r.
      let (s, ran) = right_is_accepted asked list tick_places slot_places ticks slots answer r in
      let (same_ticks, same_slots, same_answer) = right_is_reported asked list tick_places slot_places ticks slots answer r in
      record { accepted = rw ran; ticks_are = same_ticks; slots_are = same_slots; answer_is = same_answer },
)

-- A plan and the check of the list that it writes: both are accepted, with the same answer and the same draws.
pub record Checks (asked : Call) (plan room ticks slots : ℕ) : Type 0 where
  pub plan_accepted : (answer_of (planned asked plan room)).number ≡ 0
  pub list_accepted : (answer_of (checked asked (written_by (planned asked plan room)) ticks slots)).number ≡ 0
  pub same_answer : answer_of (checked asked (written_by (planned asked plan room)) ticks slots) ≡ answer_of (planned asked plan room)
  pub same_ticks : ticks_of (checked asked (written_by (planned asked plan room)) ticks slots) ≡ ticks_of (planned asked plan room)
  pub same_slots : slots_of (checked asked (written_by (planned asked plan room)) ticks slots) ≡ slots_of (planned asked plan room)

-- Of a job that is accepted, each of the four plans with room lent answers 0, and its list, checked with room lent, is accepted with the
-- same elapsed, waits, loads and longest wait and the same draws.
pub plans_accepted : (asked : Call) (plan room ticks slots : ℕ) → read_call asked ≡ Ok (unrolled asked) → plan ≤ last_plan
    → head_size + event_size * length (draws_of asked) ≤ room → length (draws_of asked) ≤ ticks → length (draws_of asked) ≤ slots
    → Checks asked plan room ticks slots
plans_accepted asked plan room ticks slots taken known enough tick_room slot_room =
    let (s, ran, again) = plan_checked asked (unrolled asked) plan room ticks slots taken known enough tick_room slot_room in
    record {
      plan_accepted = rw ran;
      list_accepted = rw again;
      same_answer = rw again (rw ran);
      same_ticks = rw again (rw ran);
      same_slots = rw again (rw ran);
    }
