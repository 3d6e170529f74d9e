-- The three demands, over every outcome of `govahrin_plan` and `govahrin_check`. What they speak of: crates/demands/specs.
use Prim.Native.Nat.{ℕ, ◌+◌, ◌*◌, ◌/◌, ◌≤◌}
use mathlib.Core.Path.{◌≡◌, refl, sym, ap, ◌∙◌}
use mathlib.Core.List.{List}
use mathlib.Core.Logic.{◌↔◌}
use lib.ListN.{length, take}
use lib.Seq.{take_at}
use lib.Dec.{eqb}
use borrow.Author.Tests.{eqb-true, eqb-false}
use Rattle.std.specs.Prelude.{Ok}
use Rattle.rules.specs.declared.Answer.{Answer}
use Rattle.rules.specs.Job.{Call, call, unrolled, draws_of}
use Rattle.rules.specs.LoadList.{head_size, event_size}
use Rattle.rules.specs.Plans.{last_plan}
use Rattle.rules.specs.Refusals.{read_call, planned, checked_for_c, answer_of, written_by, lent, ticks_of, slots_of, tick_bytes}
use Rattle.laws.proofs.Cases.{by_test}
use Rattle.demands.proofs.Demand1.{plan_refusals, check_refusals, plan_accepts, plan_full_or_refused, check_full_or_refused}
use Rattle.demands.proofs.Demand2.{accepted_exactly, plans_accepted}
use Rattle.demands.proofs.Demand3.{NoWorse, conservative_no_worse}
use Rattle.demands.proofs.Fits.{plan_size}
use Rattle.demands.specs.OneRound.{once_planned, once_checked}
use Rattle.demands.proofs.OneRound.{planned_once, checked_once}
use Rattle.guarantees.specs.Outcomes.{PlanOutcome, CheckOutcome}
use Rattle.guarantees.specs.Answers.{PlanAnswers, CheckAnswers, HoldsSheet}

-- ---- What the outcomes are by the rules

module _ {asked : Call} {plan : ℕ} {room : List ℕ} {answer : Answer} {room' : List ℕ} (o : PlanOutcome asked plan room answer room') where
  plan_answer : answer ≡ answer_of (planned asked plan (length room))
  plan_answer = rw (← o.with_call, ← o.with_plan, ← o.with_room) o.learnt.0

  plan_room : room' ≡ lent (written_by (planned asked plan (length room))) room
  plan_room = rw (← o.with_call, ← o.with_plan, ← o.with_room, ← o.left_room) o.learnt.1

module _ {asked : Call} {list ticks slots : List ℕ} {answer : Answer} {ticks' slots' : List ℕ}
    (o : CheckOutcome asked list ticks slots answer ticks' slots') where
  check_answer : answer ≡ answer_of (checked_for_c asked list (length ticks) (length slots))
  check_answer = rw (← o.with_call, ← o.with_list, ← o.with_ticks, ← o.with_slots) o.learnt.0

  check_ticks : ticks' ≡ lent (tick_bytes (ticks_of (checked_for_c asked list (length ticks) (length slots)))) ticks
  check_ticks = rw (← o.with_call, ← o.with_list, ← o.with_ticks, ← o.with_slots, ← o.left_ticks) o.learnt.1.0

  check_slots : slots' ≡ lent (slots_of (checked_for_c asked list (length ticks) (length slots))) slots
  check_slots = rw (← o.with_call, ← o.with_list, ← o.with_ticks, ← o.with_slots, ← o.left_slots) o.learnt.1.1

-- ---- Demand 1: a full answer, or the one refusal that the table gives, with lent memory as it was

module _ {asked : Call} {plan : ℕ} {room : List ℕ} {answer : Answer} {room' : List ℕ} (o : PlanOutcome asked plan room answer room') where
  pub plan_always_answers : PlanAnswers asked plan room answer room'
  plan_always_answers =
      let r = planned asked plan (length room) in
      let whole = plan_full_or_refused asked plan (length room) in
      by_test (eqb (answer_of r).number 0)
      (λ t.
      let none : (answer_of r).number ≡ 0 = eqb-true (answer_of r).number 0 t in
      rw (plan_answer o) (PlanAnswers.accepted none (whole.accepted none)))
      (λ t.
      let some : (answer_of r).number ≡ 0 → ⊥ = eqb-false (answer_of r).number 0 t in
      rw (plan_answer o)
      (PlanAnswers.refused ((plan_refusals asked plan (length room) _ _ some).0 (refl, refl)) (whole.counts some)
      (plan_room o ∙ whole.room some room)))

module _ {asked : Call} {list ticks slots : List ℕ} {answer : Answer} {ticks' slots' : List ℕ}
    (o : CheckOutcome asked list ticks slots answer ticks' slots') where
  pub check_always_answers : CheckAnswers asked list ticks slots answer ticks' slots'
  check_always_answers =
      let r = checked_for_c asked list (length ticks) (length slots) in
      let whole = check_full_or_refused asked list (length ticks / 4) (length slots) in
      by_test (eqb (answer_of r).number 0)
      (λ t.
      let none : (answer_of r).number ≡ 0 = eqb-true (answer_of r).number 0 t in
      rw (check_answer o) (CheckAnswers.accepted none (whole.accepted none)))
      (λ t.
      let some : (answer_of r).number ≡ 0 → ⊥ = eqb-false (answer_of r).number 0 t in
      rw (check_answer o)
      (CheckAnswers.refused ((check_refusals asked list (length ticks / 4) (length slots) _ _ some).0 (refl, refl)) (whole.counts some)
      (check_ticks o ∙ (whole.ticks some ticks).1, check_slots o ∙ whole.slots some slots)))

-- ---- Demand 2: what is accepted is right, and each plan is accepted

module _ {asked : Call} {list ticks slots : List ℕ} {answer : Answer} {ticks' slots' : List ℕ}
    (o : CheckOutcome asked list ticks slots answer ticks' slots') where
  -- A check accepts exactly the lists for which there is such a sheet, and it is the sheet that it hands out.
  pub check_accepts_exactly : (answer.number ≡ 0) ↔ HoldsSheet asked list ticks slots answer ticks' slots'
  check_accepts_exactly = (
    λ e.
        let r = checked_for_c asked list (length ticks) (length slots) in
        let same = check_answer o in
        record {
          at = ticks_of r;
          from = slots_of r;
          right = rw same
              ((accepted_exactly asked list (length ticks / 4) (length slots) (ticks_of r) (slots_of r) (answer_of r)).0
              (record { accepted = ap (λ (a : Answer). a.number) (sym same) ∙ e; ticks_are = refl; slots_are = refl; answer_is = refl }));
          ticks_hold = check_ticks o;
          slots_hold = check_slots o;
        },
    λ h. h.right.number,
  )

module _ {asked : Call} {plan : ℕ} {room : List ℕ} {answer : Answer} {room' : List ℕ} (o : PlanOutcome asked plan room answer room') where
  -- Each of the four plans of an accepted job, with room lent, is accepted.
  pub plan_is_accepted : read_call asked ≡ Ok (unrolled asked) → plan ≤ last_plan → head_size + event_size * length (draws_of asked) ≤ length room
      → answer.number ≡ 0
  plan_is_accepted taken known enough = rw (plan_answer o) ((plan_accepts asked plan (length room)).1 (taken, known, enough))

  -- The list that an accepted plan leaves at the front of the room, checked with places enough, is accepted with the plan's own answer.
  pub plan_is_checked : answer.number ≡ 0
      → {ticks slots : List ℕ} {again : Answer} {ticks' slots' : List ℕ}
      → CheckOutcome asked (take (head_size + event_size * answer.loads) room') ticks slots again ticks' slots'
      → length (draws_of asked) ≤ length ticks / 4
      → length (draws_of asked) ≤ length slots
      → again ≡ answer
  plan_is_checked done {ticks} {slots} checked tick_room slot_room =
      let r = planned asked plan (length room) in
      let same = plan_answer o in
      let zero : (answer_of r).number ≡ 0 = ap (λ (a : Answer). a.number) (sym same) ∙ done in
      let (taken, known, enough) = (plan_accepts asked plan (length room)).0 zero in
      let size : length (written_by r) ≡ head_size + event_size * answer.loads =
      rw same (plan_size asked plan (length room) zero).0 in
      let front : take (head_size + event_size * answer.loads) room' ≡ written_by r =
      ap (take (head_size + event_size * answer.loads)) (plan_room o) ∙ take_at (written_by r) _ _ size in
      let both = plans_accepted asked plan (length room) (length ticks / 4) (length slots) taken known enough tick_room slot_room in
      check_answer checked ∙ rw front both.same_answer ∙ sym same

-- ---- Demand 3: conservative against any accepted list

-- Of a job and a list that a check accepted, whoever made the list, conservative with room lent is accepted, makes no more loads, and takes
-- at most twice the ticks.
pub conservative_is_no_worse : {asked : Call} {list ticks slots : List ℕ} {list_answer : Answer} {ticks' slots' room : List ℕ} {plan_answer : Answer}
    {room' : List ℕ}
    → CheckOutcome asked list ticks slots list_answer ticks' slots' → list_answer.number ≡ 0
    → PlanOutcome asked 1 room plan_answer room' → head_size + event_size * length (draws_of asked) ≤ length room
    → NoWorse plan_answer list_answer
conservative_is_no_worse {asked} {list} {ticks} {slots} {room = room} check done plan enough =
    let zero = ap (λ (a : Answer). a.number) (sym (check_answer check)) ∙ done in
    rw (plan_answer plan, check_answer check)
    (conservative_no_worse asked list (length ticks / 4) (length slots) (length room) zero enough)

-- ---- One round: what a plan and a check were before there were rounds, to the last byte

pub one_round_planned : {job : List ℕ} {plan : ℕ} {room : List ℕ} {answer : Answer} {room' : List ℕ}
    → PlanOutcome (call job 1) plan room answer room'
    → (answer ≡ answer_of (once_planned job plan (length room))) × (room' ≡ lent (written_by (once_planned job plan (length room))) room)
one_round_planned {job} {plan} {room} o = rw (← planned_once job plan (length room)) (plan_answer o, plan_room o)

pub one_round_checked : {job list ticks slots : List ℕ} {answer : Answer} {ticks' slots' : List ℕ}
    → CheckOutcome (call job 1) list ticks slots answer ticks' slots'
    → (answer ≡ answer_of (once_checked job list (length ticks / 4) (length slots)))
    × ((ticks' ≡ lent (tick_bytes (ticks_of (once_checked job list (length ticks / 4) (length slots)))) ticks)
    × (slots' ≡ lent (slots_of (once_checked job list (length ticks / 4) (length slots))) slots))
one_round_checked {job} {list} {ticks} {slots} o =
    rw (← checked_once job list (length ticks / 4) (length slots)) (check_answer o, (check_ticks o, check_slots o))
