-- The order of a check's refusals as the code meets it: what each reading and each test says of the order.
use Prim.Native.Nat.{ℕ, ◌≤◌}
use mathlib.Core.Path.{◌≡◌, refl, sym, ap, subst, ◌∙◌}
use mathlib.Core.Bool.{Bool, true, false, ◌||◌}
use mathlib.Core.List.{List, ◌∷◌, ◌++◌}
use lib.ListN.{length}
use lib.Dec.{ltb}
use borrow.Author.Tests.{ltb-false}
use Rattle.std.specs.Prelude.{Some, Result, Ok, Err}
use Rattle.rules.specs.declared.refusal.Refusal.{Refusal}
use Rattle.rules.specs.declared.refusal.Refusal.TheVariants.{ShortRoom, EventTick}
use Rattle.rules.specs.declared.Unrolled.{Unrolled}
use Rattle.rules.specs.Refusing.{refusal_number, refusal_detail}
use Rattle.rules.specs.Order.{Test, test, Verdict, clear, met, first_of}
use Rattle.rules.specs.Job.{Call, call, job_of}
use Rattle.rules.specs.LoadList.{events_of}
use Rattle.rules.specs.Display.{Run, refused}
use Rattle.rules.specs.Refusals.{call_tests, read_call, bad_list, read_list, short_check, first_bad_tick, follows, check_tests, checked}
use Rattle.laws.specs.Limits.{Limits}
use Rattle.laws.proofs.Cases.{neither}
use Rattle.laws.proofs.Verdicts.{Gives, gives, end, stop, step}
use Rattle.laws.proofs.Jobs.{limits, past_call, same_call}
use Rattle.laws.proofs.Checks.{checked_met, checked_past}
use Rattle.sheet.specs.Ticks.{in_order}
use Rattle.sheet.proofs.Lists.{past_list, same_events, at_order, past_order, ticks_hold, ticks_broken}
use Rattle.display.specs.declared.state.Display.{Display}
use Rattle.checker.specs.declared.job.TakenJob.{TakenJob}
use Rattle.checker.specs.Follow.{HasRoom, HandedOut, call_of, events_along, runs_along}

-- ---- The room

-- The test of the lent room, as the code has it from the shape that was read.
pub room_test_lem : (asked : Call) (reading : Result Unrolled Refusal) (shape : Unrolled) (ticks slots : ℕ) (r : Bool) → reading ≡ read_call asked
    → reading ≡ Ok shape → r ≡ (ltb ticks shape.draws || ltb slots shape.draws) → r ≡ short_check asked ticks slots
unfolding short_check
room_test_lem asked reading shape ticks slots r is taken e = rw (limits asked shape (sym is ∙ taken)).many_draws e

-- ---- The answer

-- A job that was taken keeps to the limits, also for the rounds that its size names.
pub taken_limits : (asked : Call) (shape : Unrolled) → read_call asked ≡ Ok shape → Limits (call asked.job shape.rounds) shape
taken_limits asked shape taken = subst (λ (a : Call). Limits a shape) (same_call asked shape taken) (limits asked shape taken)

-- So it is the call that was asked.
pub asked_again : (asked : Call) (job : TakenJob) → read_call asked ≡ Ok job.shape → job.bytes.now ≡ asked.job → asked ≡ call_of job
asked_again asked job taken there = same_call asked job.shape taken ∙ ap (λ (b : List ℕ). call b job.shape.rounds) (sym there)

-- Past the test of the room.
pub roomy_read : (shape : Unrolled) (ticks slots : List ℕ) (r : Bool)
    → r ≡ (ltb (length ticks) shape.draws || ltb (length slots) shape.draws) → r ≡ false → HasRoom shape ticks slots
roomy_read shape ticks slots r tested fails =
    let (tick_room, slot_room) = neither (ltb (length ticks) shape.draws) (ltb (length slots) shape.draws) (sym tested ∙ fails) in
    record { tick_room = ltb-false _ _ tick_room; slot_room = ltb-false _ _ slot_room }

-- Once both were read, the tests after those of the job and of the list decide.
pub past_both : (asked : Call) (list : List ℕ) (shape : Unrolled) (count : ℕ) {later : List Test} {v : Verdict} → read_call asked ≡ Ok shape
    → read_list list ≡ Some count → Gives later v → Gives (call_tests asked ++ (test 8 0 (bad_list list) ∷ later)) v
past_both asked list shape count taken read g =
    past_call asked (read_call asked) shape refl taken (past_list list (read_list list) count refl read g)

-- ---- The check

module _ (asked : Call) (list ticks slots : List ℕ) where
  abbrev run : Run
  run = checked asked list (length ticks) (length slots)

  -- A check that is refused hands out nothing.
  pub refuses : (e : Refusal) → Gives (check_tests asked list (length ticks) (length slots)) (met (refusal_number e) (refusal_detail e))
      → HandedOut run (Err e) ticks ticks slots slots
  refuses e g =
      let is : run ≡ refused (refusal_number e) (refusal_detail e) =
      checked_met asked list (length ticks) (length slots) (refusal_number e) (refusal_detail e) (gives _ _ g) in
      record { answers = rw is; many = rw is; at = rw is; from = rw is }

  -- Once the job was taken and the list was read, its bytes being these: the test of the room, of its ticks, and then its run.
  module _ (shape : Unrolled) (count : ℕ) (bytes : List ℕ) (taken : read_call asked ≡ Ok shape) (read : read_list list ≡ Some count)
      (same : bytes ≡ list) (r : Bool) (tested : r ≡ (ltb (length ticks) shape.draws || ltb (length slots) shape.draws)) where
    first : ℕ
    first = first_bad_tick 0 (events_along count list)

    room : r ≡ short_check asked (length ticks) (length slots)
    room = room_test_lem asked (read_call asked) shape (length ticks) (length slots) r refl taken tested

    pub room_refused : r ≡ true → HandedOut run (Err ShortRoom) ticks ticks slots slots
    room_refused short = refuses ShortRoom (past_both asked list shape count taken read (stop r room short))

    pub ticks_refused : r ≡ false → (why : Refusal) → Err why ≡ in_order count bytes → HandedOut run (Err why) ticks ticks slots slots
    unfolding first
    ticks_refused enough why e =
        let (out, is) = ticks_broken count list why (rw same at e) in
        rw is
        (refuses (EventTick first)
        (past_both asked list shape count taken read (step r room enough (at_order list (read_list list) count first refl read refl out))))

    pub hands_out : r ≡ false → (done : Unit {0}) → Ok done ≡ in_order count bytes → (again : Call) → asked ≡ again
        → (x : Result Display Refusal) (ticks' slots' : List ℕ) → HandedOut (runs_along again count bytes) x ticks ticks' slots slots'
        → HandedOut run x ticks ticks' slots slots'
    unfolding first
    hands_out enough done e again is_again x ticks' slots' handed =
        let over : count ≤ first = ticks_hold count list done (rw same at e) in
        let past : first_of (check_tests asked list (length ticks) (length slots)) ≡ clear =
        gives _ _ (past_both asked list shape count taken read (step r room enough (past_order list (read_list list) count first refl read refl over end))) in
        let is : run ≡ runs_along again count bytes =
        checked_past asked list (length ticks) (length slots) past
        ∙ ap (λ (a : Call). follows (job_of a) (events_of list)) is_again
        ∙ ap (follows (job_of again)) (same_events list (read_list list) count refl read)
        ∙ ap (runs_along again count) (sym same) in
        subst (λ (y : Run). HandedOut y x ticks ticks' slots slots') (sym is) handed
