-- What is known of a check that was not refused.
use Prim.Native.Nat.{ℕ, ◌≤◌}
use native.Mathlib.Omega.{arith}
use mathlib.Core.Path.{◌≡◌, refl, sym, ap, ◌∙◌}
use mathlib.Core.Bool.{false}
use mathlib.Core.List.{List, []}
use lib.ListN.{length}
use lib.Dec.{ltb}
use borrow.Author.Tests.{ltb-false, le-ltb}
use Rattle.std.specs.Prelude.{Ok}
use Rattle.rules.specs.declared.Unrolled.{Unrolled}
use Rattle.rules.specs.Order.{Verdict, clear, met, first_of}
use Rattle.rules.specs.Job.{Job, Call, unrolled, draws_of, job_of}
use Rattle.rules.specs.declared.Event.{Event}
use Rattle.rules.specs.LoadList.{events_of}
use Rattle.rules.specs.Display.{State, going, refused, unless, start, finished, run}
use Rattle.rules.specs.Refusals.{job_tests, call_tests, read_call, bad_list, short_check, first_bad_tick, follow, most_ticks, closing, follows}
use Rattle.rules.specs.Refusals.{check_tests, checked}
use Rattle.laws.proofs.Cases.{by_test, neither}
use Rattle.laws.proofs.Verdicts.{clear_of, clear_append, unless_going, step, end, gives}
use Rattle.laws.proofs.Moves.{then_going, is_over}
use Rattle.laws.proofs.Jobs.{Proper, proper, clear_taken, past_call}
use Rattle.laws.proofs.Along.{Ruly, bad_tick_within, AlongBetween, along}

-- A check that is not refused: the job is taken in its rounds, the list can be read, the lent room suffices, no event is out of order, and the run
-- along the list is over with every event begun.
pub record Accepted (asked : Call) (list : List ℕ) (ticks slots : ℕ) (s : State) : Type 0 where
  pub job_taken : read_call asked ≡ Ok (unrolled asked)
  pub list_read : bad_list list ≡ false
  pub tick_room : length (draws_of asked) ≤ ticks
  pub slot_room : length (draws_of asked) ≤ slots
  pub ordered : Ruly 0 (events_of list)
  pub ran : run (job_of asked) (follow (events_of list)) (most_ticks (job_of asked)) (start (job_of asked)) ≡ going s
  pub over : s.rest ≡ []
  pub all_begun : s.loads ≡ length (events_of list)

-- Where no event is out of order the list is in order.
pub in_order : (events : List Event) → ltb (first_bad_tick 0 events) (length events) ≡ false → Ruly 0 events
in_order events e =
    let at_least : length events ≤ first_bad_tick 0 events = ltb-false _ _ e in
    let at_most : first_bad_tick 0 events ≤ length events = bad_tick_within 0 events in
    omega arith

-- A run along a list in order that is accepted.
followed : (job : Job) (events : List Event) → Proper job → Ruly 0 events → (s : State) → follows job events ≡ going s
    → (run job (follow events) (most_ticks job) (start job) ≡ going s) × (s.rest ≡ []) × (s.loads ≡ length events)
followed job events p ordered s e =
    let (last, ran, closed) = then_going (run job (follow events) (most_ticks job) (start job)) (closing events) s e in
    by_test (finished last.rest)
    (λ over.
    by_test (ltb last.loads (length events))
    (λ c. let g : refused 14 last.loads ≡ going s = rw (over, c) at closed in let z : ◌≡◌ {A = ℕ} 0 1 = cc in absurd (omega arith))
    (λ c.
    let same : last ≡ s = let z : going last ≡ going s = rw (over, c) at closed in cc in
    let ran' : run job (follow events) (most_ticks job) (start job) ≡ going s = ran ∙ ap going same in
    let a : AlongBetween job events s = along job events p ordered (most_ticks job) s ran' in
    let all : length events ≤ s.loads = rw same at (ltb-false last.loads (length events) c) in
    (ran', is_over s.rest (rw same at over), omega arith)))
    (λ more. let g : refused 13 last.next ≡ going s = rw more at closed in let z : ◌≡◌ {A = ℕ} 0 1 = cc in absurd (omega arith))

-- A check is refused by the test that its order comes to, and past them all it is the run along the list.
pub checked_met : (asked : Call) (list : List ℕ) (ticks slots n d : ℕ) → first_of (check_tests asked list ticks slots) ≡ met n d
    → checked asked list ticks slots ≡ refused n d
unfolding checked
checked_met asked list ticks slots n d e = ap (λ (v : Verdict). unless v (follows (job_of asked) (events_of list))) e

pub checked_past : (asked : Call) (list : List ℕ) (ticks slots : ℕ) → first_of (check_tests asked list ticks slots) ≡ clear
    → checked asked list ticks slots ≡ follows (job_of asked) (events_of list)
unfolding checked
checked_past asked list ticks slots e = ap (λ (v : Verdict). unless v (follows (job_of asked) (events_of list))) e

-- A call that is taken, a list that can be read, places enough and events in order: past all tests.
pub checked_follows : (asked : Call) (list : List ℕ) (ticks slots : ℕ) (shape : Unrolled) → read_call asked ≡ Ok shape → bad_list list ≡ false
    → length (draws_of asked) ≤ ticks → length (draws_of asked) ≤ slots → Ruly 0 (events_of list)
    → checked asked list ticks slots ≡ follows (job_of asked) (events_of list)
unfolding short_check
checked_follows asked list ticks slots shape taken good tick_room slot_room ordered =
    checked_past asked list ticks slots
    (gives _ _
    (past_call asked (read_call asked) shape refl taken
    (step false (sym good) refl
    (step false (rw (le-ltb ticks (length (draws_of asked)) tick_room, le-ltb slots (length (draws_of asked)) slot_room)) refl
    (step false (rw (le-ltb (first_bad_tick 0 (events_of list)) (length (events_of list)) (omega arith))) refl
    end)))))

-- A check that comes to a state is past its tests, and then it is the run along the list that comes to it.
past_tests : (asked : Call) (list : List ℕ) (ticks slots : ℕ) (s : State) → checked asked list ticks slots ≡ going s
    → (first_of (check_tests asked list ticks slots) ≡ clear) × (follows (job_of asked) (events_of list) ≡ going s)
unfolding checked
past_tests asked list ticks slots s e = unless_going (first_of (check_tests asked list ticks slots)) (follows (job_of asked) (events_of list)) s e

-- So it is an accepted one.
pub accepted : (asked : Call) (list : List ℕ) (ticks slots : ℕ) (s : State) → checked asked list ticks slots ≡ going s
    → Accepted asked list ticks slots s
unfolding job_tests call_tests short_check
accepted asked list ticks slots s e =
    let (past, f) = past_tests asked list ticks slots s e in
    let fails = clear_of (check_tests asked list ticks slots) past in
    let reading : read_call asked ≡ Ok (unrolled asked) = clear_taken asked (clear_append (call_tests asked) _ past).0 in
    let p : Proper (job_of asked) = proper asked (unrolled asked) reading in
    let ordered : Ruly 0 (events_of list) = in_order (events_of list) (fails 9) in
    let (ran, over, all) = followed (job_of asked) (events_of list) p ordered s f in
    let (tick_room, slot_room) = neither _ _ (fails 7) in
    record {
      job_taken = reading;
      list_read = fails 8;
      tick_room = ltb-false _ _ tick_room;
      slot_room = ltb-false _ _ slot_room;
      ordered = ordered;
      ran = ran;
      over = over;
      all_begun = all;
    }
