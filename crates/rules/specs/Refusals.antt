-- The refusals, their order, and what a plan and a check answer and leave in lent memory. (Document 01, "Refusal numbers")
use Rattle.std.specs.Prelude.{ℕ, suc, ◌+◌, ◌*◌, ◌-◌, ◌/◌, Bool, false, cond, not, ◌&&◌, ◌||◌, List, [], ◌∷◌}
use Rattle.std.specs.Prelude.{◌++◌, map, length, get_or, drop, eqb}
use Rattle.std.specs.Prelude.{ltb, leb, Option, Some, None, Result, Ok, Err}
use Rattle.rules.specs.declared.refusal.Refusal.{Refusal}
use Rattle.rules.specs.declared.Answer.{Answer}
use Rattle.rules.specs.declared.Load.{Load}
use Rattle.rules.specs.declared.Shape.{Shape}
use Rattle.rules.specs.declared.Event.{Event}
use Rattle.rules.specs.declared.Unrolled.{Unrolled}
use Rattle.rules.specs.Basics.{stands, number32, bytes32}
use Rattle.rules.specs.Refusing.{refusal_number, call_refusal}
use Rattle.rules.specs.Order.{Test, test, Verdict, clear, met, first_of}
use Rattle.rules.specs.Job.{Job, Call, free, most_slots, most_load_time, most_draws, shape_of, starting_symbols, drawn_symbols, draws_of}
use Rattle.rules.specs.Job.{unrolled, job_of}
use Rattle.rules.specs.LoadList.{event, most_events, last_tick, head_size, event_size, count_of, events_of, list_bytes}
use Rattle.rules.specs.Display.{load, State, Run, Rule, Drawn, drawn, Loaded, loaded, going, refused, unless, then, start, finished, run}
use Rattle.rules.specs.Plans.{last_plan, rule_of, run_plan}

-- ---- A job: refusals 1 to 5

-- 1. Under ten bytes, or a length that is not the number of bytes after it.
abbrev pub bad_job_length : List ℕ → Bool
bad_job_length job = ltb (length job) 10 || not (eqb (number32 job 0) (length job - 4))

-- 2. A version other than 1.
abbrev pub bad_job_version : List ℕ → Bool
bad_job_version job = not (eqb (get_or job 4 0) 1)

-- 3. Slots, load time or draws outside their limits.
abbrev pub bad_limits : Shape → Bool
bad_limits shape =
    ltb shape.slots 1
    || ltb most_slots shape.slots
    || ltb shape.load_time 1
    || ltb most_load_time shape.load_time
    || ltb most_draws shape.draws

-- 4. A length other than 6 + 2k + 2n.
abbrev pub bad_job_size : List ℕ → Bool
bad_job_size job = not (eqb (number32 job 0) (6 + 2 * (shape_of job).slots + 2 * (shape_of job).draws))

-- 5. A symbol in two starting slots, or the mark of a free slot among the draws. The mark itself may be in several slots.
unfoldable pub doubled : List ℕ → Bool
doubled [] = false
doubled (x ∷ l) = not (eqb x free) && stands x l || doubled l

abbrev pub bad_symbols : List ℕ → List ℕ → Bool
bad_symbols starting draws = doubled starting || stands free draws

-- The order for a job: 1 to 5 rising.
unfoldable pub job_tests : List ℕ → List Test
job_tests job =
    test 1 0 (bad_job_length job)
    ∷ test 2 0 (bad_job_version job)
    ∷ test 3 0 (bad_limits (shape_of job))
    ∷ test 4 0 (bad_job_size job)
    ∷ test 5 0 (bad_symbols (starting_symbols job) (drawn_symbols job))
    ∷ []

-- ---- A job in rounds: refusal 17 (document 02, Five)

-- 17. No round, or more draws in all rounds than a job may have. Of a sheet with no draws every number of rounds but 0 is taken.
unfoldable pub bad_rounds : Call → Bool
bad_rounds asked = ltb asked.rounds 1 || ltb most_draws (unrolled asked).draws

-- The order for what a call asks about: that of the job, then 17.
unfoldable pub call_tests : Call → List Test
call_tests asked = job_tests asked.job ++ (test 17 0 (bad_rounds asked) ∷ [])

-- It is taken with its size, or refused by the first of these tests that holds. The detail of each is 0.
abbrev pub read_as : Verdict → Unrolled → Result Unrolled Refusal
read_as clear size = Ok size
read_as (met number detail) size = Err (call_refusal number)

abbrev pub read_call : Call → Result Unrolled Refusal
read_call asked = read_as (first_of (call_tests asked)) (unrolled asked)

-- What reading a call found, with the number of its refusal in place of the refusal; and document 01's number for it.
abbrev pub by_number : Result Unrolled Refusal → Result Unrolled ℕ
by_number (Ok size) = Ok size
by_number (Err refusal) = Err (refusal_number refusal)

abbrev pub call_number : Result Unrolled ℕ → ℕ
call_number (Ok size) = 0
call_number (Err number) = number

-- ---- A load list: refusals 8 and 9

-- 8. Under seven bytes, a length that is not the number of bytes after it, a version other than 1, too many events, or a
-- length other than 3 + 7m.
abbrev pub bad_list : List ℕ → Bool
bad_list list =
    ltb (length list) head_size
    || not (eqb (number32 list 0) (length list - 4))
    || not (eqb (get_or list 4 0) 1)
    || ltb most_events (count_of list)
    || not (eqb (number32 list 0) (3 + event_size * count_of list))

abbrev pub read_list : List ℕ → Option ℕ
read_list list = cond (bad_list list) None (Some (count_of list))

-- Document 01's number for what reading a list found, and for what reading an event found: too few bytes for an event are met only in
-- bytes that are no list.
abbrev pub list_number : Option ℕ → ℕ
list_number (Some m) = 0
list_number None = 8

abbrev pub event_number : Option Event → ℕ
event_number (Some e) = 0
event_number None = 8

-- 9. The first event whose tick is over the limit or not above the tick before it, or the number of events where there is none.
-- `least` is the lowest tick that the event may have.
unfoldable pub first_bad_tick : ℕ → List Event → ℕ
first_bad_tick least [] = 0
first_bad_tick least (e ∷ l) = cond (ltb last_tick e.tick || ltb e.tick least) 0 (suc (first_bad_tick (e.tick + 1) l))

abbrev pub tick_test : List Event → Test
tick_test events = test 9 (first_bad_tick 0 events) (ltb (first_bad_tick 0 events) (length events))

-- ---- A check of a list: refusals 7 to 14

-- A list as a rule: its next event begins when its tick has come.
unfoldable pub due : List Event → ℕ → Option Load
due [] now = None
due (e ∷ later) now = cond (eqb e.tick now) (Some (load e.slot e.symbol)) None

abbrev pub follow : List Event → Rule
follow events = record { asks = λ s. due (drop s.loads events) s.tick; done = λ s. leb (length events) s.loads }

-- The ticks that a run along a list can take: after the last event only one load and the draws are left.
abbrev pub most_ticks : Job → ℕ
most_ticks job = last_tick + job.load_time + length job.draws + 1

-- 14. All draws are done and an event is left; the detail is the first one left. A run whose draws are not all done by then waits for
-- ever (13); the detail is the draw.
abbrev pub closing : List Event → State → Run
closing events s =
    let done : Run = cond (ltb s.loads (length events)) (refused 14 s.loads) (going s) in
    cond (finished s.rest) done (refused 13 s.next)

abbrev pub follows : Job → List Event → Run
follows job events = then (run job (follow events) (most_ticks job) (start job)) (closing events)

-- 7. A check needs a place for each draw in both lent buffers.
unfoldable pub short_check : Call → ℕ → ℕ → Bool
short_check asked ticks slots = ltb ticks (length (draws_of asked)) || ltb slots (length (draws_of asked))

-- The order for a check before time begins: 1 to 5, 17, then 8, 7, and 9 over the whole list, with the first event out of order.
-- It goes by what is asked, the bytes of the list, and the places lent for ticks and for slots.
abbrev pub check_tests : Call → List ℕ → ℕ → ℕ → List Test
check_tests asked list ticks slots =
    call_tests asked
    ++ (test 8 0 (bad_list list)
    ∷ test 7 0 (short_check asked ticks slots)
    ∷ tick_test (events_of list)
    ∷ [])

-- Where none of these holds, 10 to 14 come as time meets them.
unfoldable pub checked : Call → List ℕ → ℕ → ℕ → Run
unfolding first_of job_tests call_tests bad_rounds short_check
checked asked list ticks slots =
    unless (first_of (check_tests asked list ticks slots)) (follows (job_of asked) (events_of list))

-- ---- A plan: refusals 6, 7 and 15

-- 7. A plan needs room for a head and an event to each draw.
unfoldable pub short_plan : Call → ℕ → Bool
short_plan asked room = ltb room (head_size + event_size * length (draws_of asked))

-- 15. Elapsed would pass the last tick: the plan is not done by then, or it would wait for ever.
abbrev pub in_time : Run → Run
in_time (going s) = cond (finished s.rest) (going s) (refused 15 0)
in_time (refused number detail) = refused 15 0

-- The order for a plan before its run: 1 to 5, 17, then 6, 7. It goes by what is asked, the plan's number and the room lent.
abbrev pub plan_tests : Call → ℕ → ℕ → List Test
plan_tests asked plan room = call_tests asked ++ (test 6 0 (ltb last_plan plan) ∷ test 7 0 (short_plan asked room) ∷ [])

-- Where none of these holds, 15 is left.
unfoldable pub planned : Call → ℕ → ℕ → Run
unfolding first_of job_tests call_tests bad_rounds short_plan
planned asked plan room =
    unless (first_of (plan_tests asked plan room)) (in_time (run_plan (job_of asked) (rule_of (job_of asked) plan)))

-- ---- The answer and lent memory

-- An accepted run answers number 0, detail 0 and its counts; a refused one its number and detail, and no counts.
abbrev pub answer_of : Run → Answer
answer_of (going s) =
    record { number = 0; detail = 0; elapsed = s.tick; waits = s.waits; loads = s.loads; longest = s.longest }
answer_of (refused number detail) = record { number = number; detail = detail; elapsed = 0; waits = 0; loads = 0; longest = 0 }

-- What lent memory holds later: at its front what was written, and all after that as it was.
abbrev pub lent : List ℕ → List ℕ → List ℕ
lent written before = written ++ drop (length written) before

-- The draws of a run that was not refused; of a refused one there are none, so nothing is written.
abbrev pub draws_in : Run → List Drawn
draws_in (going s) = s.made
draws_in (refused number detail) = []

abbrev pub tick_of : Drawn → ℕ
tick_of (drawn t q) = t

abbrev pub slot_of : Drawn → ℕ
slot_of (drawn t q) = q

-- A check writes the tick of each draw into one buffer and its slot into the other.
abbrev pub ticks_of : Run → List ℕ
ticks_of r = map tick_of (draws_in r)

abbrev pub slots_of : Run → List ℕ
slots_of r = map slot_of (draws_in r)

-- For a host in C each draw tick is four bytes, so a check has as many places for ticks as the bytes lent hold whole ones.
unfoldable pub tick_bytes : List ℕ → List ℕ
tick_bytes [] = []
tick_bytes (t ∷ l) = bytes32 t ++ tick_bytes l

abbrev pub checked_for_c : Call → List ℕ → ℕ → ℕ → Run
checked_for_c asked list ticks slots = checked asked list (ticks / 4) slots

-- A plan writes its list into the room from the first byte on.
abbrev pub event_of : Loaded → Event
event_of (loaded t d q x) = event t q x

abbrev pub written_by : Run → List ℕ
written_by (going s) = list_bytes (map event_of s.begun)
written_by (refused number detail) = []
