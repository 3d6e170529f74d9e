-- The worked sheets of document 01, computed with the definitions: rows a to h in one table with one theorem. What a row can ask is
-- said here too, for the second table in Telling.antt. (Document 01, "Worked sheets")
-- Questions and answers are bytes and numbers written out. No job, list or answer is made by a definition of the other files.
use Rattle.std.specs.Prelude.{ℕ, zero, suc, ◌+◌, ◌*◌, ◌/◌, ◌%◌, ◌≡◌, refl, Bool, cond, List, [], ◌∷◌, ◌++◌, map}
use Rattle.std.specs.Prelude.{length, Option, Some, None, Result, Ok, Err}
use Rattle.rules.specs.declared.refusal.Refusal.{Refusal}
use Rattle.rules.specs.declared.Answer.{Answer}
use Rattle.rules.specs.declared.PlainReason.{PlainReason}
use Rattle.rules.specs.declared.Event.{Event}
use Rattle.rules.specs.declared.Shape.{Shape}
use Rattle.rules.specs.declared.Unrolled.{Unrolled}
use Rattle.rules.specs.declared.Load.{Load}
use Rattle.rules.specs.declared.Cause.{Cause}
use Rattle.rules.specs.declared.Cause.TheVariants.{Awaited, Another, Nothing}
use Rattle.rules.specs.declared.Happening.{Happening}
use Rattle.rules.specs.declared.Happening.TheVariants.{Draw, Wait}
use Rattle.rules.specs.declared.TickRecord.{TickRecord}
use Rattle.rules.specs.Basics.{place, number16, number32}
use Rattle.rules.specs.Job.{Job, symbols, call, shape_of, starting_symbols, drawn_symbols, draws_of, times_over, job_of}
use Rattle.rules.specs.LoadList.{event, read_event, events_in, events_of, events_bytes, put_head, put_event, put_number}
use Rattle.rules.specs.Display.{State, Run, Rule, going, refused, start, load_refusal, finished, run, tick, beginning, happened, asked, land, record_of}
use Rattle.rules.specs.Refusing.{refusal_number}
use Rattle.rules.specs.Plans.{missing, ranks_from, greatest, rule_of}
use Rattle.rules.specs.Refusals.{checked, checked_for_c, planned, due, follow, first_bad_tick, doubled, bad_limits, read_list}
use Rattle.rules.specs.Refusals.{list_number, event_number, read_call, by_number, call_number}
use Rattle.rules.specs.Refusals.{answer_of, ticks_of, slots_of, tick_bytes, written_by, lent}
use Rattle.rules.specs.Why.{why, plain_reason}
use Rattle.rules.specs.Text.{Writing, write_text, read_text, written_of, bytes_of}

-- ---- Jobs and lists written out

-- A number in two bytes, and a row of symbols.
abbrev pub two_bytes : ℕ → List ℕ
two_bytes x = x / 256 ∷ x % 256 ∷ []

unfoldable pub symbol_bytes : List ℕ → List ℕ
symbol_bytes [] = []
symbol_bytes (x ∷ l) = x / 256 ∷ x % 256 ∷ symbol_bytes l

-- A job by its fields, right or wrong, and its symbols as bytes. Its length is below 65,536.
abbrev pub job_fields : (length version slots load_time draws : ℕ) (rest : List ℕ) → List ℕ
job_fields size version slots load_time draws rest =
    (0 ∷ 0 ∷ [])
    ++ two_bytes size
    ++ (version ∷ slots ∷ [])
    ++ two_bytes load_time
    ++ two_bytes draws
    ++ rest

-- A job with the fields that its symbols ask for: k and n are the lengths of its two rows.
abbrev pub job_bytes : (load_time : ℕ) (starting draws : List ℕ) → List ℕ
job_bytes load_time starting draws =
    job_fields
    (6 + 2 * length starting + 2 * length draws)
    1
    (length starting)
    load_time
    (length draws)
    (symbol_bytes starting ++ symbol_bytes draws)

-- A load list by its fields, right or wrong, and its events as bytes; one with the fields that m events ask for; and an event.
abbrev pub list_fields : (length version count : ℕ) (rest : List ℕ) → List ℕ
list_fields size version count rest = (0 ∷ 0 ∷ []) ++ two_bytes size ++ (version ∷ []) ++ two_bytes count ++ rest

abbrev pub loads : (m : ℕ) (events : List ℕ) → List ℕ
loads m events = list_fields (3 + 7 * m) 1 m events

abbrev pub load : (tick slot symbol : ℕ) → List ℕ
load t q x = (0 ∷ t / 65536 ∷ t / 256 % 256 ∷ t % 256 ∷ q ∷ []) ++ two_bytes x

-- ---- Questions

-- What can be asked of the definitions.
--     plan, check                     the answer: number, detail, elapsed, waits, loads, longest
--     list                            the bytes that a plan writes
--     ticks, slots                    what a check writes: the draw ticks, the slots
--     check-for-c                     the answer of a check for a host in C, with the bytes lent for ticks and for slots
--     room-later                      the lent room after a plan
--     ticks-later, slots-later        the two lent buffers after a check
--     ticks-for-c-later               the bytes lent for ticks after a check for a host in C
--     plan-records, check-records     each tick of a run on record, 50 at most
--     job-number                      what reading a job finds
--     shape, symbols-in               the fields of a job, its starting and its drawn symbols
--     limits                          whether a shape is outside the limits
--     list-number                     what reading the head of a list finds
--     event-at                        the number and the values of what reading an event finds in the part of a list that begins at it
--     bad-tick                        the first event of a list whose tick is over the limit or not above the one before
--     load-number                     the refusal that a load of a symbol into a slot meets at the start
--     number-two, number-four         the number in two bytes and in four, from a place on
--     head-put, event-put             lent room after a head, or an event, was put into it
--     put-number                      the number that answers a put
--     text-written, text-read         the answer of the writer and of the reader (number, detail, size), and the bytes that they write
--     text-later, list-later          the lent room after the writer and after the reader
--     reason                          why a draw waited, as a host in C is told: number, detail, brought, taken, own, another, nothing
--     rounds-number                   what reading a job with a number of rounds finds
--     draws-in                        the draws of all rounds
--     in-rounds                       the question of this many rounds
pub data Question : Type 0 where
  plan list : (job : List ℕ) (plan room : ℕ) → Question
  check ticks slots check_for_c : (job list : List ℕ) (tick_places slot_places : ℕ) → Question
  room_later : (job : List ℕ) (plan : ℕ) (room : List ℕ) → Question
  ticks_later slots_later ticks_for_c_later : (job list ticks slots : List ℕ) → Question
  plan_records : (job : List ℕ) (plan : ℕ) → Question
  check_records : (job list : List ℕ) → Question
  job_number shape symbols_in : (job : List ℕ) → Question
  limits : (slots load_time draws : ℕ) → Question
  list_number_asked bad_tick : (list : List ℕ) → Question
  event_at : (part : List ℕ) → Question
  load_number : (job : List ℕ) (slot symbol : ℕ) → Question
  number_two number_four : (bytes : List ℕ) (at : ℕ) → Question
  head_put : (count : ℕ) (room : List ℕ) → Question
  event_put : (index tick slot symbol : ℕ) (room : List ℕ) → Question
  put_number_asked : (at size : ℕ) (room : List ℕ) → Question
  text_written text_read : (bytes : List ℕ) (room : ℕ) → Question
  text_later list_later : (bytes room : List ℕ) → Question
  reason : (job list : List ℕ) (draw : ℕ) → Question
  rounds_number draws_in_asked : (job : List ℕ) → Question
  in_rounds_asked : (rounds : ℕ) → Question → Question

pub data Row : Type 0 where
  row : Question → List ℕ → Row

-- ---- What is found, as numbers

abbrev pub numbers : Answer → List ℕ
numbers a = a.number ∷ a.detail ∷ a.elapsed ∷ a.waits ∷ a.loads ∷ a.longest ∷ []

abbrev pub reason_numbers : PlainReason → List ℕ
reason_numbers r = r.number ∷ r.detail ∷ r.brought ∷ r.taken ∷ r.own ∷ r.another ∷ r.nothing ∷ []

abbrev pub writing_found : Writing → List ℕ
writing_found w = (written_of w).number ∷ (written_of w).detail ∷ (written_of w).size ∷ bytes_of w

abbrev pub truth : Bool → List ℕ
truth b = cond b 1 0 ∷ []

abbrev pub shape_numbers : Shape → List ℕ
shape_numbers s = s.slots ∷ s.load_time ∷ s.draws ∷ []

-- A job that is taken gives its shape, one that is refused its number; before either comes the number that answers for it.
abbrev pub job_found : Result Unrolled Refusal → List ℕ
job_found (Ok s) = s.slots ∷ s.load_time ∷ s.round ∷ []
job_found (Err refusal) = refusal_number refusal ∷ []

-- The same with the rounds, and with the draws of all of them.
abbrev pub call_found : Result Unrolled Refusal → List ℕ
call_found (Ok s) = s.slots ∷ s.load_time ∷ s.rounds ∷ s.round ∷ s.draws ∷ []
call_found (Err refusal) = refusal_number refusal ∷ []

-- A list that can be read gives the number of its events, an event its tick, slot and symbol, and what cannot be read gives nothing.
abbrev pub list_found : Option ℕ → List ℕ
list_found (Some m) = m ∷ []
list_found None = []

abbrev pub event_found : Option Event → List ℕ
event_found (Some e) = e.tick ∷ e.slot ∷ e.symbol ∷ []
event_found None = []

-- A tick on record in five numbers: 1, slot and symbol of the load begun, or three times 0; then 1 and the slot of a draw, or 0 and the
-- cause of a wait: 1 for the awaited symbol, 2 for another, 3 for nothing under way.
abbrev pub begun_found : Option Load → List ℕ
begun_found (Some l) = 1 ∷ l.slot ∷ l.symbol ∷ []
begun_found None = 0 ∷ 0 ∷ 0 ∷ []

abbrev pub cause_found : Cause → ℕ
cause_found Awaited = 1
cause_found Another = 2
cause_found Nothing = 3

abbrev pub happening_found : Happening → List ℕ
happening_found (Draw q) = 1 ∷ q ∷ []
happening_found (Wait cause) = 0 ∷ cause_found cause ∷ []

abbrev pub record_found : TickRecord → List ℕ
record_found r = begun_found r.begun ++ happening_found r.happening

-- The record of a tick, once what begins in it has begun. A tick in which that is refused has none.
abbrev pub tick_found : Option Load → Run → List ℕ
tick_found begun (going s) = record_found (record_of begun s)
tick_found begun (refused number detail) = []

-- At most t ticks of a run, each on record, up to the last draw, or to a refusal, which ends the row with its number and its detail.
abbrev pub later_found : (State → List ℕ) → Run → List ℕ
later_found records (going s) = records s
later_found records (refused number detail) = number ∷ detail ∷ []

unfoldable pub records_found : Job → Rule → ℕ → State → List ℕ
records_found job rule zero s = []
records_found job rule (suc t) s =
    let later : List ℕ = later_found (records_found job rule t) (tick job rule s) in
    cond (finished s.rest) [] (tick_found (asked rule s) (beginning job (asked rule s) (land s)) ++ later)

abbrev pub records : Job → Rule → List ℕ
records job rule = records_found job rule 50 (start job)

-- Plans and checks are asked of one round, unless a row says how many.
abbrev pub answer_in : ℕ → Question → List ℕ
answer_in r (plan job p room) = numbers (answer_of (planned (call job r) p room))
answer_in r (list job p room) = written_by (planned (call job r) p room)
answer_in r (check job l t s) = numbers (answer_of (checked (call job r) l t s))
answer_in r (ticks job l t s) = ticks_of (checked (call job r) l t s)
answer_in r (slots job l t s) = slots_of (checked (call job r) l t s)
answer_in r (check_for_c job l t s) = numbers (answer_of (checked_for_c (call job r) l t s))
answer_in r (room_later job p room) = lent (written_by (planned (call job r) p (length room))) room
answer_in r (ticks_later job l t s) = lent (ticks_of (checked (call job r) l (length t) (length s))) t
answer_in r (slots_later job l t s) = lent (slots_of (checked (call job r) l (length t) (length s))) s
answer_in r (ticks_for_c_later job l t s) = lent (tick_bytes (ticks_of (checked_for_c (call job r) l (length t) (length s)))) t
answer_in r (plan_records job p) = records (job_of (call job r)) (rule_of (job_of (call job r)) p)
answer_in r (check_records job l) = records (job_of (call job r)) (follow (events_of l))
answer_in r (job_number job) = call_number (by_number (read_call (call job r))) ∷ job_found (read_call (call job r))
answer_in r (shape job) = shape_numbers (shape_of job)
answer_in r (symbols_in job) = starting_symbols job ++ drawn_symbols job
answer_in r (limits k f n) = truth (bad_limits (record { slots = k; load_time = f; draws = n }))
answer_in r (list_number_asked l) = list_number (read_list l) ∷ list_found (read_list l)
answer_in r (bad_tick l) = first_bad_tick 0 (events_of l) ∷ []
answer_in r (event_at part) = event_number (read_event part) ∷ event_found (read_event part)
answer_in r (load_number job q x) = load_refusal (job_of (call job r)) q x (start (job_of (call job r))) ∷ []
answer_in r (number_two b at) = number16 b at ∷ []
answer_in r (number_four b at) = number32 b at ∷ []
answer_in r (head_put m room) = put_head m room
answer_in r (event_put i t q x room) = put_event i (event t q x) room
answer_in r (put_number_asked at size room) = put_number at size room ∷ []
answer_in r (text_written l room) = writing_found (write_text l room)
answer_in r (text_read t room) = writing_found (read_text t room)
answer_in r (text_later l room) = lent (bytes_of (write_text l (length room))) room
answer_in r (list_later t room) = lent (bytes_of (read_text t (length room))) room
answer_in r (reason job l draw) = reason_numbers (plain_reason (why (call job r) l draw))
answer_in r (rounds_number job) = call_number (by_number (read_call (call job r))) ∷ call_found (read_call (call job r))
answer_in r (draws_in_asked job) = draws_of (call job r)
answer_in r (in_rounds_asked rounds question) = answer_in rounds question

abbrev pub found : Row → List ℕ
found (row question answer) = answer_in 1 question

abbrev pub expected : Row → List ℕ
expected (row question answer) = answer

-- Answers: an accepted call, and a refusal with its number and detail.
abbrev pub accepts : (elapsed waits loads longest : ℕ) → List ℕ
accepts elapsed waits loads longest = 0 ∷ 0 ∷ elapsed ∷ waits ∷ loads ∷ longest ∷ []

abbrev pub refuses : (number detail : ℕ) → List ℕ
refuses number detail = number ∷ detail ∷ 0 ∷ 0 ∷ 0 ∷ 0 ∷ []

-- ---- Rows a to h

-- The four jobs. Room for ten draws serves them all.
abbrev pub job_a : List ℕ
job_a = job_bytes 4 (1 ∷ 2 ∷ []) (1 ∷ 2 ∷ 3 ∷ 1 ∷ [])

abbrev pub job_b : List ℕ
job_b = job_bytes 4 (1 ∷ 2 ∷ []) (1 ∷ 2 ∷ 3 ∷ 2 ∷ [])

abbrev pub job_c : List ℕ
job_c = job_bytes 3 (1 ∷ 2 ∷ 3 ∷ 4 ∷ []) (1 ∷ 2 ∷ 3 ∷ 4 ∷ 5 ∷ 1 ∷ [])

abbrev pub job_d : List ℕ
job_d = job_bytes 1 (65535 ∷ []) (7 ∷ 7 ∷ [])

abbrev pub planning : (job : List ℕ) (plan : ℕ) (answer : List ℕ) → Row
planning job p answer = row (plan job p 77) answer

abbrev pub checking : (job list answer : List ℕ) → Row
checking job l answer = row (check job l 10 10) answer

-- Rows a to h, with the bytes of the two lists of job a and the draws of row e.
unfoldable pub rows : List Row
rows =
    planning job_a 0 (accepts 10 6 2 3)
    ∷ planning job_a 1 (accepts 8 4 1 4)
    ∷ planning job_a 2 (accepts 8 4 1 4)
    ∷ planning job_a 3 (accepts 12 8 2 4)
    ∷ planning job_b 0 (accepts 7 3 1 3)
    ∷ planning job_b 1 (accepts 7 3 1 3)
    ∷ planning job_b 2 (accepts 8 4 1 4)
    ∷ planning job_b 3 (accepts 8 4 1 4)
    ∷ planning job_c 0 (accepts 8 2 2 2)
    ∷ planning job_c 1 (accepts 7 1 1 1)
    ∷ planning job_c 2 (accepts 9 3 1 3)
    ∷ planning job_c 3 (accepts 12 6 2 3)
    ∷ planning job_d 0 (accepts 3 1 1 1)
    ∷ planning job_d 1 (accepts 3 1 1 1)
    ∷ planning job_d 2 (accepts 3 1 1 1)
    ∷ planning job_d 3 (accepts 3 1 1 1)
    ∷ checking job_a (loads 1 (load 2 1 3)) (accepts 8 4 1 4)
    ∷ row (ticks job_a (loads 1 (load 2 1 3)) 4 4) (0 ∷ 1 ∷ 6 ∷ 7 ∷ [])
    ∷ row (slots job_a (loads 1 (load 2 1 3)) 4 4) (0 ∷ 1 ∷ 1 ∷ 0 ∷ [])
    ∷ checking job_a (loads 1 (load 1 0 3)) (refuses 13 3)
    ∷ checking job_a (loads 2 (load 2 1 3 ++ load 7 1 2)) (accepts 8 4 2 4)
    ∷ checking job_a (loads 2 (load 2 1 3 ++ load 5 0 2)) (refuses 10 1)
    ∷ row (list job_a 1 35) (0 ∷ 0 ∷ 0 ∷ 0x0A ∷ 1 ∷ 0 ∷ 1 ∷ 0 ∷ 0 ∷ 0 ∷ 2 ∷ 1 ∷ 0 ∷ 3 ∷ [])
    ∷ row (list job_a 0 35)
    (0 ∷ 0 ∷ 0 ∷ 0x11 ∷ 1 ∷ 0 ∷ 2 ∷ 0 ∷ 0 ∷ 0 ∷ 1 ∷ 0 ∷ 0 ∷ 3 ∷ 0 ∷ 0 ∷ 0 ∷ 5 ∷ 1 ∷ 0 ∷ 1 ∷ [])
    ∷ []

-- The bytes of job a as document 01 gives them; of a job with the mark of a free slot; and of a list.
job_a_bytes : job_a
    ≡ 0 ∷ 0 ∷ 0 ∷ 0x12 ∷ 1 ∷ 2 ∷ 0 ∷ 4 ∷ 0 ∷ 4 ∷ 0 ∷ 1 ∷ 0 ∷ 2 ∷ 0 ∷ 1 ∷ 0 ∷ 2 ∷ 0 ∷ 3 ∷ 0 ∷ 1 ∷ []
unfolding symbol_bytes
job_a_bytes = refl

job_d_bytes : job_d ≡ 0 ∷ 0 ∷ 0 ∷ 12 ∷ 1 ∷ 1 ∷ 0 ∷ 1 ∷ 0 ∷ 2 ∷ 255 ∷ 255 ∷ 0 ∷ 7 ∷ 0 ∷ 7 ∷ []
unfolding symbol_bytes
job_d_bytes = refl

list_bytes_row : loads 1 (load 66051 4 258) ≡ 0 ∷ 0 ∷ 0 ∷ 10 ∷ 1 ∷ 0 ∷ 1 ∷ 0 ∷ 1 ∷ 2 ∷ 3 ∷ 4 ∷ 1 ∷ 2 ∷ []
list_bytes_row = refl

-- Every row of document 01's tables, proved of the definitions.
pub worked : map found rows ≡ map expected rows
unfolding rows symbol_bytes planned checked run tick beginning happened place symbols times_over doubled missing ranks_from greatest events_in
    events_bytes due first_bad_tick
worked = refl
