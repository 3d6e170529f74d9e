-- The table of refusals in its words, row by row and in its order, for a plan and for a check: which number is given, and with which detail.
-- To be held beside "Refusal numbers" of document 01; row 17 is from document 02, Five. Rows 1 to 9 speak of bytes; rows 10 to 14 speak of the
-- display as it runs along the list.
use Rattle.std.specs.Prelude.{ℕ, zero, suc, ◌+◌, ◌*◌, ◌-◌, ◌<◌, ◌≤◌, ◌≡◌, true, false, List, [], ◌∷◌, ◌++◌}
use Rattle.std.specs.Prelude.{◌⊎◌, length, get_or, drop, Some}
use Rattle.rules.specs.declared.Answer.{Answer}
use Rattle.rules.specs.declared.Shape.{Shape}
use Rattle.rules.specs.Basics.{stands, number32}
use Rattle.rules.specs.Job.{Call, Job, free, most_slots, most_load_time, most_draws, shape_of, starting_symbols, drawn_symbols, draws_of, job_of}
use Rattle.rules.specs.declared.Event.{Event}
use Rattle.rules.specs.LoadList.{most_events, last_tick, head_size, event_size, count_of, events_of}
use Rattle.rules.specs.Display.{load, State, Run, going, start, land, idle, awaited, finished, run}
use Rattle.rules.specs.Plans.{last_plan, rule_of, run_plan}
use Rattle.rules.specs.Refusals.{due, follow}
use Rattle.demands.specs.Fair.{event_tick, nth_event}

-- A row: its number, and the details with which it holds.
pub data Row : Type 1 where
  row : (number : ℕ) (holds : (detail : ℕ) → Type 0) → Row

-- Most rows hold with detail 0.
abbrev pub plain : ℕ → Type 0 → Row
plain number holds = row number (λ detail. (detail ≡ 0) × holds)

-- A table gives a number and a detail: the row with that number holds with that detail, and no row above it holds.
unfoldable pub Gives : List Row → ℕ → ℕ → Type 0
Gives [] n d = ⊥
Gives (row number holds ∷ below) n d = ((number ≡ n) × holds d) ⊎ (((c : ℕ) → holds c → ⊥) × Gives below n d)

-- What a refusal answers beside its number and its detail: every count is 0.
pub record NoCounts (answer : Answer) : Type 0 where
  pub elapsed : answer.elapsed ≡ 0
  pub waits : answer.waits ≡ 0
  pub loads : answer.loads ≡ 0
  pub longest : answer.longest ≡ 0

-- No row of a table holds.
unfoldable pub Quiet : List Row → Type 0
Quiet [] = Unit {0}
Quiet (row number holds ∷ below) = ((c : ℕ) → holds c → ⊥) × Quiet below

-- ---- Rows 1 to 5: the job

-- 1. The job has under ten bytes, or its length is not the number of bytes after it.
pub data JobLengthWrong (job : List ℕ) : Type 0 where
  short : length job < 10 → JobLengthWrong job
  wrong_length : (number32 job 0 ≡ length job - 4 → ⊥) → JobLengthWrong job

-- 3. The slots, the load time or the draws are outside their limits.
pub data OutsideLimits (shape : Shape) : Type 0 where
  no_slot : shape.slots < 1 → OutsideLimits shape
  many_slots : most_slots < shape.slots → OutsideLimits shape
  no_time : shape.load_time < 1 → OutsideLimits shape
  long_time : most_load_time < shape.load_time → OutsideLimits shape
  many_draws : most_draws < shape.draws → OutsideLimits shape

-- 5. A symbol is in two starting slots, or the mark of a free slot is drawn.
pub data SymbolsWrong (starting draws : List ℕ) : Type 0 where
  twice : (i j : ℕ) → i < j → j < length starting → get_or starting i 0 ≡ get_or starting j 0 → (get_or starting i 0 ≡ free → ⊥)
      → SymbolsWrong starting draws
  free_drawn : (i : ℕ) → i < length draws → get_or draws i 0 ≡ free → SymbolsWrong starting draws

-- 2 is a version other than 1, and 4 a length other than 6 + 2k + 2n.
abbrev pub job_rows : List ℕ → List Row
job_rows job =
    plain 1 (JobLengthWrong job)
    ∷ plain 2 (get_or job 4 0 ≡ 1 → ⊥)
    ∷ plain 3 (OutsideLimits (shape_of job))
    ∷ plain 4 (number32 job 0 ≡ 6 + 2 * (shape_of job).slots + 2 * (shape_of job).draws → ⊥)
    ∷ plain 5 (SymbolsWrong (starting_symbols job) (drawn_symbols job))
    ∷ []

-- ---- Row 17: the rounds

-- There is no round, or r times n is over the most draws.
pub data RoundsWrong (rounds draws : ℕ) : Type 0 where
  no_round : rounds < 1 → RoundsWrong rounds draws
  too_many : most_draws < rounds * draws → RoundsWrong rounds draws

-- The order for what a call asks about: 1 to 5, then 17.
abbrev pub call_rows : Call → List Row
call_rows asked = job_rows asked.job ++ (plain 17 (RoundsWrong asked.rounds (shape_of asked.job).draws) ∷ [])

-- ---- Rows 6, 7 and 15: a plan

-- 15. A plan's run does not come to the end of its draws within the ticks that a list can name.
abbrev pub Late : Run → Type 0
Late r = (s : State) → r ≡ going s → finished s.rest ≡ true → ⊥

-- The order for a plan: 1 to 5, 17, then 6, a number above 3, then 7, less room than 7 + 7rn bytes, then 15.
abbrev pub plan_rows : Call → ℕ → ℕ → List Row
plan_rows asked plan room =
    call_rows asked ++ (plain 6 (last_plan < plan)
    ∷ plain 7 (room < head_size + event_size * length (draws_of asked))
    ∷ plain 15 (Late (run_plan (job_of asked) (rule_of (job_of asked) plan)))
    ∷ [])

-- ---- Rows 7 to 9: a check, before time begins

-- 8. The list has under seven bytes, its length is not the number of bytes after it, its version is not 1, it has too many events, or
-- its length is not 3 + 7m.
pub data ListWrong (list : List ℕ) : Type 0 where
  short : length list < head_size → ListWrong list
  wrong_length : (number32 list 0 ≡ length list - 4 → ⊥) → ListWrong list
  wrong_version : (get_or list 4 0 ≡ 1 → ⊥) → ListWrong list
  many_events : most_events < count_of list → ListWrong list
  wrong_size : (number32 list 0 ≡ 3 + event_size * count_of list → ⊥) → ListWrong list

-- 7. There are fewer places than draws in the buffer for ticks or in the one for slots.
pub data PlacesShort (draws ticks slots : ℕ) : Type 0 where
  few_ticks : ticks < draws → PlacesShort draws ticks slots
  few_slots : slots < draws → PlacesShort draws ticks slots

-- The lowest tick that an event may have: one above the tick of the event before it.
abbrev pub lowest : List Event → ℕ → ℕ
lowest events zero = 0
lowest events (suc i) = event_tick (nth_event events i) + 1

-- 9. An event's tick is over the limit, or not above the one before it.
pub data OutOfOrder (events : List Event) (i : ℕ) : Type 0 where
  over_limit : last_tick < event_tick (nth_event events i) → OutOfOrder events i
  not_above : event_tick (nth_event events i) < lowest events i → OutOfOrder events i

-- The detail is the first such event.
pub record FirstOutOfOrder (events : List Event) (i : ℕ) : Type 0 where
  pub inside : i < length events
  pub wrong : OutOfOrder events i
  pub first : (j : ℕ) → j < i → OutOfOrder events j → ⊥

-- The order for a check, before time begins: 1 to 5, 17, then 8, 7, and 9 over the whole list.
abbrev pub check_rows : Call → List ℕ → ℕ → ℕ → List Row
check_rows asked list ticks slots =
    call_rows asked
    ++ (plain 8 (ListWrong list)
    ∷ plain 7 (PlacesShort (length (draws_of asked)) ticks slots)
    ∷ row 9 (FirstOutOfOrder (events_of list))
    ∷ [])

-- ---- Rows 10 to 14: a check, as time meets them

-- The next event of a list, with slot q and symbol x, has the tick of this state.
abbrev pub Due : List Event → ℕ → ℕ → State → Type 0
Due events q x s = due (drop s.loads events) s.tick ≡ Some (load q x)

-- Rows 10 to 13 in the tick that begins in a state, once a load that ends in this tick is in its slot; for one event 10, 11, 12. The
-- detail is the event, or for 13 the draw.
--     under-way    10: an event begins while a load is under way
--     beyond       11: its slot is k or more
--     held         12: a slot holds its symbol
--     no_symbol    12: its symbol is the mark of a free slot
--     endless      13: the draw's symbol is in no slot, no load is under way and no event is left
pub data Refuses (job : Job) (events : List Event) (s : State) : ℕ → ℕ → Type 0 where
  under_way : (q x : ℕ) → Due events q x s → idle (land s).loading ≡ false → Refuses job events s 10 s.loads
  beyond : (q x : ℕ) → Due events q x s → idle (land s).loading ≡ true → job.slots ≤ q → Refuses job events s 11 s.loads
  held : (q x : ℕ) → Due events q x s → idle (land s).loading ≡ true → q < job.slots → stands x (land s).slots ≡ true
      → Refuses job events s 12 s.loads
  no_symbol : (q x : ℕ) → Due events q x s → idle (land s).loading ≡ true → q < job.slots → x ≡ free
      → Refuses job events s 12 s.loads
  endless : idle (land s).loading ≡ true → stands (awaited s) (land s).slots ≡ false → length events ≤ s.loads
      → Refuses job events s 13 s.next

-- Time meets such a row: after some ticks, none of them refused, draws remain and the next tick is refused.
pub record Met (job : Job) (events : List Event) (n d : ℕ) : Type 0 where
  pub ticks : ℕ
  pub state : State
  pub ran : run job (follow events) ticks (start job) ≡ going state
  pub more : finished state.rest ≡ false
  pub refuses : Refuses job events state n d

-- Row 14: after some ticks all draws are done and event d is left, the first one left.
pub record LeftOver (job : Job) (events : List Event) (d : ℕ) : Type 0 where
  pub ticks : ℕ
  pub state : State
  pub ran : run job (follow events) ticks (start job) ≡ going state
  pub over : finished state.rest ≡ true
  pub left : d < length events
  pub first : state.loads ≡ d

-- The whole order for a check: the rows before time begins; where none of them holds, 10 to 13 as time meets them; 14 at the end.
pub data Given (asked : Call) (list : List ℕ) (ticks slots : ℕ) : ℕ → ℕ → Type 0 where
  at_once : {n d : ℕ} → Gives (check_rows asked list ticks slots) n d → Given asked list ticks slots n d
  in_its_time : {n d : ℕ} → Quiet (check_rows asked list ticks slots) → Met (job_of asked) (events_of list) n d → Given asked list ticks slots n d
  at_the_end : {d : ℕ} → Quiet (check_rows asked list ticks slots) → LeftOver (job_of asked) (events_of list) d → Given asked list ticks slots 14 d
