-- Which lists a check accepts, and with which sheet, said from the list alone, with no run of the display.
use Rattle.std.specs.Prelude.{ℕ, ◌+◌, ◌<◌, ◌≤◌, ◌≡◌, List, length, get_or, take, Some, Ok}
use Rattle.rules.specs.declared.Answer.{Answer}
use Rattle.rules.specs.Job.{Call, Job, free, unrolled, draws_of, job_of}
use Rattle.rules.specs.declared.Event.{Event}
use Rattle.rules.specs.LoadList.{event, count_of, events_of}
use Rattle.rules.specs.Refusals.{read_call, read_list, first_bad_tick}
use Rattle.demands.specs.Held.{held, Sheet}

-- The tick, the slot and the symbol of event i.
abbrev pub event_tick : Event → ℕ
event_tick e = e.tick

abbrev pub event_slot : Event → ℕ
event_slot e = e.slot

abbrev pub event_symbol : Event → ℕ
event_symbol e = e.symbol

abbrev pub nth_event : List Event → ℕ → Event
nth_event events i = get_or events i (event 0 0 0)

-- Event i may begin, on a sheet that is over at tick `end`.
--     idle       each event before it began F ticks before it, or more
--     slot       its slot is one of the job's
--     symbol     its symbol is not the mark of a free slot
--     unheld     by the events before it, no slot holds that symbol at its tick
--     in-time    its tick comes before the sheet is over
pub record MayBegin (job : Job) (events : List Event) (i end : ℕ) : Type 0 where
  pub idle : (j : ℕ) → j < i → event_tick (nth_event events j) + job.load_time ≤ event_tick (nth_event events i)
  pub slot : event_slot (nth_event events i) < job.slots
  pub symbol : event_symbol (nth_event events i) ≡ free → ⊥
  pub unheld : (r : ℕ) → r < job.slots → held job (take i events) (event_tick (nth_event events i)) r ≡ event_symbol (nth_event events i) → ⊥
  pub in_its_time : event_tick (nth_event events i) < end

-- A sheet is right for the bytes of a job and a list and for the places lent: job and list can be read, the places suffice, the events
-- are in order, each may begin, and each draw is made as it must be.
pub record Right (asked : Call) (list : List ℕ) (tick_places slot_places : ℕ) (ticks slots : List ℕ) (answer : Answer) : Type 0 where
  pub job_taken : read_call asked ≡ Ok (unrolled asked)
  pub list_read : read_list list ≡ Some (count_of list)
  pub tick_room : length (draws_of asked) ≤ tick_places
  pub slot_room : length (draws_of asked) ≤ slot_places
  pub in_order : first_bad_tick 0 (events_of list) ≡ length (events_of list)
  pub may_begin : (i : ℕ) → i < length (events_of list) → MayBegin (job_of asked) (events_of list) i answer.elapsed
  pub sheet : Sheet (job_of asked) (events_of list) ticks slots answer
  pub number : answer.number ≡ 0
  pub detail : answer.detail ≡ 0
