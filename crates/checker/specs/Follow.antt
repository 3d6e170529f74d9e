-- What the parts of a check ask for and ensure: a tick along a list, the waits after it, the places noted for a draw, and the answer.
use Rattle.std.specs.Prelude.{ℕ, ◌+◌, ◌-◌, ◌≤◌, ◌<◌, ◌≡◌, true, List, map, length, take, drop, set, None, Result, Ok, Err}
use Rattle.rules.specs.declared.refusal.Refusal.{Refusal}
use Rattle.rules.specs.declared.Answer.{Answer}
use Rattle.rules.specs.declared.Unrolled.{Unrolled}
use Rattle.rules.specs.declared.Happening.{Happening}
use Rattle.rules.specs.declared.Happening.TheVariants.{Draw, Wait}
use Rattle.rules.specs.Refusing.{refusal_number, refusal_detail}
use Rattle.rules.specs.Job.{Call, call, starting_symbols, most_draws, job_of}
use Rattle.rules.specs.LoadList.{events_in, head_size}
use Rattle.rules.specs.declared.Event.{Event}
use Rattle.rules.specs.Display.{Run, refused, finished}
use Rattle.rules.specs.Refusals.{due, closing, follows, answer_of, tick_of, slot_of, ticks_of, slots_of, lent}
use Rattle.display.specs.View.{History, view}
use Rattle.display.specs.Tick.{Room}
use Rattle.display.specs.declared.state.Display.{Display}
use Rattle.checker.specs.declared.job.TakenJob.{TakenJob}

-- The call that a job was taken for: these rounds of it.
abbrev pub call_of : TakenJob → Call
call_of job = call job.bytes.now job.shape.rounds

-- The events of a list of this many, and the run of a job along them.
abbrev pub events_along : ℕ → List ℕ → List Event
events_along count list = events_in count (drop head_size list)

abbrev pub runs_along : Call → ℕ → List ℕ → Run
runs_along asked count list = follows (job_of asked) (events_along count list)

-- What a host is told of a run that ended at a display or was refused: its answer, and the number of draws that go with it.
abbrev pub answer_in : Result Display Refusal → Answer
answer_in (Ok d) = record { number = 0; detail = 0; elapsed = d.tick; waits = d.waits; loads = d.loads; longest = d.longest }
answer_in (Err r) = answer_of (refused (refusal_number r) (refusal_detail r))

abbrev pub draws_made : Result Display Refusal → ℕ
draws_made (Ok d) = d.next
draws_made (Err r) = 0

-- The end at a display, or a refusal there.
abbrev pub ended_at : {A : Type 0} → Display → Result A Refusal → Result Display Refusal
ended_at d (Ok a) = Ok d
ended_at d (Err r) = Err r

-- What a tick asks for: all slots of the display, counters with room for one more, and a draw that remains.
pub record MayTick (shape : Unrolled) (held : List ℕ) (d : Display) : Type 0 where
  pub all_slots : length held ≡ shape.slots
  pub room : Room d
  pub few_loads : d.loads < 4294967295
  pub remains : d.next < shape.draws

-- In m ticks from this display on no event is due and no load ends, and no wait in them is one for ever.
pub record NothingDue (events : List Event) (d : Display) (m : ℕ) : Type 0 where
  pub none_due : (j : ℕ) → j < m → due (drop d.loads events) (d.tick + j) ≡ None
  pub before_end : d.remaining - m ≡ 0 → d.remaining ≡ 0
  pub event_left : 0 < m → d.remaining ≡ 0 → d.loads < length events

-- A buffer with what a tick brings for the draw at a place: nothing for a wait.
abbrev pub noted : Happening → (ℕ → ℕ) → ℕ → List ℕ → List ℕ
noted (Draw q) what at buffer = set buffer at (what q)
noted (Wait cause) what at buffer = buffer

-- What the run of a whole list starts from: the starting symbols in the slots, and room to note the most draws.
pub record MayRun (job : TakenJob) (held ticks slots : List ℕ) : Type 0 where
  pub starts : held ≡ starting_symbols job.bytes.now
  pub tick_room : length ticks ≡ most_draws
  pub slot_room : length slots ≡ most_draws

-- The end of a run over n draws, and how many of them are noted at the front of the two buffers.
pub record Noted (n : ℕ) (run : Run) (r : Result Display Refusal) (ticks slots : List ℕ) : Type 0 where
  pub answers : answer_in r ≡ answer_of run
  pub few : draws_made r ≤ n
  pub at : take (draws_made r) ticks ≡ ticks_of run
  pub from : take (draws_made r) slots ≡ slots_of run

-- The end of a run at a display with every draw made, along any list of this many events.
pub record Ended (count : ℕ) (d : Display) (r : Result Display Refusal) : Type 0 where
  pub shows : (held : List ℕ) (n : ℕ) (h : History) (events : List Event) (ticks slots : List ℕ)
      → length events ≡ count
      → finished h.rest ≡ true
      → d.next ≤ n
      → map tick_of h.made ≡ take d.next ticks
      → map slot_of h.made ≡ take d.next slots
      → Noted n (closing events (view held h d)) r ticks slots

-- Rows to copy from and buffers to copy to, both with a place for each draw.
pub record CopyRoom (draws : ℕ) (ticks slots at from : List ℕ) : Type 0 where
  pub ticks_to : draws ≤ length ticks
  pub slots_to : draws ≤ length slots
  pub ticks_from : draws ≤ length at
  pub slots_from : draws ≤ length from

-- Both lent buffers have a place for each draw.
pub record HasRoom (shape : Unrolled) (ticks slots : List ℕ) : Type 0 where
  pub tick_room : shape.draws ≤ length ticks
  pub slot_room : shape.draws ≤ length slots

-- The end of a run, the number of its draws, and what the two lent buffers hold later.
pub record HandedOut (run : Run) (r : Result Display Refusal) (ticks ticks' slots slots' : List ℕ) : Type 0 where
  pub answers : answer_in r ≡ answer_of run
  pub many : draws_made r ≡ length (ticks_of run)
  pub at : ticks' ≡ lent (ticks_of run) ticks
  pub from : slots' ≡ lent (slots_of run) slots
