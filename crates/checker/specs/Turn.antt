-- A turn of the run along a list: what it asks for, and what it comes to.
use Rattle.std.specs.Prelude.{ℕ, ◌-◌, ◌≤◌, ◌<◌, ◌≡◌, true, List, map, length, take, drop, Option, Some, None, Result, Ok, Err}
use Rattle.rules.specs.declared.refusal.Refusal.{Refusal}
use Rattle.rules.specs.declared.TickRecord.{TickRecord}
use Rattle.rules.specs.Refusing.{refusal_number, refusal_detail}
use Rattle.rules.specs.Job.{Job, job_of}
use Rattle.rules.specs.declared.Event.{Event}
use Rattle.rules.specs.Display.{State, Run, going, refused, then, finished, run}
use Rattle.rules.specs.Refusals.{closing, follow, most_ticks, tick_of, slot_of}
use Rattle.display.specs.View.{History, view}
use Rattle.display.specs.Tick.{OnRecord}
use Rattle.display.specs.Still.{MayRest, Rested}
use Rattle.display.specs.declared.state.Display.{Display}
use Rattle.checker.specs.declared.job.TakenJob.{TakenJob}
use Rattle.checker.specs.declared.run.Turn.{Turn}
use Rattle.checker.specs.Follow.{call_of, NothingDue, Noted}

-- What a turn asks for: all slots of the display, and a display that has counted no more than ticks have passed.
pub record MayTurn (job : TakenJob) (held : List ℕ) (d : Display) : Type 0 where
  pub all_slots : length held ≡ job.shape.slots
  pub rests : MayRest (most_ticks (job_of (call_of job))) d
  pub loads : d.loads ≤ d.tick

-- A run that ended with h beside the display: accepted, and with every draw made, or refused.
abbrev pub Concludes : Run → History → Result Display Refusal → Type 0
Concludes run h (Ok d) = ((s : State) × (run ≡ going s)) × (finished h.rest ≡ true)
Concludes run h (Err e) = run ≡ refused (refusal_number e) (refusal_detail e)

-- And its draws, of n, are noted.
pub record Closes (n : ℕ) (run : Run) (h : History) (r : Result Display Refusal) (ticks slots : List ℕ) : Type 0 where
  pub notes : Noted n run r ticks slots
  pub concludes : Concludes run h r

-- The run ends at this display, whatever was drawn and loaded before, where the draws made so far are noted at the front of two rows.
abbrev pub EndsAt : Job → List Event → List ℕ → Display → Result Display Refusal → Type 0
EndsAt job events held d r =
    (h : History) (ticks slots : List ℕ)
    → h.rest ≡ drop d.next job.draws
    → d.next ≤ length job.draws
    → map tick_of h.made ≡ take d.next ticks
    → map slot_of h.made ≡ take d.next slots
    → Closes (length job.draws) (then (run job (follow events) (most_ticks job - d.tick) (view held h d)) (closing events)) h r ticks slots

-- It goes on: a draw remains and the run is in time; the tick leads to the display `ticked`, and the waits after it to `later`.
pub record GoesOn (job : Job) (events : List Event) (held held' : List ℕ) (d : Display) (on : TickRecord) (later : Display) : Type 0 where
  pub within : d.next < length job.draws
  pub early : d.tick < most_ticks job
  pub ticked : Display
  pub on_record : OnRecord job (follow events) held held' d (Ok (record { on_record = on; display = ticked }))
  pub rested : Rested (NothingDue events ticked) (most_ticks job) on.happening ticked later

abbrev pub Turned : Job → List Event → List ℕ → List ℕ → Display → Result (Option Turn) Refusal → Type 0
Turned job events held held' d (Ok None) = EndsAt job events held d (Ok d)
Turned job events held held' d (Ok (Some turn)) = GoesOn job events held held' d turn.on_record turn.later
Turned job events held held' d (Err e) = EndsAt job events held d (Err e)
