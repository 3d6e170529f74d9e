-- What a tick of a plan, the waits after it and a whole run ask for and ensure, and what comes of a plan.
use Rattle.std.specs.Prelude.{ℕ, ◌+◌, ◌*◌, ◌-◌, ◌≤◌, ◌<◌, ◌≡◌, List, length, Option, Result, Ok, MatchResult}
use Rattle.rules.specs.declared.refusal.Refusal.{Refusal}
use Rattle.rules.specs.declared.refusal.Refusal.TheVariants.{PlanNumber}
use Rattle.rules.specs.declared.Plan.{Plan}
use Rattle.rules.specs.Plans.{plan_number}
use Rattle.rules.specs.Refusing.{refusal_number, refusal_detail}
use Rattle.rules.specs.declared.Unrolled.{Unrolled}
use Rattle.rules.specs.Job.{Call, starting_symbols, draws_of, job_of, most_draws}
use Rattle.rules.specs.LoadList.{head_size, event_size}
use Rattle.rules.specs.Display.{Run, going, refused}
use Rattle.rules.specs.Plans.{asking, opt, run_plan, begun_in, rule_of, last_plan}
use Rattle.rules.specs.Refusals.{read_call, in_time}
use Rattle.display.specs.Tick.{Room, Ticks}
use Rattle.display.specs.declared.tick.Ticked.{Ticked}
use Rattle.choice.specs.declared.ask.Order.{Order}
use Rattle.choice.specs.Asks.{asks_by}
use Rattle.display.specs.View.{History, view}
use Rattle.display.specs.declared.state.Display.{Display}
use Rattle.planner.specs.Loads.{first_loads}

-- What a tick of a plan starts from: as many slots as the job has, counts that can go up by one, and a draw that remains.
pub record BeforeTick (shape : Unrolled) (held : List ℕ) (d : Display) : Type 0 where
  pub size : length held ≡ shape.slots
  pub room : Room d
  pub few_loads : d.loads < 4294967295
  pub remains : d.next < shape.draws

-- A tick of a plan, conservative by its next order, is a tick of the rules by what the plan asks for.
abbrev pub TicksBy : ℕ → Call → Option Order → List ℕ → List ℕ → Display → Result Ticked Refusal → Type 0
TicksBy plan asked order held held' d r = Ticks (job_of asked) (asking (asks_by plan (job_of asked) order)) held held' d r

-- A load is under way in each of the next m ticks.
pub record LoadUnderWay (d : Display) (m : ℕ) : Type 0 where
  pub before_end : d.remaining - m ≡ 0 → d.remaining ≡ 0
  pub under_way : 0 < m → 0 < d.remaining

-- A job that was taken with this shape, and a row of as many places as a job has draws at most.
pub record HasPlaces (asked : Call) (shape : Unrolled) (loads : List ℕ) : Type 0 where
  pub taken : read_call asked ≡ Ok shape
  pub places : length loads ≡ most_draws

-- What the run of a plan comes to: its last state, or refusal 15 where that is not reached in time.
abbrev pub run_of : Call → ℕ → Run
run_of asked plan = in_time (run_plan (job_of asked) (rule_of (job_of asked) plan))

-- The loads that a plan works off are the first of a row: for conservative those of opt.
pub record Orders (plan : ℕ) (asked : Call) (orders : ℕ) (loads : List ℕ) : Type 0 where
  pub few : orders ≤ length loads
  pub of_opt : plan ≡ 1 → first_loads orders loads ≡ begun_in (run_plan (job_of asked) (opt (job_of asked)))

-- A row of as many places as a job has draws at most, and the loads that the plan works off.
pub record Prepared (plan : ℕ) (asked : Call) (orders : ℕ) (loads : List ℕ) : Type 0 where
  pub places : length loads ≡ most_draws
  pub ordered : Orders plan asked orders loads

-- What a run starts from: the same, with the starting symbols in the slots.
pub record FromStart (plan : ℕ) (asked : Call) (held : List ℕ) (orders : ℕ) (loads : List ℕ) : Type 0 where
  pub prepared : Prepared plan asked orders loads
  pub starts : held ≡ starting_symbols asked.job

-- The run of a plan is over at this display, with these slots and this history. The loads that it began, at most one to a draw, are the
-- first of the row.
pub record Over (plan : ℕ) (asked : Call) (loads : List ℕ) (d : Display) : Type 0 where
  pub held : List ℕ
  pub history : History
  pub ends : run_of asked plan ≡ going (view held history d)
  pub noted : history.begun ≡ first_loads d.loads loads
  pub few : d.loads ≤ length (draws_of asked)

-- What came of it: it is over at a display, or refused.
abbrev pub Ended : ℕ → Call → Result Display Refusal → List ℕ → Type 0
Ended plan asked r loads =
    MatchResult r (Over plan asked loads) (λ e. run_of asked plan ≡ refused (refusal_number e) (refusal_detail e))

-- A job that was taken with this shape, and room for a list of as many events as draws.
pub record HasRoom (asked : Call) (shape : Unrolled) (room : List ℕ) : Type 0 where
  pub taken : read_call asked ≡ Ok shape
  pub enough : head_size + event_size * shape.draws ≤ length room

-- The plan of a number, where one has it.
abbrev pub PlanOf : ℕ → Result Plan Refusal → Type 0
PlanOf number r = MatchResult r (λ plan. plan_number plan ≡ number) (λ e. (e ≡ PlanNumber) × (last_plan < number))

-- What the code comes to is what a run of the rules comes to: its end at this display, with some slots and some history, or its refusal.
abbrev pub ComesTo : Run → Result Display Refusal → Type 0
ComesTo run r =
    MatchResult r
    (λ d. (held : List ℕ) × (history : History) × (run ≡ going (view held history d)))
    (λ e. run ≡ refused (refusal_number e) (refusal_detail e))
