-- The tie rule that opt had before document 02, Four: of several symbols that are never drawn again the one in the lowest slot goes. It is here
-- to be held against the rule that took its place, and nothing else goes by it.
use Rattle.std.specs.Prelude.{ℕ, ◌<◌, ◌≤◌, ◌≡◌}
use Rattle.rules.specs.Job.{Job, Call, job_of}
use Rattle.rules.specs.LoadList.{events_of}
use Rattle.rules.specs.Order.{first_of}
use Rattle.rules.specs.Display.{State, Run, Rule, unless}
use Rattle.rules.specs.Plans.{furthest, ahead, on_demand, conservative, run_plan, begun_in}
use Rattle.rules.specs.Refusals.{plan_tests, in_time, answer_of, written_by}
use Rattle.demands.specs.Fair.{event_tick, nth_event}

-- Opt by the old rule: next draws are looked for, and no draw made.
abbrev pub old_slot : Job → State → ℕ
old_slot job s = furthest job (ahead s) s.slots

abbrev pub old_opt : Job → Rule
old_opt job = on_demand (old_slot job)

-- Conservative by the old rule: the loads of that opt.
abbrev pub old_conservative : Job → Rule
old_conservative job = conservative (begun_in (run_plan job (old_opt job)))

-- Plan 1 by the old rule, with the same refusals.
abbrev pub old_planned : Call → ℕ → Run
old_planned asked room = unless (first_of (plan_tests asked 1 room)) (in_time (run_plan (job_of asked) (old_conservative (job_of asked))))

-- The tick of event i in the list that a run writes.
abbrev pub written_tick : Run → ℕ → ℕ
written_tick r i = event_tick (nth_event (events_of (written_by r)) i)

-- One plan beside another: both are accepted, with as many loads; each load begins no later, and the last draw is made no later.
pub record NeverLater (plan other : Run) : Type 0 where
  pub accepted : (answer_of plan).number ≡ 0
  pub accepted_too : (answer_of other).number ≡ 0
  pub loads : (answer_of plan).loads ≡ (answer_of other).loads
  pub begins : (i : ℕ) → i < (answer_of plan).loads → written_tick plan i ≤ written_tick other i
  pub elapsed : (answer_of plan).elapsed ≤ (answer_of other).elapsed
