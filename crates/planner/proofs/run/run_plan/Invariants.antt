-- The loop keeps the run on its way and its loads noted, and each turn takes a tick of those that a list can name.
use Rattle.std.proofs.Common.{◌-◌, length}
use Rattle.rules.specs.Job.{call}
use Rattle.rules.specs.LoadList.{last_tick}
use Rattle.rules.specs.Plans.{plan_number}
use Rattle.planner.proofs.Walks.{MidRun}
use Rattle.planner.proofs.run.run_plan.Given as goal

abbrev pub invariant-loop-d : goal.invariant-loop-d
invariant-loop-d l = MidRun (plan_number l.plan) (call l.job.bytes.now l.job.shape.rounds) (length l.initial.held) l.orders l.held l.loads l.d

abbrev pub decreases-loop-d : goal.decreases-loop-d
decreases-loop-d l = last_tick - l.d.tick
