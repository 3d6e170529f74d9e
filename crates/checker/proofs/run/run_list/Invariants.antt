-- The loop keeps what `Turn` says, and each turn takes a tick of those that a run may take.
use Rattle.std.proofs.Common.{◌-◌}
use Rattle.rules.specs.Job.{job_of}
use Rattle.checker.specs.Follow.{call_of, events_along}
use Rattle.rules.specs.Refusals.{most_ticks}
use Rattle.checker.proofs.Walks.{Turn}
use Rattle.checker.proofs.run.run_list.Given as goal

abbrev pub invariant-loop-turn : goal.invariant-loop-turn
invariant-loop-turn l =
    Turn (job_of (call_of l.job)) (events_along l.list.count l.list.bytes.now) l.initial.held l.initial.ticks l.initial.slots l.held l.ticks
    l.slots l.d

abbrev pub decreases-loop-turn : goal.decreases-loop-turn
decreases-loop-turn l = most_ticks (job_of (call_of l.job)) - l.d.tick
