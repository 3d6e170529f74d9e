-- The loop keeps what `Kept` says, and each turn takes a tick of those that a run may take.
use Rattle.std.proofs.Common.{◌-◌}
use Rattle.rules.specs.Job.{job_of}
use Rattle.checker.specs.Follow.{call_of, events_along}
use Rattle.rules.specs.Refusals.{most_ticks}
use Rattle.checker.proofs.Tells.{Kept}
use Rattle.checker.proofs.run.run_told.Given as goal

abbrev pub invariant-loop-turn : goal.invariant-loop-turn
invariant-loop-turn l =
    Kept (job_of (call_of l.job)) (events_along l.list.count l.list.bytes.now) l.asked l.symbol l.initial.held l.held l.d l.account

abbrev pub decreases-loop-turn : goal.decreases-loop-turn
decreases-loop-turn l = most_ticks (job_of (call_of l.job)) - l.d.tick
