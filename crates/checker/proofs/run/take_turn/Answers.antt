-- Each way out has its answer, and else the tick goes on and is followed by its waits.
use Rattle.std.proofs.Common.{arith}
use Rattle.std.proofs.lemmas.Result.{err_from_is_err_and}
use Rattle.rules.specs.Job.{job_of}
use Rattle.checker.specs.Follow.{call_of, events_along}
use Rattle.laws.proofs.Events.{length-events_in}
use Rattle.display.proofs.Going.{rest_room, tick_rests}
use Rattle.checker.proofs.Ends.{limit_read, ends_done, ends_late, ends_refused}
use Rattle.checker.proofs.run.take_turn.Goals as goal

pub returns-in_err-finish : goal.returns-in_err-finish
returns-in_err-finish c =
    let a = c.args in
    let many = c.args.job.limits.many_draws in
    let p = err_from_is_err_and c.from_residual.result c.from_residual.ensures.1 in
    rw (p.1, p.2)
    (λ h ticks slots remain few at from.
    ends_done (job_of (call_of a.job)) (events_along a.list.count a.list.bytes.now) _ _ h ticks slots remain a.list.count _
    (omega arith) (length-events_in _ _) c.in_err-finish.ensures few at from)

pub returns-then-job-draw : goal.returns-then-job-draw
returns-then-job-draw c =
    let a = c.args in
    let many = c.args.job.limits.many_draws in
    λ h ticks slots remain few at from.
    ends_done (job_of (call_of a.job)) (events_along a.list.count a.list.bytes.now) _ _ h ticks slots remain a.list.count _
    (omega arith) (length-events_in _ _) c.in_ok-finish.ensures few at from

pub returns-then-limit-d : goal.returns-then-limit-d
returns-then-limit-d c =
    let a = c.args in
    let many = c.args.job.limits.many_draws in
    let whole = limit_read c.args.job in
    λ h ticks slots remain few at from.
    ends_late (job_of (call_of a.job)) (events_along a.list.count a.list.bytes.now) _ _ h ticks slots remain (omega arith)
    (omega arith)

pub follow_tick-requires : goal.follow_tick-requires
follow_tick-requires c =
    let a = c.args in
    let limits = c.args.job.limits in
    let many = limits.many_draws in
    let short = limits.short_load_time in
    let few = limits.few_draws in
    let whole = limit_read a.job in
    let (room, few_loads) = rest_room _ a.d c.requires.rests c.requires.loads (omega arith) (omega arith) (omega arith) in
    record { all_slots = c.requires.all_slots; room = room; few_loads = few_loads; remains = c.if-job-draw.false }

pub returns-in_err-ticked : goal.returns-in_err-ticked
returns-in_err-ticked c =
    let a = c.args in
    let many = c.args.job.limits.many_draws in
    let whole = limit_read c.args.job in
    let p = err_from_is_err_and c.from_residual-in_err-ticked.result c.from_residual-in_err-ticked.ensures.1 in
    rw (p.1, p.2)
    (λ h ticks slots remain few at from.
    ends_refused (job_of (call_of a.job)) (events_along a.list.count a.list.bytes.now) _ _ h ticks slots remain (omega arith)
    (omega arith) _ _ c.in_err-ticked.ensures.ticks)

pub after_waits-later-requires : goal.after_waits-later-requires
after_waits-later-requires c =
    let a = c.args in
    let r = c.in_ok-ticked.ticked in
    let whole = limit_read c.args.job in
    tick_rests _ a.d r.display r.on_record.happening (rw (← whole) at c.requires.rests) c.if-limit-d.false c.in_ok-ticked.ensures.ticks.counts

pub returns : goal.returns
returns c =
    let many = c.args.job.limits.many_draws in
    let whole = limit_read c.args.job in
    record {
      within = omega arith;
      early = omega arith;
      ticked = c.in_ok-ticked.ticked.display;
      on_record = record { ticks = c.in_ok-ticked.ensures.ticks; recorded = c.in_ok-ticked.ensures.recorded };
      rested = rw whole at c.after_waits-later.ensures;
    }
