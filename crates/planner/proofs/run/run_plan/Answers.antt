-- The loop goes on as `Walking` says. It is left where no draw remains, no tick is left, or a tick is refused.
use Rattle.std.proofs.Common.{◌≡◌, ◌<◌, length, refl, sym, ap, ◌∙◌, Ok, Err, arith}
use Rattle.rules.specs.declared.Unrolled.{Unrolled}
use Rattle.rules.specs.Job.{call, shape_of, job_of}
use Rattle.rules.specs.LoadList.{last_tick}
use Rattle.rules.specs.Plans.{rule_of}
use Rattle.laws.proofs.Jobs.{limits}
use Rattle.laws.proofs.Symbols.{length_symbols}
use Rattle.display.specs.View.{at_first, onward}
use Rattle.display.proofs.Going.{going_room}
use Rattle.rules.specs.Plans.{plan_number}
use Rattle.planner.proofs.LoadRow.{row_start, row_on}
use Rattle.planner.proofs.Planning.{over_so}
use Rattle.planner.proofs.Walks.{walking_first, walking_on, calm, by_plan, ends_over, ends_late, ends_refused}
use Rattle.planner.proofs.run.run_plan.Goals as goal

pub loop-d-init : goal.loop-d-init
loop-d-init c =
    let a = c.args in
    let asked = call a.job.bytes.now a.job.shape.rounds in
    let ready = c.requires.prepared in
    record {
      same_size = refl;
      history = at_first (job_of asked);
      walking = walking_first asked (rule_of (job_of asked) (plan_number a.plan)) a.held.now c.start-d.result c.requires.starts c.start-d.ensures;
      row = rw c.start-d.ensures (row_start (plan_number a.plan) asked a.orders a.loads.now ready.ordered ready.places);
    }

pub plan_tick-requires : goal.plan_tick-requires
plan_tick-requires c =
    let a = c.args in
    let asked = call a.job.bytes.now a.job.shape.rounds in
    let job = job_of asked in
    let ready = c.requires.prepared in
    let within = limits asked a.job.shape a.job.taken in
    let most = within.few_draws in
    let many : length job.draws ≡ a.job.shape.draws = within.many_draws in
    let early : c.loop-d.d.tick < last_tick = c.if-d-ge-LAST_TICK.false in
    let remains : c.loop-d.d.next < a.job.shape.draws = c.loop-d-test.true in
    let roomy =
    going_room job (rule_of job (plan_number a.plan)) last_tick _ _ _ c.loop-d.invariant.walking.along early (omega arith) (omega arith) in
    record {
      size =
          c.loop-d.invariant.same_size ∙ ap length c.requires.starts ∙ length_symbols (shape_of asked.job).slots _
          ∙ ap (λ (s : Unrolled). s.slots) (sym within.shaped);
      room = roomy.0;
      few_loads = roomy.1;
      remains = remains;
    }

pub loop-d-preserved : goal.loop-d-preserved
loop-d-preserved c =
    let a = c.args in
    let asked = call a.job.bytes.now a.job.shape.rounds in
    let job = job_of asked in
    let rule = rule_of job (plan_number a.plan) in
    let l = c.loop-d in
    let kept = l.invariant in
    let h = kept.history in
    let many : length job.draws ≡ a.job.shape.draws = (limits asked a.job.shape a.job.taken).many_draws in
    let within : l.d.next < length job.draws = omega (arith, c.loop-d-test.true) in
    let early : l.d.tick < last_tick = c.if-d-ge-LAST_TICK.false in
    let held' = c.plan_tick.new.held in
    let r = c.in-Ok.ticked in
    let ticks =
    by_plan (plan_number a.plan) asked a.orders l.loads l.held held' l.d _ (Ok r) kept.row c.order_at-order.ensures c.in-Ok.ensures in
    let on =
    walking_on job rule l.held l.d h kept.walking within early held' r ticks c.after_waits-d.result
    c.after_waits-d.ensures (calm (plan_number a.plan) job held' (onward l.d r.on_record h) r.display) in
    record {
      same_size = c.plan_tick.auto.held ∙ kept.same_size;
      history = onward l.d r.on_record h;
      walking = on;
      row =
          row_on (plan_number a.plan) asked a.orders l.d h l.loads _ kept.walking.listed kept.row r.on_record c.after_waits-d.result.loads c.note.ensures
          on.listed;
    }

pub returns-then-d-ge-LAST_TICK : goal.returns-then-d-ge-LAST_TICK
returns-then-d-ge-LAST_TICK c =
    let a = c.args in
    let asked = call a.job.bytes.now a.job.shape.rounds in
    let l = c.loop-d in
    let many = (limits asked a.job.shape a.job.taken).many_draws in
    ends_late (job_of asked) (rule_of (job_of asked) (plan_number a.plan)) l.held l.d l.invariant.history l.invariant.walking (rw many c.loop-d-test.true)
    c.if-d-ge-LAST_TICK.true

pub returns-in_default : goal.returns-in_default
returns-in_default c =
    let a = c.args in
    let asked = call a.job.bytes.now a.job.shape.rounds in
    let l = c.loop-d in
    let held' = c.plan_tick.new.held in
    let e = c.in_default.field-0 in
    let many = (limits asked a.job.shape a.job.taken).many_draws in
    ends_refused (job_of asked) (rule_of (job_of asked) (plan_number a.plan)) l.held l.d l.invariant.history l.invariant.walking (rw many c.loop-d-test.true)
    c.if-d-ge-LAST_TICK.false held' e
    (by_plan (plan_number a.plan) asked a.orders l.loads l.held held' l.d _ (Err e) l.invariant.row c.order_at-order.ensures c.in_default.ensures)

pub returns : goal.returns
returns c =
    let a = c.args in
    let asked = call a.job.bytes.now a.job.shape.rounds in
    let taken = a.job.taken in
    let l = c.loop-d in
    let kept = l.invariant in
    let many = (limits asked a.job.shape taken).many_draws in
    over_so asked a.job.shape taken (plan_number a.plan) l.held kept.history l.d
    (ends_over (job_of asked) (rule_of (job_of asked) (plan_number a.plan)) l.held l.d kept.history kept.walking (rw many c.loop-d-test.false))
    l.loads kept.row.noted
