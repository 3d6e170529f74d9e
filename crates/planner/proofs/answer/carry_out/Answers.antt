-- The tests are walked in the order of the definition, whatever that order is. A run that is over is written as its loads are noted.
use Rattle.std.proofs.Common.{ℕ, ◌≡◌, ◌∙◌, sym, refl, ap, Ok, arith}
use lib.ListN.{length-replicate}
use Rattle.std.proofs.lemmas.Result.{err_from_is_err_and}
use Rattle.rules.specs.declared.refusal.Refusal.TheVariants.{PlanNumber, ShortRoom}
use Rattle.rules.specs.Job.{call}
use Rattle.rules.specs.Refusals.{read_call}
use Rattle.laws.proofs.Verdicts.{end, stop, step}
use Rattle.laws.proofs.Jobs.{past_call}
use Rattle.rules.specs.Plans.{plan_number}
use Rattle.planner.specs.Runs.{run_of, Over}
use Rattle.planner.proofs.Planning.{room_test_lem, no_plan, a_plan, roomy, refuses}
use Rattle.planner.proofs.Planning.{past_tests, few_loads, fitting, never_refused, over_comes, over_writes}
use Rattle.planner.proofs.answer.carry_out.Goals as goal

ruleset walk = (past_call, no_plan, a_plan, stop, step, end, room_test_lem)

pub returns-in_err-plan : goal.returns-in_err-plan
returns-in_err-plan c =
    let read : Ok c.args.shape ≡ read_call (call c.args.job.now c.args.shape.rounds) = sym c.requires in
    let (e, is, same) = err_from_is_err_and c.from_residual.result c.from_residual.ensures.1 in
    let (number, above) = c.in_err-plan.ensures in
    let (comes, writes) = refuses _ c.args.plan c.args.room.now PlanNumber (search walk depth 20 fits 4000) in
    rw (is, same, number) (record { comes_to = comes; writes = writes })

pub returns-then-short_room : goal.returns-then-short_room
returns-then-short_room c =
    let read : Ok c.args.shape ≡ read_call (call c.args.job.now c.args.shape.rounds) = sym c.requires in
    let known : plan_number c.in_ok-plan.plan ≡ c.args.plan = c.in_ok-plan.ensures in
    let (comes, writes) = refuses _ c.args.plan c.args.room.now ShortRoom (search walk depth 20 fits 4000) in
    record { comes_to = comes; writes = writes }

pub overflow_cast-d : goal.overflow_cast-d
overflow_cast-d c =
    let few = few_loads _ c.args.shape c.requires (plan_number c.in_ok-plan.plan) c.run_of.new.loads c.in_ok-d.d c.in_ok-d.ensures in
    omega arith

pub write_list-requires : goal.write_list-requires
write_list-requires c =
    let has =
    roomy c.args.job.now c.args.shape.rounds (Ok c.args.shape) c.args.shape c.args.room.now c.short_room.result (sym c.requires) refl
    c.short_room.ensures c.if-short_room.false in
    fitting _ c.args.shape c.requires (plan_number c.in_ok-plan.plan) c.run_of.new.loads c.in_ok-d.d c.in_ok-d.ensures
    (c.run_of.auto.loads ∙ length-replicate {A = ℕ} 4096 0) c.args.room.now has

-- No run of a plan that is carried out is refused.
pub returns-in_err-d : goal.returns-in_err-d
returns-in_err-d c = absurd (never_refused _ c.args.shape c.requires (plan_number c.in_ok-plan.plan) _ _ c.in_err-d.ensures)

pub returns : goal.returns
returns c =
    let asked = call c.args.job.now c.args.shape.rounds in
    let read : Ok c.args.shape ≡ read_call asked = sym c.requires in
    let known : plan_number c.in_ok-plan.plan ≡ c.args.plan = c.in_ok-plan.ensures in
    let over : Over (plan_number c.in_ok-plan.plan) asked c.run_of.new.loads c.in_ok-d.d = c.in_ok-d.ensures in
    let same =
    past_tests asked c.args.plan c.args.room.now (Ok c.args.shape) c.args.shape read refl (search walk depth 20 fits 4000)
    ∙ ap (run_of asked) (sym known) in
    record {
      comes_to = over_comes asked (plan_number c.in_ok-plan.plan) c.run_of.new.loads c.in_ok-d.d over _ same;
      writes = over_writes asked (plan_number c.in_ok-plan.plan) c.run_of.new.loads c.in_ok-d.d over _ same c.args.room.now _ c.write_list.ensures;
    }
