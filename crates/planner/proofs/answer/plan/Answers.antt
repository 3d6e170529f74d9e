-- A call that is refused is answered by the number of its refusal; a plan that was carried out by the counts of the display at its end.
use Rattle.std.proofs.Common.{sym, ap, ◌∙◌, length}
use Rattle.rules.specs.Job.{Call, call}
use Rattle.rules.specs.Display.{refused}
use Rattle.rules.specs.Refusals.{answer_of, planned}
use Rattle.laws.proofs.Jobs.{same_call}
use Rattle.planner.proofs.Planning.{call_answers}
use Rattle.planner.proofs.answer.plan.Goals as goal

pub returns-in_default-clause-answers : goal.returns-in_default-clause-answers
returns-in_default-clause-answers c =
    let (comes, writes) =
    call_answers (call c.args.job.now c.args.rounds) c.args.plan c.args.room.now c.read_call-reading.result c.map_err.result c.in_default.field-0
    c.read_call-reading.ensures c.in_default.is c.map_err.ensures.cases in
    c.refusal.ensures ∙ ap (λ n. answer_of (refused n 0)) c.call_number.ensures ∙ ap answer_of comes

pub returns-in_default-clause-writes : goal.returns-in_default-clause-writes
returns-in_default-clause-writes c =
    (call_answers (call c.args.job.now c.args.rounds) c.args.plan c.args.room.now c.read_call-reading.result c.map_err.result c.in_default.field-0
    c.read_call-reading.ensures c.in_default.is c.map_err.ensures.cases).1

pub returns-in-Ok-carry_out-clause-answers : goal.returns-in-Ok-carry_out-clause-answers
returns-in-Ok-carry_out-clause-answers c =
    let (held, history, ends) = c.in-Ok-carry_out.ensures.comes_to in
    let same = same_call (call c.args.job.now c.args.rounds) c.in-Ok.shape (sym c.in-Ok.ensures) in
    c.accepted.ensures held history
    ∙ ap answer_of (sym ends ∙ ap (λ (a : Call). planned a c.args.plan (length c.args.room.now)) (sym same))
