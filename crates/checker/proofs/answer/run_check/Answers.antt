-- A reading or a test refuses, in the order of the definition, or the draws of the run are handed out.
use Rattle.std.proofs.Common.{refl, ap}
use Rattle.std.proofs.lemmas.Result.{err_from_is_err_and}
use Rattle.rules.specs.declared.refusal.Refusal.TheVariants.{ListForm}
use Rattle.rules.specs.Job.{call}
use Rattle.laws.proofs.Jobs.{refused_call, past_call}
use Rattle.sheet.proofs.Lists.{at_list}
use Rattle.checker.proofs.Answers.{refuses, room_refused, ticks_refused, hands_out, roomy_read, asked_again}
use Rattle.checker.proofs.answer.run_check.Goals as goal

pub returns-in_err-job : goal.returns-in_err-job
returns-in_err-job c =
    let p = err_from_is_err_and c.from_residual.result c.from_residual.ensures.1 in
    rw (p.1, p.2) (refuses _ _ _ _ _ (refused_call _ _ _ _ refl c.in_err-job.ensures.refusal))

pub returns-in_err-list : goal.returns-in_err-list
returns-in_err-list c =
    let r = c.from_residual-in_err-list in
    let p = err_from_is_err_and r.result r.ensures.1 in
    let (none, form) = c.in_err-list.ensures.refusal in
    rw (p.1, p.2, form)
    (refuses _ _ _ _ ListForm (past_call _ _ _ refl c.in_ok-job.ensures.job.0 (at_list c.args.list.now _ refl none)))

pub returns-then-short_room : goal.returns-then-short_room
returns-then-short_room c =
    let l = c.in_ok-list in
    room_refused (call c.args.job.now c.args.rounds) c.args.list.now _ _ _ l.list.count l.list.bytes.now c.in_ok-job.ensures.job.0
    l.ensures.list.0 (ap (λ (b : _). b.now) l.ensures.list.1) c.short_room.result c.short_room.ensures c.if-short_room.true

pub returns-in_err-check_ticks : goal.returns-in_err-check_ticks
returns-in_err-check_ticks c =
    let l = c.in_ok-list in
    let r = c.from_residual-in_err-check_ticks in
    let p = err_from_is_err_and r.result r.ensures.1 in
    rw (p.1, p.2)
    (ticks_refused (call c.args.job.now c.args.rounds) c.args.list.now _ _ _ l.list.count l.list.bytes.now c.in_ok-job.ensures.job.0
    l.ensures.list.0 (ap (λ (b : _). b.now) l.ensures.list.1) c.short_room.result c.short_room.ensures c.if-short_room.false _ c.in_err-check_ticks.ensures)

pub hand_out-requires : goal.hand_out-requires
hand_out-requires c = roomy_read c.in_ok-job.job.shape _ _ c.short_room.result c.short_room.ensures c.if-short_room.false

pub returns : goal.returns
returns c =
    let l = c.in_ok-list in
    let j = c.in_ok-job in
    hands_out (call c.args.job.now c.args.rounds) c.args.list.now _ _ _ l.list.count l.list.bytes.now c.in_ok-job.ensures.job.0
    l.ensures.list.0 (ap (λ (b : _). b.now) l.ensures.list.1) c.short_room.result c.short_room.ensures c.if-short_room.false c.in_ok-check_ticks.field-0
    c.in_ok-check_ticks.ensures _ (asked_again _ j.job j.ensures.job.0 (ap (λ (b : _). b.now) j.ensures.job.1)) _ _ _ c.hand_out.ensures
