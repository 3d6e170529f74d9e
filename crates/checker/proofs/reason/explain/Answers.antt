-- The refusals of a check, then 18, then the account.
use Rattle.std.proofs.Common.{refl, ap}
use Rattle.std.proofs.lemmas.Result.{err_from_is_err_and}
use Rattle.rules.specs.declared.refusal.Refusal.TheVariants.{ListForm}
use Rattle.rules.specs.Job.{call}
use Rattle.laws.proofs.Verdicts.{gives}
use Rattle.laws.proofs.Jobs.{refused_call, past_call}
use Rattle.sheet.proofs.Lists.{at_list}
use Rattle.checker.proofs.Answers.{asked_again}
use Rattle.checker.proofs.Reasons.{why_shut, why_order, why_refused, why_no_draw, why_told}
use Rattle.checker.proofs.reason.explain.Goals as goal

pub returns-in_err-job : goal.returns-in_err-job
returns-in_err-job c =
    let p = err_from_is_err_and c.from_residual.result c.from_residual.ensures.1 in
    rw (p.1, p.2) (why_shut _ _ c.args.draw _ (gives _ _ (refused_call _ _ _ _ refl c.in_err-job.ensures.refusal)))

pub returns-in_err-list : goal.returns-in_err-list
returns-in_err-list c =
    let r = c.from_residual-in_err-list in
    let p = err_from_is_err_and r.result r.ensures.1 in
    let (none, form) = c.in_err-list.ensures.refusal in
    rw (p.1, p.2, form)
    (why_shut _ _ c.args.draw ListForm
    (gives _ _ (past_call _ _ _ refl c.in_ok-job.ensures.job.0 (at_list c.args.list.now _ refl none))))

pub returns-in_err-check_ticks : goal.returns-in_err-check_ticks
returns-in_err-check_ticks c =
    let a = c.args in
    let j = c.in_ok-job in
    let l = c.in_ok-list in
    let r = c.from_residual-in_err-check_ticks in
    let p = err_from_is_err_and r.result r.ensures.1 in
    rw (p.1, p.2)
    (why_order (call a.job.now a.rounds) a.list.now a.draw _ l.list.count l.list.bytes.now j.ensures.job.0 l.ensures.list.0
    (ap (λ (b : _). b.now) l.ensures.list.1) _ c.in_err-check_ticks.ensures)

pub returns-in_err-account : goal.returns-in_err-account
returns-in_err-account c =
    let a = c.args in
    let j = c.in_ok-job in
    let l = c.in_ok-list in
    let r = c.from_residual-in_err-account in
    let p = err_from_is_err_and r.result r.ensures.1 in
    rw (p.1, p.2)
    (why_refused (call a.job.now a.rounds) a.list.now a.draw _ l.list.count l.list.bytes.now j.ensures.job.0 l.ensures.list.0
    (ap (λ (b : _). b.now) l.ensures.list.1) _ c.in_ok-check_ticks.ensures
    _ (asked_again _ j.job j.ensures.job.0 (ap (λ (b : _). b.now) j.ensures.job.1)) _ c.in_err-account.ensures)

pub returns-then-job-draw : goal.returns-then-job-draw
returns-then-job-draw c =
    let a = c.args in
    let j = c.in_ok-job in
    let l = c.in_ok-list in
    why_no_draw (call a.job.now a.rounds) a.list.now a.draw _ l.list.count l.list.bytes.now j.ensures.job.0 l.ensures.list.0
    (ap (λ (b : _). b.now) l.ensures.list.1) _ c.in_ok-check_ticks.ensures
    _ (asked_again _ j.job j.ensures.job.0 (ap (λ (b : _). b.now) j.ensures.job.1)) c.in_ok-account.account c.in_ok-account.ensures c.if-job-draw.true

pub returns : goal.returns
returns c =
    let a = c.args in
    let j = c.in_ok-job in
    let l = c.in_ok-list in
    why_told (call a.job.now a.rounds) a.list.now a.draw _ l.list.count l.list.bytes.now j.ensures.job.0 l.ensures.list.0
    (ap (λ (b : _). b.now) l.ensures.list.1) _ c.in_ok-check_ticks.ensures
    _ (asked_again _ j.job j.ensures.job.0 (ap (λ (b : _). b.now) j.ensures.job.1)) c.in_ok-account.account c.in_ok-account.ensures c.if-job-draw.false
