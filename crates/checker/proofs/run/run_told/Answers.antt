-- The loop goes on as `Kept` says, and where a turn ends the run the account is that of the rules.
use Rattle.std.proofs.Common.{◌∙◌}
use Rattle.std.proofs.lemmas.Result.{err_from_is_err_and}
use Rattle.rules.specs.Job.{job_of}
use Rattle.checker.specs.Follow.{call_of, events_along}
use Rattle.rules.specs.Refusals.{follow, most_ticks}
use Rattle.display.proofs.Going.{going_may}
use Rattle.checker.proofs.Ends.{starting_size}
use Rattle.checker.specs.Turn.{GoesOn}
use Rattle.checker.proofs.Tells.{kept_first, telling_on, telling_past, kept_on, ran_refused, ran_out}
use Rattle.checker.proofs.run.run_told.Goals as goal

pub loop-turn-init : goal.loop-turn-init
loop-turn-init c =
    let a = c.args in
    kept_first (call_of a.job) (events_along a.list.count a.list.bytes.now) a.asked a.symbol a.held.now c.start-d.result _
    c.requires c.start-d.ensures c.untold-account.ensures

pub take_turn-requires : goal.take_turn-requires
take_turn-requires c =
    let a = c.args in
    let job = job_of (call_of a.job) in
    let kept = c.loop-turn.invariant in
    record {
      all_slots = kept.same_slots ∙ starting_size a.job _ c.requires;
      rests = going_may job (follow (events_along a.list.count a.list.bytes.now)) (most_ticks job) _ _ _ kept.walking.along;
      loads = kept.walking.along.loads;
    }

pub returns-in_err-turn : goal.returns-in_err-turn
returns-in_err-turn c =
    let a = c.args in
    let p = err_from_is_err_and c.from_residual.result c.from_residual.ensures.1 in
    rw (p.1, p.2)
    (ran_refused (job_of (call_of a.job)) (events_along a.list.count a.list.bytes.now) a.asked a.symbol a.held.now _ _ _
    c.loop-turn.invariant _ c.in_err-turn.ensures)

pub returns-in_default : goal.returns-in_default
returns-in_default c =
    let a = c.args in
    ran_out (job_of (call_of a.job)) (events_along a.list.count a.list.bytes.now) a.asked a.symbol a.held.now _ _ _
    c.loop-turn.invariant (rw c.in_default.is at c.in_ok-turn.ensures)

pub loop-turn-preserved-then-d-asked : goal.loop-turn-preserved-then-d-asked
loop-turn-preserved-then-d-asked c =
    let a = c.args in
    let job = job_of (call_of a.job) in
    let events = events_along a.list.count a.list.bytes.now in
    let turn = c.in-Some.turn in
    let t : GoesOn job events c.loop-turn.held c.take_turn.new.held c.loop-turn.d turn.on_record turn.later =
    rw c.in-Some.is at c.in_ok-turn.ensures in
    let kept = c.loop-turn.invariant in
    kept_on job events a.asked a.symbol _ _ _ _ kept _ c.in-Some.turn.on_record c.in-Some.turn.later _ t c.take_turn.auto.held
    (telling_on job events a.asked a.symbol _ _ _ _ kept.telling kept.walking.along _ _ _ t c.going_out-out.result _ c.if-d-asked.true
    c.going_out-out.ensures c.turn_told-account.ensures)

pub loop-turn-preserved : goal.loop-turn-preserved
loop-turn-preserved c =
    let a = c.args in
    let job = job_of (call_of a.job) in
    let events = events_along a.list.count a.list.bytes.now in
    let turn = c.in-Some.turn in
    let t : GoesOn job events c.loop-turn.held c.take_turn.new.held c.loop-turn.d turn.on_record turn.later =
    rw c.in-Some.is at c.in_ok-turn.ensures in
    let kept = c.loop-turn.invariant in
    kept_on job events a.asked a.symbol _ _ _ _ kept _ c.in-Some.turn.on_record c.in-Some.turn.later _ t c.take_turn.auto.held
    (telling_past job events a.asked a.symbol _ _ _ _ kept.telling kept.walking.along _ _ _ t c.if-d-asked.false)
