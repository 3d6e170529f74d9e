-- The loop goes on as `Walking` says, and where a turn ends the run the draws noted are those of the run.
use Rattle.std.proofs.Common.{refl, ap, ◌∙◌, length, arith}
use Rattle.std.proofs.lemmas.Result.{err_from_is_err_and}
use Rattle.rules.specs.Job.{job_of}
use Rattle.checker.specs.Follow.{call_of, events_along}
use Rattle.rules.specs.Refusals.{follow, most_ticks}
use Rattle.display.specs.View.{at_first, onward}
use Rattle.display.proofs.Going.{going_may}
use Rattle.checker.specs.Turn.{GoesOn}
use Rattle.checker.proofs.Ends.{starting_size, walking_first, closed}
use Rattle.checker.proofs.Walks.{walked_on, noted_length}
use Rattle.checker.proofs.run.run_list.Goals as goal

pub loop-turn-init : goal.loop-turn-init
loop-turn-init c =
    let a = c.args in
    let asked = call_of a.job in
    record {
      same_slots = refl;
      tick_places = refl;
      slot_places = refl;
      history = at_first (job_of asked);
      walking = walking_first asked (events_along a.list.count a.list.bytes.now) a.held.now c.start-d.result a.ticks.now a.slots.now
          c.requires.starts c.start-d.ensures;
    }

pub take_turn-requires : goal.take_turn-requires
take_turn-requires c =
    let a = c.args in
    let job = job_of (call_of a.job) in
    let kept = c.loop-turn.invariant in
    record {
      all_slots = kept.same_slots ∙ starting_size a.job _ c.requires.starts;
      rests = going_may job (follow (events_along a.list.count a.list.bytes.now)) (most_ticks job) _ _ _ kept.walking.along;
      loads = kept.walking.along.loads;
    }

pub returns-in_err-turn : goal.returns-in_err-turn
returns-in_err-turn c =
    let a = c.args in
    let p = err_from_is_err_and c.from_residual.result c.from_residual.ensures.1 in
    rw (p.1, p.2)
    (closed (job_of (call_of a.job)) (events_along a.list.count a.list.bytes.now) _ _ _ _ _ c.loop-turn.invariant.walking
    _ c.in_err-turn.ensures).notes

pub returns : goal.returns
returns c =
    let a = c.args in
    (closed (job_of (call_of a.job)) (events_along a.list.count a.list.bytes.now) _ _ _ _ _ c.loop-turn.invariant.walking
    _ (rw c.in_default.is at c.in_ok-turn.ensures)).notes

pub loop-turn-preserved : goal.loop-turn-preserved
loop-turn-preserved c =
    let a = c.args in
    let job = job_of (call_of a.job) in
    let events = events_along a.list.count a.list.bytes.now in
    let l = c.loop-turn in
    let kept = l.invariant in
    let turn = c.in-Some.turn in
    let t : GoesOn job events l.held c.take_turn.new.held l.d turn.on_record turn.later = rw c.in-Some.is at c.in_ok-turn.ensures in
    let on = turn.on_record in
    let many = c.args.job.limits.many_draws in
    let few = c.args.job.limits.few_draws in
    let within = t.within in
    let tick_room = kept.tick_places ∙ c.requires.tick_room in
    let slot_room = kept.slot_places ∙ c.requires.slot_room in
    record {
      same_slots = c.take_turn.auto.held ∙ kept.same_slots;
      tick_places = ap length c.note.ensures.ticks ∙ noted_length on.happening (λ q. l.d.tick) l.d.next l.ticks ∙ kept.tick_places;
      slot_places = ap length c.note.ensures.slots ∙ noted_length on.happening (λ q. q) l.d.next l.slots ∙ kept.slot_places;
      history = onward l.d on kept.history;
      walking = walked_on job events _ _ _ _ _ kept.walking t.within t.early _ _ t.on_record.ticks c.in-Some.turn.later t.rested c.note.new.ticks
          c.note.new.slots (omega arith) (omega arith) c.note.ensures.ticks c.note.ensures.slots;
    }
