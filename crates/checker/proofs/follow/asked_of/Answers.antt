-- The event after those begun is due, or is not, or there is none.
use Rattle.std.proofs.Common.{sym, ap, ◌∙◌, List, drop, arith}
use Rattle.rules.specs.declared.Event.{Event}
use Rattle.rules.specs.LoadList.{head_size}
use Rattle.rules.specs.Refusals.{due}
use Rattle.laws.proofs.Events.{length-events_in, due_now, due_later, due_none}
use Rattle.checker.specs.Follow.{events_along}
use Rattle.checker.proofs.follow.asked_of.Goals as goal

pub returns-then-list-loads : goal.returns-then-list-loads
returns-then-list-loads c =
    let a = c.args in
    let size = length-events_in a.list.count (drop head_size a.list.bytes.now) in
    sym (due_none (events_along a.list.count a.list.bytes.now) a.loads a.tick (omega arith))

pub returns-then-event-tick : goal.returns-then-event-tick
returns-then-event-tick c =
    let a = c.args in
    let e = c.event-event.result in
    sym (ap (λ (l : List Event). due l a.tick) c.event-event.ensures.next ∙ due_now e.tick e.slot e.symbol a.tick _ c.if-event-tick.true)

pub returns : goal.returns
returns c =
    let a = c.args in
    let e = c.event-event.result in
    sym (ap (λ (l : List Event). due l a.tick) c.event-event.ensures.next ∙ due_later e.tick e.slot e.symbol a.tick _ c.if-event-tick.false)
