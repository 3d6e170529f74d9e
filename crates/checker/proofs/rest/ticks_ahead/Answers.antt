-- Before its tick the next event is not due.
use Rattle.std.proofs.Common.{◌+◌, ap, ◌∙◌, List, arith}
use Rattle.rules.specs.declared.Event.{Event}
use Rattle.rules.specs.Refusals.{due}
use Rattle.laws.proofs.Events.{due_later}
use Rattle.checker.proofs.rest.ticks_ahead.Goals as goal

pub returns : goal.returns
returns c =
    let a = c.args in
    let e = c.event.result in
    λ j less.
    ap (λ (l : List Event). due l (a.tick + j)) c.event.ensures.next ∙ due_later e.tick e.slot e.symbol (a.tick + j) _ (λ now. omega arith)
