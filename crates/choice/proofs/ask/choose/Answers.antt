-- Each plan asks its own question.
use Rattle.std.proofs.Common.{◌≡◌, sym, ◌∙◌, Some}
use Rattle.choice.proofs.Asked.{part_to_end}
use Rattle.choice.proofs.ask.choose.Goals as goal

pub returns-in_ok-order-in-Conservative : goal.returns-in_ok-order-in-Conservative
returns-in_ok-order-in-Conservative c =
    let a = c.args in
    let ordered : a.order ≡ Some c.in_ok-order-in-Conservative.field-0 = c.in_ok-order-in-Conservative.was in
    λ job s seen. rw (c.in-Conservative.is, ordered) (c.ask_earliest.ensures job s seen.quiet (seen.rest ∙ sym (part_to_end a.next a.row.now)) seen.next)
