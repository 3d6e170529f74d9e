-- A draw is missing and a slot is chosen: each way out is a test of the definition.
use Rattle.choice.proofs.Asked.{aggressive_soon, aggressive_far}
use Rattle.choice.proofs.ask.ask_aggressive.Goals as goal

pub returns-then-ranks-slot : goal.returns-then-ranks-slot
returns-then-ranks-slot c =
    let (first, within) = c.in_ok-place.ensures in
    λ job s still remain.
    aggressive_soon job s _ _ still remain _ first within _ c.ranks_of-ranks.ensures _ c.first_greatest-slot.ensures c.if-ranks-slot.true

pub returns : goal.returns
returns c =
    let (first, within) = c.in_ok-place.ensures in
    λ job s still remain.
    aggressive_far job s _ _ still remain _ first within _ c.ranks_of-ranks.ensures _ c.first_greatest-slot.ensures c.if-ranks-slot.false
