-- The search stops at the first draw that no slot serves.
use Rattle.std.proofs.Common.{◌≡◌, tests, rules, true, false}
use Rattle.rules.specs.Basics.{stands}
use Rattle.std.proofs.lemmas.Iterator.{IsFirst-from_position, YieldsList-from_slice}
use Rattle.choice.proofs.Searches.{missed_first}
use Rattle.choice.proofs.search.missing.Goals as goal

pub returns : goal.returns
returns c =
    let a = c.args in
    missed_first a.slots.now a.rest.now c.position.result
    (IsFirst-from_position _ _ _ (λ y. stands y a.slots.now ≡ false) (λ y. stands y a.slots.now ≡ true) c.position.ensures.ran
    (YieldsList-from_slice a.rest.now (cc)) (λ x q k. search (rules, tests)) (λ x q k. search (rules, tests)))
