-- The search stops at the first draw of the symbol.
use Rattle.std.proofs.Common.{◌≡◌, tests, rules}
use Rattle.std.proofs.lemmas.Iterator.{IsFirst-from_position, YieldsList-from_slice}
use Rattle.choice.proofs.Searches.{found_first}
use Rattle.choice.proofs.search.next_draw.Goals as goal

pub returns : goal.returns
returns c =
    let a = c.args in
    found_first a.symbol a.rest.now c.position.result _
    (IsFirst-from_position _ _ _ (λ y. y ≡ a.symbol) (λ y. y ≡ a.symbol → ⊥) c.position.ensures.ran (YieldsList-from_slice a.rest.now (cc))
    (λ x q k. search (rules, tests)) (λ x q k. search (rules, tests)))
    c.unwrap_or.ensures
