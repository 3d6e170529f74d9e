-- The search back stops at the last draw of the symbol.
use Rattle.std.proofs.Common.{◌≡◌, reverse, tests, rules, sym, ap, ◌∙◌}
use Rattle.std.specs.Prelude.{unwrap_or}
use lib.ListN.{length-reverse}
use Rattle.std.proofs.lemmas.Iterator.{IsFirst-from_position}
use Rattle.std.proofs.lemmas.Iterator.Adapters.{YieldsList-from_rev_slice}
use Rattle.choice.proofs.Searches.{found_first}
use Rattle.choice.proofs.search.last_draw.Goals as goal

pub returns : goal.returns
returns c =
    let a = c.args in
    found_first a.symbol (reverse a.made.now) c.position.result _
    (IsFirst-from_position _ _ _ (λ y. y ≡ a.symbol) (λ y. y ≡ a.symbol → ⊥) c.position.ensures.ran (YieldsList-from_rev_slice a.made.now (cc))
    (λ x q k. search (rules, tests)) (λ x q k. search (rules, tests)))
    (c.unwrap_or.ensures ∙ ap (unwrap_or c.position.result) (sym (length-reverse a.made.now)))
