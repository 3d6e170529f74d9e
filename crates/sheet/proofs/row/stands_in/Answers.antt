-- What `any` found at the places of the row is whether the symbol stands in it.
use Rattle.std.proofs.Common.{ℕ, ◌+◌, ◌*◌, ◌≡◌, ◌≢◌, refl, arith, rules}
use Rattle.std.proofs.lemmas.Iterator.{cases_from_any, YieldsList-from_range}
use borrow.Author.Tests.{tests}
use Rattle.rules.specs.Basics.{number16}
use Rattle.sheet.proofs.Searches.{stands_searched}
use Rattle.sheet.proofs.row.stands_in.Goals as goal

pub returns : goal.returns
returns c =
    let a = c.args in
    stands_searched a.symbol a.count a.from a.s.now c.any.result
    (cases_from_any _ _ _
    (λ (k : ℕ). number16 a.s.now (a.from + 2 * k) ≡ a.symbol)
    (λ (k : ℕ). number16 a.s.now (a.from + 2 * k) ≢ a.symbol)
    c.any.ensures.ran (YieldsList-from_range 0 a.count a.count refl (omega arith))
    (λ x q k. search (rules, tests)) (λ x q k. search (rules, tests)))
