-- The tests of a load are walked in their order, whatever that order is.
use Rattle.laws.proofs.Verdicts.{end, stop, step}
use Rattle.display.proofs.Loads.{asked_met, asked_clear, in_slots}
use Rattle.display.proofs.tick.load_refusal.Goals as goal

ruleset walk = (end, stop, step, in_slots)

pub returns-then-under_way : goal.returns-then-under_way
returns-then-under_way c = λ h job same. asked_met job _ _ c.in-Some.load 10 c.in-Some.is (search walk depth 20 fits 4000)

pub returns-then-beyond : goal.returns-then-beyond
returns-then-beyond c = λ h job same. asked_met job _ _ c.in-Some.load 11 c.in-Some.is (search walk depth 20 fits 4000)

pub returns-then-held_or_none : goal.returns-then-held_or_none
returns-then-held_or_none c = λ h job same. asked_met job _ _ c.in-Some.load 12 c.in-Some.is (search walk depth 20 fits 4000)

pub returns : goal.returns
returns c = λ h job same. asked_clear job _ _ c.in-Some.load c.in-Some.is (search walk depth 20 fits 4000)
