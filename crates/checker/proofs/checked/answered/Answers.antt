-- The counts of the display, and the draws that it has made.
use Rattle.std.proofs.Common.{[]}
use Rattle.checker.proofs.checked.answered.Goals as goal

pub returns-in-Ok : goal.returns-in-Ok
returns-in-Ok c = rw (c.in-Ok.is, c.accepted.ensures [] (record { rest = []; made = []; begun = [] }))
