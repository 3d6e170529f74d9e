-- Draw by draw the row is filled from the front.
use Rattle.std.proofs.Common.{◌≡◌}
use Rattle.rules.specs.Job.{call, draws_of}
use Rattle.choice.proofs.Rows.{filled_to}
use Rattle.choice.proofs.row.row_of.Given as goal

abbrev pub invariant-loop-place : goal.invariant-loop-place
invariant-loop-place l = l.row ≡ filled_to l.place (draws_of (call l.job l.shape.rounds))
