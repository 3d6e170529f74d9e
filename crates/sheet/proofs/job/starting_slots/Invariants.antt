-- Slot by slot the row is filled from the front.
use Rattle.std.proofs.Common.{◌≡◌}
use Rattle.sheet.specs.Row.{row64}
use Rattle.sheet.proofs.job.starting_slots.Given as goal

abbrev pub invariant-loop-slot : goal.invariant-loop-slot
invariant-loop-slot l = l.row ≡ row64 l.slot l.job
