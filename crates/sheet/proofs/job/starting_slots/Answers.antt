-- No slot is filled at the start.
use Rattle.std.proofs.Common.{sym}
use Rattle.sheet.proofs.Rows.{row_none}
use Rattle.sheet.proofs.job.starting_slots.Goals as goal

pub loop-slot-init : goal.loop-slot-init
loop-slot-init c = sym (row_none c.args.job.now)
