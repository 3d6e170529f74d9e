-- What was read keeps to the limits.
use Rattle.std.proofs.Common.{sym}
use Rattle.rules.specs.Job.{call}
use Rattle.checker.proofs.Answers.{taken_limits}
use Rattle.checker.proofs.job.TakenJob.read.Goals as goal

pub invariant_of-result : goal.invariant_of-result
invariant_of-result c =
    record { limits = taken_limits (call c.args.bytes.now c.args.rounds) c.in-Ok.shape (sym c.in-Ok.ensures) }
