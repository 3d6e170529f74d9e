-- An event is left, or none is.
use Rattle.checker.proofs.Ends.{ended_early, ended_whole}
use Rattle.checker.proofs.checked.finish.Goals as goal

pub returns-then-d-count : goal.returns-then-d-count
returns-then-d-count c = ended_early c.args.count c.args.d c.if-d-count.true

pub returns : goal.returns
returns c = ended_whole c.args.count c.args.d c.if-d-count.false
