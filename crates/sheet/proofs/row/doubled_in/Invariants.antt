-- At each turn what is left of the row gives what the whole row gives.
use Rattle.std.proofs.Common.{◌≡◌, ◌+◌, ◌*◌, ◌-◌, drop}
use Rattle.rules.specs.Job.{symbols}
use Rattle.rules.specs.Refusals.{doubled}
use Rattle.sheet.proofs.row.doubled_in.Given as goal

abbrev pub invariant-loop-place : goal.invariant-loop-place
invariant-loop-place l = doubled (symbols (l.count - l.place) (drop (l.from + 2 * l.place) l.s)) ≡ doubled (symbols l.count (drop l.from l.s))
