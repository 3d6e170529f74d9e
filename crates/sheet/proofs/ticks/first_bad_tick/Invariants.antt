-- At each turn the events passed and the first bad tick of those left make up the answer.
use Rattle.std.proofs.Common.{◌≡◌, ◌+◌, drop}
use Rattle.rules.specs.LoadList.{head_size, events_in}
use Rattle.rules.specs.Refusals.{first_bad_tick}
use Rattle.sheet.proofs.ticks.first_bad_tick.Given as goal

abbrev pub invariant-loop-index : goal.invariant-loop-index
invariant-loop-index l =
    first_bad_tick 0 (events_in l.count (drop head_size l.list))
    ≡ l.index + first_bad_tick l.least (drop l.index (events_in l.count (drop head_size l.list)))
