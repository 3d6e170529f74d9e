-- At each turn the lines so far are noted, and what is left of the text comes after them.
use Rattle.std.proofs.Common.{◌-◌}
use Rattle.rules.specs.LoadList.{most_events}
use Rattle.text.proofs.Notes.{LinesNoted}
use Rattle.text.proofs.read.note_lines.Given as goal

abbrev pub invariant-loop-at : goal.invariant-loop-at
invariant-loop-at l = LinesNoted l.text l.initial.row l.row l.at l.lines

abbrev pub decreases-loop-at : goal.decreases-loop-at
decreases-loop-at l = most_events - l.lines
