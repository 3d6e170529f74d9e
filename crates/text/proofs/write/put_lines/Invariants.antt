-- At each turn the lines so far are at the front of the text, and the rest is as it was.
use Rattle.std.proofs.Common.{drop}
use Rattle.rules.specs.LoadList.{head_size, events_in}
use Rattle.text.proofs.Texts.{LinesPut}
use Rattle.text.proofs.write.put_lines.Given as goal

abbrev pub invariant-loop-index : goal.invariant-loop-index
invariant-loop-index l = LinesPut (events_in l.list.count (drop head_size l.list.bytes.now)) l.initial.text l.text l.at l.index
