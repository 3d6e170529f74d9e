-- At each turn the bytes counted and those of the lines left make up the whole.
use Rattle.std.proofs.Common.{drop}
use Rattle.rules.specs.LoadList.{head_size, events_in}
use Rattle.text.proofs.Texts.{LinesCounted}
use Rattle.text.proofs.write.text_size.Given as goal

abbrev pub invariant-loop-index : goal.invariant-loop-index
invariant-loop-index l = LinesCounted (events_in l.list.count (drop head_size l.list.bytes.now)) l.size l.index
