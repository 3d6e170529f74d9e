-- A turn counts one line more.
use Rattle.std.proofs.Common.{◌≡◌, List, length, drop, arith}
use Rattle.rules.specs.declared.Event.{Event}
use Rattle.rules.specs.LoadList.{head_size, events_in}
use Rattle.rules.specs.Text.{text_of}
use Rattle.laws.proofs.Events.{length-events_in}
use Rattle.text.proofs.Texts.{text_split, text_none}
use Rattle.text.proofs.write.text_size.Goals as goal

pub loop-index-preserved : goal.loop-index-preserved
loop-index-preserved c =
    let l = c.loop-index in
    let events : List Event = events_in c.args.list.count (drop head_size c.args.list.bytes.now) in
    let line = c.line_size-size.ensures in
    record {
      small = omega (arith, line.1, l.invariant.small);
      whole = omega (arith, line.0, l.invariant.whole, text_split events l.index c.event.result c.event.ensures.next);
    }

pub returns : goal.returns
returns c =
    let l = c.loop-index in
    let all : List Event = events_in c.args.list.count (drop head_size c.args.list.bytes.now) in
    let many : length all ≡ c.args.list.count = length-events_in c.args.list.count (drop head_size c.args.list.bytes.now) in
    let none : length (text_of (drop l.index all)) ≡ 0 = text_none all l.index (omega arith) in
    (omega (arith, l.invariant.whole), omega (arith, l.invariant.small))
