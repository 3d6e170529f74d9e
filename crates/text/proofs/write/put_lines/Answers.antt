-- A turn puts one line more.
use Rattle.std.proofs.Common.{◌≡◌, List, length, drop, arith}
use Rattle.rules.specs.declared.Event.{Event}
use Rattle.rules.specs.LoadList.{head_size, events_in}
use Rattle.laws.proofs.Events.{length-events_in}
use Rattle.text.proofs.Texts.{none_put, one_put, all_put, put_fits}
use Rattle.text.proofs.write.put_lines.Goals as goal

pub loop-index-init : goal.loop-index-init
loop-index-init c = none_put (events_in c.args.list.count (drop head_size c.args.list.bytes.now)) c.args.text.now c.requires

pub put_line-at-requires : goal.put_line-at-requires
put_line-at-requires c =
    let l = c.loop-index in
    put_fits (events_in c.args.list.count (drop head_size c.args.list.bytes.now)) c.args.text.now l.text l.at l.index c.event.result
    c.event.ensures.next l.invariant

pub loop-index-preserved : goal.loop-index-preserved
loop-index-preserved c =
    let l = c.loop-index in
    one_put (events_in c.args.list.count (drop head_size c.args.list.bytes.now)) c.args.text.now l.text l.at l.index c.event.result
    c.event.ensures.next l.invariant c.put_line-at.new.text c.put_line-at.result c.put_line-at.ensures.next c.put_line-at.ensures.written

pub returns : goal.returns
returns c =
    let l = c.loop-index in
    let all : List Event = events_in c.args.list.count (drop head_size c.args.list.bytes.now) in
    let many : length all ≡ c.args.list.count = length-events_in c.args.list.count (drop head_size c.args.list.bytes.now) in
    all_put all c.args.text.now l.text l.at l.index (omega arith) l.invariant
