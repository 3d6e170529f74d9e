-- A text that is gone through ends, has a line too many or a bad one, or has one line more.
use Rattle.text.proofs.Notes.{none_noted, too_many, bad_here, one_noted, all_noted}
use Rattle.text.proofs.read.note_lines.Goals as goal

pub loop-at-init : goal.loop-at-init
loop-at-init c = none_noted c.args.text.now c.args.row.now c.requires

pub returns-then-lines-ge-MOST_EVENTS : goal.returns-then-lines-ge-MOST_EVENTS
returns-then-lines-ge-MOST_EVENTS c =
    let l = c.loop-at in
    too_many c.args.text.now c.args.row.now l.row l.at l.lines l.invariant c.loop-at-test.true c.if-lines-ge-MOST_EVENTS.true

pub returns-in_default : goal.returns-in_default
returns-in_default c =
    let l = c.loop-at in
    bad_here c.args.text.now c.args.row.now l.row l.at l.lines l.invariant c.loop-at-test.true c.if-lines-ge-MOST_EVENTS.false
    c.in_default.ensures

pub loop-at-preserved : goal.loop-at-preserved
loop-at-preserved c =
    let l = c.loop-at in
    rw c.put_event.ensures.written
    (one_noted c.args.text.now c.args.row.now l.row l.at l.lines l.invariant c.loop-at-test.true c.if-lines-ge-MOST_EVENTS.false
    c.in-Some.line.event.tick c.in-Some.line.event.slot c.in-Some.line.event.symbol c.in-Some.line.after c.in-Some.ensures)

pub returns : goal.returns
returns c =
    let l = c.loop-at in
    rw c.put_head.ensures.written (all_noted c.args.text.now c.args.row.now l.row l.at l.lines l.invariant c.loop-at-test.false)
