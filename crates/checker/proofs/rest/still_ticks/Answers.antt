-- No event comes up, no load ends, and a wait with no load under way has an event to come.
use Rattle.std.proofs.Common.{◌+◌, drop, arith}
use Rattle.rules.specs.LoadList.{events_in, head_size}
use Rattle.laws.proofs.Events.{length-events_in, due_none}
use Rattle.checker.proofs.rest.still_ticks.Goals as goal

pub returns-then-list-d : goal.returns-then-list-d
returns-then-list-d c =
    let d = c.args.d in
    let events = events_in c.args.list.count (drop head_size c.args.list.bytes.now) in
    let all = length-events_in c.args.list.count (drop head_size c.args.list.bytes.now) in
    record {
      none_due = λ j less. due_none events d.loads (d.tick + j) (omega arith);
      before_end = λ ends. omega arith;
      event_left = λ some idle. absurd (omega arith);
    }

pub returns-then-d-eq0 : goal.returns-then-d-eq0
returns-then-d-eq0 c =
    let all = length-events_in c.args.list.count (drop head_size c.args.list.bytes.now) in
    record {
      none_due = c.ticks_ahead-ahead.ensures;
      before_end = λ ends. c.if-d-eq0.true;
      event_left = λ some idle. omega arith;
    }
