-- The tick of this turn's event breaks the rule, or the answer lies among the events after it.
use Rattle.std.proofs.Common.{◌≡◌, suc, ◌+◌, List, length, drop, ap, ◌∙◌, arith}
use Rattle.rules.specs.declared.Event.{Event}
use Rattle.rules.specs.LoadList.{head_size, events_in}
use Rattle.rules.specs.Refusals.{first_bad_tick}
use Rattle.laws.proofs.Events.{length-events_in, bad_tick_over, bad_tick_low, bad_tick_further, bad_tick_none}
use Rattle.sheet.proofs.ticks.first_bad_tick.Goals as goal
use Rattle.sheet.proofs.ticks.first_bad_tick.Goals.{then-tick-gt-LAST_TICK-via-then-tick-gt-LAST_TICK}
use Rattle.sheet.proofs.ticks.first_bad_tick.Goals.{then-tick-gt-LAST_TICK-via-else-tick-gt-LAST_TICK+then-tick-least}

pub returns-then-tick-gt-LAST_TICK : goal.returns-then-tick-gt-LAST_TICK
returns-then-tick-gt-LAST_TICK c =
    let l = c.loop-index in
    let v = c.event-tick.result in
    let events : List Event = events_in c.args.count (drop head_size c.args.list.now) in
    let whole : first_bad_tick 0 events ≡ l.index + first_bad_tick l.least (drop l.index events) = l.invariant in
    let stops : first_bad_tick l.least (drop l.index events) ≡ 0 =
    ap (first_bad_tick l.least) c.event-tick.ensures.next
    ∙ elim c.then-tick-gt-LAST_TICK.branch [
      | then-tick-gt-LAST_TICK-via-then-tick-gt-LAST_TICK w ↦ bad_tick_over l.least v.tick v.slot v.symbol _ w.if-tick-gt-LAST_TICK.true
      | then-tick-gt-LAST_TICK-via-else-tick-gt-LAST_TICK+then-tick-least w ↦
          bad_tick_low l.least v.tick v.slot v.symbol _ w.if-tick-gt-LAST_TICK.false w.if-tick-least.true
    ] in
    omega arith

pub loop-index-preserved : goal.loop-index-preserved
loop-index-preserved c =
    let l = c.loop-index in
    let v = c.event-tick.result in
    let events : List Event = events_in c.args.count (drop head_size c.args.list.now) in
    let whole : first_bad_tick 0 events ≡ l.index + first_bad_tick l.least (drop l.index events) = l.invariant in
    let goes : first_bad_tick l.least (drop l.index events) ≡ suc (first_bad_tick (v.tick + 1) (drop (l.index + 1) events)) =
    ap (first_bad_tick l.least) c.event-tick.ensures.next
    ∙ bad_tick_further l.least v.tick v.slot v.symbol _ c.if-tick-gt-LAST_TICK.false c.if-tick-least.false in
    omega arith

pub returns : goal.returns
returns c =
    let l = c.loop-index in
    let events : List Event = events_in c.args.count (drop head_size c.args.list.now) in
    let size : length events ≡ c.args.count = length-events_in c.args.count (drop head_size c.args.list.now) in
    let none : first_bad_tick l.least (drop l.index events) ≡ 0 = bad_tick_none l.least l.index events (omega arith) in
    let whole : first_bad_tick 0 events ≡ l.index + first_bad_tick l.least (drop l.index events) = l.invariant in
    omega arith
