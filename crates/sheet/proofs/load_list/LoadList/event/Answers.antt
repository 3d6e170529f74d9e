-- The event that was read is the one of this number.
use Rattle.std.proofs.Common.{sym}
use Rattle.laws.proofs.Events.{event_read}
use Rattle.sheet.proofs.load_list.LoadList.event.Goals as goal

pub returns-clause-next : goal.returns-clause-next
returns-clause-next c =
    let v = c.in-Some.event in
    event_read c.args.self.count c.args.index c.args.self.bytes.now c.requires v.tick v.slot v.symbol (sym c.in-Some.ensures)
