-- The first event that breaks the rule is an event of the list, or there is none.
use Rattle.std.proofs.Common.{sym}
use borrow.Author.Tests.{lt-ltb, le-ltb}
use Rattle.sheet.proofs.load_list.LoadList.check_ticks.Goals as goal

pub returns-then-first-self : goal.returns-then-first-self
returns-then-first-self c = rw (sym c.first_bad_tick-first.ensures, lt-ltb c.first_bad_tick-first.result c.args.self.count c.if-first-self.true)

pub returns : goal.returns
returns c = rw (sym c.first_bad_tick-first.ensures, le-ltb c.first_bad_tick-first.result c.args.self.count c.if-first-self.false)
