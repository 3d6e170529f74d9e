-- The check in as many places as a job can need is the check for C.
use Rattle.std.proofs.Common.{arith}
use Rattle.rules.specs.Job.{call}
use Rattle.govahrin.proofs.Places.{few_draws, as_for_C}
use Rattle.govahrin.proofs.govahrin_check.Goals as goal

pub put_ticks-requires : goal.put_ticks-requires
put_ticks-requires c =
    let a = c.args in
    let k = c.check_in-checked in
    let places = c.tick_places-places.ensures in
    let few = few_draws (call a.job.now a.rounds) a.list.now _ _ a.slots.now _ c.tick_places-places.result k.result k.ensures in
    record { to = omega (arith, places); from = omega (arith, places) }

pub returns : goal.returns
returns c =
    let a = c.args in
    let k = c.check_in-checked in
    let (answer, (ticks, slots)) =
    as_for_C (call a.job.now a.rounds) a.list.now _ k.new.row a.slots.now k.new.slots c.tick_places-places.result k.result a.ticks.now
    c.put_ticks.new.to c.tick_places-places.ensures k.ensures c.put_ticks.ensures in
    record { answer = answer; ticks = ticks; slots = slots }
