-- What a check leaves in the front of a row, said of the whole row.
use Rattle.rules.specs.Job.{call}
use Rattle.govahrin.proofs.Places.{whole_row}
use Rattle.govahrin.proofs.check_in.Goals as goal

pub returns : goal.returns
returns c =
    let a = c.args in
    let k = c.check_draws in
    whole_row (call a.job.now a.rounds) a.list.now a.row.now k.new.ticks a.slots.now k.new.slots a.places k.result c.requires
    (record { answers = k.ensures.answer; many = k.ensures.draws; at = k.ensures.ticks; from = k.ensures.slots })
