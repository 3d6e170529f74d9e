-- One store notes the load.
use Rattle.planner.proofs.LoadRow.{noted_one}
use Rattle.planner.proofs.loads.note.Goals as goal

pub returns : goal.returns
returns c =
    let a = c.args in
    noted_one a.begun a.tick a.draw a.at a.loads.now c.in-Some.load.slot c.in-Some.load.symbol c.packed.result c.in-Some.is c.packed.ensures
