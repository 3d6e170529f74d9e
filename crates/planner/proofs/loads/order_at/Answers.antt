-- An order that is in the row is the load of its number.
use Rattle.planner.proofs.LoadRow.{order_there}
use Rattle.planner.proofs.loads.order_at.Goals as goal

pub returns : goal.returns
returns c =
    let a = c.args in
    let noted = c.load_at-noted.result in
    λ s. order_there a.orders a.at a.loads.now noted.tick noted.draw noted.load.slot noted.load.symbol s c.if-orders-at.false c.requires
    c.load_at-noted.ensures
