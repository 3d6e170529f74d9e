-- A first digit that is no zero takes those after it along.
use Rattle.text.proofs.Digits.{number_found}
use Rattle.text.proofs.line.number_at.Goals as goal

pub returns : goal.returns
returns c = number_found c.args.text.now c.args.from c.args.first c.requires c.digits_at.result (assumption (c)) c.digits_at.ensures
