-- When all ranks are looked at, the one that leads is the first of the greatest.
use Rattle.std.proofs.Common.{◌≡◌, length, arith}
use Rattle.laws.proofs.Ranks.{leads_search}
use Rattle.choice.proofs.ranks.first_greatest.Goals as goal

pub returns : goal.returns
returns c =
    let l = c.loop-slot in
    let whole : l.slot ≡ length c.args.ranks.now = omega arith in
    record {
      first = leads_search c.args.ranks.now l.best l.most l.invariant.chosen (rw whole at l.invariant.leads);
      within = l.invariant.chosen;
    }
