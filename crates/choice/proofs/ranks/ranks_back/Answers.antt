-- A turn ranks one slot more.
use Rattle.std.proofs.Common.{reverse, arith}
use Rattle.choice.proofs.Ranking.{ranks_none, ranks_more, ranks_all}
use Rattle.choice.proofs.ranks.ranks_back.Goals as goal

pub loop-slot-init : goal.loop-slot-init
loop-slot-init c = ranks_none (reverse c.args.made.now) c.args.slots.now

pub loop-slot-preserved : goal.loop-slot-preserved
loop-slot-preserved c =
    let l = c.loop-slot in
    ranks_more (reverse c.args.made.now) c.args.slots.now l.ranks l.slot c.rank_back.result c.loop-slot-test.true c.requires.few_slots
    c.rank_back.ensures l.invariant

pub returns : goal.returns
returns c = let l = c.loop-slot in ranks_all (reverse c.args.made.now) c.args.slots.now l.ranks l.slot (omega arith) l.invariant
