-- Each slot passed has its rank.
use Rattle.std.proofs.Common.{◌≡◌, reverse}
use Rattle.choice.proofs.Ranking.{ranks_to}
use Rattle.choice.proofs.ranks.ranks_back.Given as goal

abbrev pub invariant-loop-slot : goal.invariant-loop-slot
invariant-loop-slot l = l.ranks ≡ ranks_to (reverse l.made) l.slots l.slot
