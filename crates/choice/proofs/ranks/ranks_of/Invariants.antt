-- Each slot passed has its rank. The inner search is at a place before which the symbol does not come up.
use Rattle.std.proofs.Common.{◌≡◌, ◌-◌, ◌≤◌, length}
use Rattle.choice.proofs.Ranking.{NotBefore, ranks_to}
use Rattle.choice.proofs.ranks.ranks_of.Given as goal

abbrev pub invariant-loop-slot : goal.invariant-loop-slot
invariant-loop-slot l = l.ranks ≡ ranks_to l.rest l.slots l.slot

abbrev pub invariant-loop-at : goal.invariant-loop-at
invariant-loop-at l = record { inside : l.at ≤ length l.rest; before : NotBefore l.rest l.symbol l.at }

abbrev pub decreases-loop-at : goal.decreases-loop-at
decreases-loop-at l = length l.rest - l.at
