-- Of the slots looked at whose symbols are never drawn again, the best leads, and what is most is how long ago its symbol was drawn.
use Rattle.std.proofs.Common.{◌≡◌, ◌<◌, get_or, reverse}
use Rattle.rules.specs.Basics.{place}
use Rattle.choice.proofs.Ranking.{Never, Freed}
use Rattle.choice.proofs.ranks.free_first.Given as goal

abbrev pub invariant-loop-slot : goal.invariant-loop-slot
invariant-loop-slot l =
    record {
      passed : l.best < l.slot;
      age : l.most ≡ place (get_or l.slots l.best 0) (reverse l.made);
      never : Never l.rest (reverse l.made) l.slots l.best;
      so_far : Freed l.rest (reverse l.made) l.slots l.best l.slot;
    }
