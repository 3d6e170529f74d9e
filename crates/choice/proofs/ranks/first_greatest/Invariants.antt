-- Of the ranks looked at, the best leads.
use Rattle.std.proofs.Common.{ℕ, ◌<◌, length, get_or}
use Rattle.laws.proofs.Ranks.{Leads}
use Rattle.choice.proofs.ranks.first_greatest.Given as goal

abbrev pub invariant-loop-slot : goal.invariant-loop-slot
invariant-loop-slot l =
    record {
      chosen : l.best < length l.ranks;
      leads : Leads (λ (i : ℕ). get_or l.ranks i 0) l.best l.most l.slot;
    }
