-- The draws of a call as one row, and the first of them that no slot serves.
use Rattle.std.specs.Prelude.{ℕ, ◌-◌, ◌<◌, ◌≡◌, List, ◌++◌, length, replicate, Option, MatchOption}
use Rattle.rules.specs.Job.{Call, draws_of, most_draws}
use Rattle.rules.specs.Plans.{missing}

-- The draws of all rounds in a row of 4,096 places, with zeros after them.
abbrev pub row_of : Call → List ℕ
row_of asked = draws_of asked ++ replicate (most_draws - length (draws_of asked)) 0

-- The first draw that no slot serves, or that there is none.
abbrev pub Missed : List ℕ → List ℕ → Option ℕ → Type 0
Missed slots rest r = MatchOption r (missing slots rest ≡ length rest) (λ place. (place ≡ missing slots rest) × (place < length rest))
