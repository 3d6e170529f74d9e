-- The ranks of the slots along a row of draws, and the slot that is chosen by them.
use Rattle.std.specs.Prelude.{ℕ, ◌-◌, ◌≤◌, ◌<◌, ◌≡◌, List, ◌++◌, length, replicate}
use Rattle.rules.specs.Basics.{place}
use Rattle.rules.specs.Job.{Job, most_slots, most_draws}
use Rattle.rules.specs.Plans.{greatest, ranks_from, furthest}

-- Slots and draws within the limits of a job.
pub record WithinLimits (slots row : List ℕ) : Type 0 where
  pub some_slot : 1 ≤ length slots
  pub few_slots : length slots ≤ most_slots
  pub few_draws : length row ≤ most_draws

-- A rank for each slot of a job.
pub record SomeRanks (ranks : List ℕ) : Type 0 where
  pub some_slot : 1 ≤ length ranks
  pub few_slots : length ranks ≤ most_slots

-- The ranks of the slots in 64 places, with zeros after them, in every job that has these slots. A load may go into each of them.
abbrev pub Ranks : List ℕ → List ℕ → List ℕ → Type 0
Ranks slots row r = (job : Job) → job.slots ≡ length slots → r ≡ ranks_from job row 0 slots ++ replicate (most_slots - length slots) 0

-- The first place of the greatest of some ranks.
pub record Greatest (ranks : List ℕ) (r : ℕ) : Type 0 where
  pub first : r ≡ place (greatest ranks) ranks
  pub within : r < length ranks

-- The slot that is chosen along a row, in every job that has these slots.
pub record Chosen (slots row : List ℕ) (r : ℕ) : Type 0 where
  pub slot : (job : Job) → job.slots ≡ length slots → r ≡ furthest job row slots
  pub within : r < length slots
