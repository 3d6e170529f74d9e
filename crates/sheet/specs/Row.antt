-- The starting symbols of a job as the 64 slots that a display has: those of its k slots, and free ones after them.
use Rattle.std.specs.Prelude.{ℕ, ◌-◌, min, List, ◌++◌, drop, replicate}
use Rattle.rules.specs.Job.{symbols, starting_at, most_slots, free}

abbrev pub row64 : ℕ → List ℕ → List ℕ
row64 k job = symbols (min k most_slots) (drop starting_at job) ++ replicate (most_slots - min k most_slots) free
