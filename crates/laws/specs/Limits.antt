-- What the code may count on once a call was taken: the one record of limits, asked for by every function that needs any.
-- That each taken call meets it is one law (proofs/Jobs.antt, `limits`).
use Rattle.std.specs.Prelude.{◌≤◌, ◌≡◌, length}
use Rattle.rules.specs.declared.Unrolled.{Unrolled}
use Rattle.rules.specs.Job.{Call, most_slots, most_load_time, most_draws, unrolled, draws_of}

pub record Limits (asked : Call) (shape : Unrolled) : Type 0 where
  pub shaped : shape ≡ unrolled asked
  pub some_slot : 1 ≤ shape.slots
  pub few_slots : shape.slots ≤ most_slots
  pub some_load_time : 1 ≤ shape.load_time
  pub short_load_time : shape.load_time ≤ most_load_time
  pub few_draws : shape.draws ≤ most_draws
  pub many_draws : length (draws_of asked) ≡ shape.draws
