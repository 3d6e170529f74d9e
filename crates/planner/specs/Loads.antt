-- The loads of a run as the code keeps them: a row of numbers, each of which holds one load.
use Rattle.std.specs.Prelude.{ℕ, ◌+◌, ◌*◌, ◌/◌, ◌%◌, ◌≤◌, List, map, length, take, set, Option, Some, None}
use Rattle.rules.specs.declared.Load.{Load}
use Rattle.rules.specs.LoadList.{head_size, event_size}
use Rattle.rules.specs.Display.{Loaded, loaded}

-- The load that a number holds: its symbol is in the 16 lowest bits, its slot in the next 8, its draw in the next 16, then its tick.
abbrev pub load_of : ℕ → Loaded
load_of n = loaded (n / 65536 / 256 / 65536) (n / 65536 / 256 % 65536) (n / 65536 % 256) (n % 65536)

-- The loads of a row, and the first of them.
abbrev pub loads_in : List ℕ → List Loaded
loads_in row = map load_of row

abbrev pub first_loads : ℕ → List ℕ → List Loaded
first_loads count row = take count (loads_in row)

-- The loads with the one that a tick begins at its place; a tick in which none begins leaves them as they are.
abbrev pub noted_load : Option Load → ℕ → ℕ → ℕ → List Loaded → List Loaded
noted_load None tick draw at loads = loads
noted_load (Some load) tick draw at loads = set loads at (loaded tick draw load.slot load.symbol)

-- Room for a list of this many events, and a row that has as many loads.
pub record Fitting (count : ℕ) (room row : List ℕ) : Type 0 where
  pub enough : head_size + event_size * count ≤ length room
  pub there : count ≤ length row
