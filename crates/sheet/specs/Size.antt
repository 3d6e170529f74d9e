-- The size of a load list: as many bytes as its head and its events need.
use Rattle.std.specs.Prelude.{ℕ, ◌+◌, ◌*◌, ◌≡◌, List, length}
use Rattle.rules.specs.LoadList.{head_size, event_size}

abbrev pub Sized : ℕ → List ℕ → Type 0
Sized count list = length list ≡ head_size + event_size * count
