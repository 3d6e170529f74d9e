-- The event of a number among the events of a load list: it comes first once those before it are dropped.
use Rattle.std.specs.Prelude.{ℕ, ◌+◌, ◌≡◌, List, ◌∷◌, drop}
use Rattle.rules.specs.declared.Event.{Event}
use Rattle.rules.specs.LoadList.{head_size, events_in}

abbrev pub NextEvent : (count : ℕ) (list : List ℕ) (index : ℕ) → Event → Type 0
NextEvent count list index e =
    drop index (events_in count (drop head_size list)) ≡ e ∷ drop (index + 1) (events_in count (drop head_size list))
