-- The rule of ticks over a load list, as an answer: that it holds, or its first event that breaks it.
use Rattle.std.specs.Prelude.{ℕ, List, cond, ltb, drop, Result, Ok, Err}
use Rattle.rules.specs.declared.refusal.Refusal.{Refusal}
use Rattle.rules.specs.declared.refusal.Refusal.TheVariants.{EventTick}
use Rattle.rules.specs.LoadList.{head_size, events_in}
use Rattle.rules.specs.Refusals.{first_bad_tick}

abbrev pub in_order : ℕ → List ℕ → Result (Unit {0}) Refusal
in_order count list =
    let first : ℕ = first_bad_tick 0 (events_in count (drop head_size list)) in
    cond (ltb first count) (Err (EventTick first)) (Ok tt)
