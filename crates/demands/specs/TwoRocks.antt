-- The two rocks: a sheet on which one slot holds a submerged rock and then a dry one. A list that takes the slot before the last
-- submerged rock is drawn is refused; a tick after that draw the same list is accepted. Both are computed with the definitions.
use Rattle.std.specs.Prelude.{ℕ, ◌≡◌, refl, List, [], ◌∷◌}
use Rattle.rules.specs.Basics.{place}
use Rattle.rules.specs.Job.{symbols, call, times_over}
use Rattle.rules.specs.LoadList.{event, events_in, events_bytes, list_bytes}
use Rattle.rules.specs.Display.{Run, run, tick, beginning, happened}
use Rattle.rules.specs.Refusals.{checked, due, first_bad_tick, doubled, answer_of, ticks_of, slots_of}
use Rattle.rules.specs.Worked.{symbol_bytes, job_bytes, numbers, accepts, refuses}

-- The symbols of the sheet.
abbrev submerged : ℕ
submerged = 1

abbrev light : ℕ
light = 2

abbrev dry : ℕ
dry = 3

-- Two slots, and three ticks to a load. The submerged rock is drawn at ticks 0 and 2, the light between them, the dry rock at the end.
abbrev sheet : List ℕ
sheet = job_bytes 3 (submerged ∷ light ∷ []) (submerged ∷ light ∷ submerged ∷ dry ∷ [])

-- The dry rock is loaded into the submerged rock's slot, from a tick on.
abbrev loaded_from : ℕ → Run
loaded_from t = checked (call sheet 1) (list_bytes (event t 0 dry ∷ [])) 4 4

-- The slot is taken a tick early, in the very tick in which the last submerged rock is to be drawn: that draw, number 2, is refused.
taken_too_early : numbers (answer_of (loaded_from 2)) ≡ refuses 13 2
unfolding checked symbol_bytes run tick beginning happened place symbols times_over doubled events_in events_bytes due first_bad_tick
taken_too_early = refl

-- So it is where it is taken a tick before that.
taken_earlier_still : numbers (answer_of (loaded_from 1)) ≡ refuses 13 2
unfolding checked symbol_bytes run tick beginning happened place symbols times_over doubled events_in events_bytes due first_bad_tick
taken_earlier_still = refl

-- A tick later the last submerged rock is drawn, and the list is accepted: seven ticks, three of them waits for the one load.
taken_in_time : numbers (answer_of (loaded_from 3)) ≡ accepts 7 3 1 3
unfolding checked symbol_bytes run tick beginning happened place symbols times_over doubled events_in events_bytes due first_bad_tick
taken_in_time = refl

-- Its draws: the submerged rock at ticks 0 and 2 and the dry one at tick 6, all from slot 0, and the light at tick 1 from slot 1.
drawn_in_time : (ticks_of (loaded_from 3) ≡ 0 ∷ 1 ∷ 2 ∷ 6 ∷ []) × (slots_of (loaded_from 3) ≡ 0 ∷ 1 ∷ 0 ∷ 0 ∷ [])
unfolding checked symbol_bytes run tick beginning happened place symbols times_over doubled events_in events_bytes due first_bad_tick
drawn_in_time = (refl, refl)
