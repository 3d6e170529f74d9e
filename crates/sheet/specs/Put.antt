-- What a writer of a part of a list answers: that it was written, or that the lent room is too short for it. (Refusal 7)
use Rattle.std.specs.Prelude.{ℕ, List, cond, Result, Ok, Err}
use Rattle.rules.specs.declared.refusal.Refusal.{Refusal}
use Rattle.rules.specs.declared.refusal.Refusal.TheVariants.{ShortRoom}
use Rattle.rules.specs.Refusing.{refusal_number}
use Rattle.rules.specs.LoadList.{too_short}

abbrev pub put_result : ℕ → ℕ → List ℕ → Result (Unit {0}) Refusal
put_result at size room = cond (too_short at size room) (Err ShortRoom) (Ok tt)

-- Document 01's number for it.
abbrev pub number_of_put : Result (Unit {0}) Refusal → ℕ
number_of_put (Ok written) = 0
number_of_put (Err refusal) = refusal_number refusal
