-- What a slot holds at a tick, said from the load list alone, with no run of the display, and what a sheet of draw ticks and slots must
-- be by that. A reader who does not trust the display's ticks can trust a sheet by this file.
use Rattle.std.specs.Prelude.{ℕ, zero, suc, ◌+◌, ◌-◌, ◌<◌, ◌≤◌, ◌≡◌, refl, cond, ◌&&◌, List, [], ◌∷◌, map}
use Rattle.std.specs.Prelude.{length, get_or, eqb, ltb, leb}
use Rattle.rules.specs.declared.Answer.{Answer}
use Rattle.rules.specs.Job.{Job, free}
use Rattle.rules.specs.declared.Event.{Event}
use Rattle.rules.specs.LoadList.{event}
use Rattle.rules.specs.Plans.{greatest}

-- The last load into a slot: there was none, or it began at a tick and brings a symbol.
pub data LastLoad : Type 0 where
  none : LastLoad
  last : (tick symbol : ℕ) → LastLoad

-- A load, or where there was none another.
abbrev pub or_else : LastLoad → LastLoad → LastLoad
or_else none before = before
or_else (last u x) before = last u x

-- The last event of a list on slot q whose tick is t or earlier. What comes later in the list counts before what comes earlier.
unfoldable pub last_load : ℕ → ℕ → List Event → LastLoad
last_load q t [] = none
last_load q t (e ∷ later) = or_else (last_load q t later) (cond (eqb e.slot q && leb e.tick t) (last e.tick e.symbol) none)

-- What that leaves in the slot at tick t: where there was no load, its starting symbol; where the load began F ticks ago or more, the
-- load's symbol; where it began since, nothing.
abbrev pub leaves : ℕ → ℕ → ℕ → LastLoad → ℕ
leaves starting time t none = starting
leaves starting time t (last u x) = cond (leb (u + time) t) x free

-- What slot q holds at tick t of a job with this list.
abbrev pub held : Job → List Event → ℕ → ℕ → ℕ
held job events t q = leaves (get_or job.starting q 0) job.load_time t (last_load q t events)

-- A draw of symbol x, looked for from a tick on, at tick t and from slot q.
--     holds      the slot holds the symbol at that tick
--     lowest     no lower slot does
--     soonest    from the first tick looked at until then no slot of the job held it
pub record DrawnAt (job : Job) (events : List Event) (from t q x : ℕ) : Type 0 where
  pub slot : q < job.slots
  pub looked : from ≤ t
  pub holds : held job events t q ≡ x
  pub lowest : (r : ℕ) → r < q → held job events t r ≡ x → ⊥
  pub soonest : (u r : ℕ) → from ≤ u → u < t → r < job.slots → held job events u r ≡ x → ⊥

-- The first tick at which draw i is looked for: tick 0, or the tick after the draw before it.
abbrev pub from : List ℕ → ℕ → ℕ
from ticks zero = 0
from ticks (suc i) = get_or ticks i 0 + 1

-- The gap before each draw of a row of draw ticks: from the tick at which it is first looked for to its own. (Document 02, One)
unfoldable pub gaps : ℕ → List ℕ → List ℕ
gaps first [] = []
gaps first (t ∷ later) = (t - first) ∷ gaps (t + 1) later

-- A whole sheet as a check reports it: a tick and a slot to each draw, and the answer's counts.
--     drawn      each draw is made at the first tick after the draw before it at which some slot holds its symbol
--     elapsed    the ticks up to the last draw and its own, none where there is no draw
--     waits      every other tick was a wait
--     loads      every event was begun
--     longest    the greatest gap between a draw tick and the tick after the draw before it, or tick 0
pub record Sheet (job : Job) (events : List Event) (ticks slots : List ℕ) (answer : Answer) : Type 0 where
  pub a_tick_each : length ticks ≡ length job.draws
  pub a_slot_each : length slots ≡ length job.draws
  pub drawn : (i : ℕ) → i < length job.draws
      → DrawnAt job events (from ticks i) (get_or ticks i 0) (get_or slots i 0) (get_or job.draws i 0)
  pub elapsed : answer.elapsed ≡ from ticks (length job.draws)
  pub waits : answer.waits + length job.draws ≡ answer.elapsed
  pub loads : answer.loads ≡ length events
  pub longest : answer.longest ≡ greatest (gaps 0 ticks)

-- How many loads of a list have ended on a sheet that took this many ticks: a load begun at tick t ends in tick t + F, if the sheet has that tick.
unfoldable pub ended_by : ℕ → ℕ → List Event → ℕ
ended_by time elapsed [] = 0
ended_by time elapsed (e ∷ later) = cond (ltb (e.tick + time) elapsed) 1 0 + ended_by time elapsed later

-- Row e of document 01: slot 1 of job a holds symbol 2, then nothing from tick 2 on, when the load begins, and symbol 3 from tick 6 on.
row_e : map (λ t. held (record { slots = 2; load_time = 4; starting = 1 ∷ 2 ∷ []; draws = 1 ∷ 2 ∷ 3 ∷ 1 ∷ [] }) (event 2 1 3 ∷ []) t 1)
    (0 ∷ 1 ∷ 2 ∷ 3 ∷ 4 ∷ 5 ∷ 6 ∷ 7 ∷ [])
    ≡ 2 ∷ 2 ∷ free ∷ free ∷ free ∷ free ∷ 3 ∷ 3 ∷ []
unfolding last_load
row_e = refl

-- Its draw ticks are 0, 1, 6 and 7, so the gap before the third draw is the longest.
row_e_longest : (gaps 0 (0 ∷ 1 ∷ 6 ∷ 7 ∷ []) ≡ 0 ∷ 0 ∷ 4 ∷ 0 ∷ []) × (greatest (gaps 0 (0 ∷ 1 ∷ 6 ∷ 7 ∷ [])) ≡ 4)
unfolding gaps greatest
row_e_longest = (refl, refl)
