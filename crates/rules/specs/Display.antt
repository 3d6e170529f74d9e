-- One tick of the display, and a run of ticks. (Document 01, "One tick of the display"; refusals 10 to 13 of "Refusal numbers"; the longest
-- single wait: document 02, One)
-- What is to begin in a tick is asked of a rule: a load list is one, and so is each plan. The display is the same for all.
use Rattle.std.specs.Prelude.{ℕ, zero, suc, ◌+◌, ◌-◌, max, Bool, true, false, cond, not, ◌||◌, List, [], ◌∷◌, ◌++◌, get_or}
use Rattle.std.specs.Prelude.{drop, set, eqb, ltb}
use Rattle.std.specs.Prelude.{Option, Some, None}
use Rattle.rules.specs.declared.Load.{Load}
use Rattle.rules.specs.declared.Loading.{Loading}
use Rattle.rules.specs.declared.Loading.TheVariants.{Idle, Under}
use Rattle.rules.specs.declared.Cause.{Cause}
use Rattle.rules.specs.declared.Cause.TheVariants.{Awaited, Another, Nothing}
use Rattle.rules.specs.declared.Happening.{Happening}
use Rattle.rules.specs.declared.Happening.TheVariants.{Draw, Wait}
use Rattle.rules.specs.declared.TickRecord.{TickRecord}
use Rattle.rules.specs.Basics.{place, stands}
use Rattle.rules.specs.Order.{Test, test, Verdict, clear, met, first_of, number_in}
use Rattle.rules.specs.Job.{Job, free}

-- A draw that was made: its tick and the slot that it was drawn from.
pub data Drawn : Type 0 where
  drawn : (tick slot : ℕ) → Drawn

-- A load that was begun: its tick, the next draw number at that tick, its slot and its symbol.
pub data Loaded : Type 0 where
  loaded : (tick draw slot symbol : ℕ) → Loaded

-- A load: this slot begins to load this symbol.
abbrev pub load : ℕ → ℕ → Load
load slot symbol = record { slot = slot; symbol = symbol }

-- The display between two ticks.
--     tick      the ticks that have passed, so the number of the tick that comes; at the end of a run it is elapsed
--     next      the next draw number
--     rest      the draws that remain
--     slots     what each slot holds: a symbol, or `free` for nothing
--     loading   the load under way
--     waits     the ticks that were waits
--     loads     the loads begun
--     pause     the waits since the last draw, or since the start
--     longest   the greatest number of waits between a draw made and the draw before it, or the start
--     made      each draw made, in order
--     begun     each load begun, in order
pub record State : Type 0 where
  pub tick : ℕ
  pub next : ℕ
  pub rest : List ℕ
  pub slots : List ℕ
  pub loading : Loading
  pub waits : ℕ
  pub loads : ℕ
  pub pause : ℕ
  pub longest : ℕ
  pub made : List Drawn
  pub begun : List Loaded

-- Time starts at tick 0, with the next draw number 0 and the starting symbols in the slots.
abbrev pub start : Job → State
start job =
    record {
      tick = 0;
      next = 0;
      rest = job.draws;
      slots = job.starting;
      loading = Idle;
      waits = 0;
      loads = 0;
      pause = 0;
      longest = 0;
      made = [];
      begun = [];
    }

-- A run is still going, or it was refused with a number and a detail.
pub data Run : Type 0 where
  going : State → Run
  refused : (number detail : ℕ) → Run

-- A run after an order of refusals: refused by the first test that holds, and as it is where none does.
abbrev pub unless : Verdict → Run → Run
unless clear r = r
unless (met number detail) r = refused number detail

-- A rule for what begins: what it asks for in a tick, and whether, at a wait with no load under way, it will ask for nothing any more.
pub record Rule : Type 0 where
  pub asks : State → Option Load
  pub done : State → Bool

-- Step 1. A load begun F ticks ago puts its symbol into its slot; any other load under way is a tick nearer to its end.
abbrev pub landed_slots : Loading → List ℕ → List ℕ
landed_slots Idle slots = slots
landed_slots (Under zero q x) slots = set slots q x
landed_slots (Under (suc left) q x) slots = slots

abbrev pub landed_loading : Loading → Loading
landed_loading Idle = Idle
landed_loading (Under zero q x) = Idle
landed_loading (Under (suc left) q x) = Under left q x

abbrev pub land : State → State
land s =
    record {
      tick = s.tick;
      next = s.next;
      rest = s.rest;
      slots = landed_slots s.loading s.slots;
      loading = landed_loading s.loading;
      waits = s.waits;
      loads = s.loads;
      pause = s.pause;
      longest = s.longest;
      made = s.made;
      begun = s.begun;
    }

-- Step 2. A load begins: what its slot held is gone at once, and the slot holds nothing until the load ends, F ticks from now.
abbrev pub begin : Job → ℕ → ℕ → State → State
begin job q x s =
    record {
      tick = s.tick;
      next = s.next;
      rest = s.rest;
      slots = set s.slots q free;
      loading = Under (job.load_time - 1) q x;
      waits = s.waits;
      loads = s.loads + 1;
      pause = s.pause;
      longest = s.longest;
      made = s.made;
      begun = s.begun ++ (loaded s.tick s.next q x ∷ []);
    }

abbrev pub idle : Loading → Bool
idle Idle = true
idle (Under left q x) = false

-- Which slots a load may go into, whether an event of a list names one (refusal 11) or a plan chooses one: those below k.
abbrev pub loadable : Job → ℕ → Bool
loadable job q = ltb q job.slots

-- The order for one load: while another is under way (10), into a slot that it may not go into (11), and of a symbol that some slot
-- holds or that is no symbol (12). The detail is the number of the event, counted from 0.
abbrev pub load_tests : Job → ℕ → ℕ → State → List Test
load_tests job q x s =
    test 10 s.loads (not (idle s.loading))
    ∷ test 11 s.loads (not (loadable job q))
    ∷ test 12 s.loads (eqb x free || stands x s.slots)
    ∷ []

-- The number of the refusal that a load meets; 0 where it meets none.
abbrev pub load_refusal : Job → ℕ → ℕ → State → ℕ
load_refusal job q x s = number_in (first_of (load_tests job q x s))

-- What begins, if anything does.
unfoldable pub beginning : Job → Option Load → State → Run
unfolding first_of
beginning job None s = going s
beginning job (Some l) s = unless (first_of (load_tests job l.slot l.symbol s)) (going (begin job l.slot l.symbol s))

-- The state once the load that is asked for has begun, where one is.
abbrev pub begun_by : Job → Option Load → State → State
begun_by job None s = s
begun_by job (Some l) s = begin job l.slot l.symbol s

-- Step 3. The symbol of the next draw, and what happens: it is drawn from the first slot that holds it, or the tick is a wait.
abbrev pub awaited : State → ℕ
awaited s = get_or s.rest 0 0

abbrev pub cause_of : Loading → ℕ → Cause
cause_of Idle x = Nothing
cause_of (Under left q y) x = cond (eqb x y) Awaited Another

abbrev pub happening_of : State → Happening
happening_of s =
    cond (stands (awaited s) s.slots) (Draw (place (awaited s) s.slots)) (Wait (cause_of s.loading (awaited s)))

-- A draw ends the pause before it. The longest pause of all that a draw has ended is the longest single wait. (Document 02, One)
abbrev pub draw : ℕ → State → State
draw q s =
    record {
      tick = s.tick + 1;
      next = s.next + 1;
      rest = drop 1 s.rest;
      slots = s.slots;
      loading = s.loading;
      waits = s.waits;
      loads = s.loads;
      pause = 0;
      longest = max s.longest s.pause;
      made = s.made ++ (drawn s.tick q ∷ []);
      begun = s.begun;
    }

-- A wait makes the pause before the next draw longer.
abbrev pub wait : State → State
wait s =
    record {
      tick = s.tick + 1;
      next = s.next;
      rest = s.rest;
      slots = s.slots;
      loading = s.loading;
      waits = s.waits + 1;
      loads = s.loads;
      pause = s.pause + 1;
      longest = s.longest;
      made = s.made;
      begun = s.begun;
    }

-- A wait with no load under way never ends where the rule asks for nothing any more. (Refusal 13: no event is left)
abbrev pub stuck : Happening → Bool → Bool
stuck (Draw q) done = false
stuck (Wait Awaited) done = false
stuck (Wait Another) done = false
stuck (Wait Nothing) done = done

abbrev pub moved : Happening → State → State
moved (Draw q) s = draw q s
moved (Wait cause) s = wait s

-- The detail of this refusal is the draw.
unfoldable pub happened : Happening → Bool → State → Run
happened h done s = cond (stuck h done) (refused 13 s.next) (going (moved h s))

-- A run that was refused stays so.
abbrev pub then : Run → (State → Run) → Run
then (going s) f = f s
then (refused number detail) f = refused number detail

-- A tick on record: the load begun in it, and what happened once it had begun. So a load begun in this tick counts as under way.
abbrev pub record_of : Option Load → State → TickRecord
record_of begun s = record { begun = begun; happening = happening_of s }

-- What is to begin is asked once a load that ends in this tick is in its slot, so the next load may begin in the same tick.
abbrev pub asked : Rule → State → Option Load
asked rule s = rule.asks (land s)

-- The record of the tick that comes, where it is not refused.
abbrev pub record_at : Job → Rule → State → TickRecord
record_at job rule s = record_of (asked rule s) (begun_by job (asked rule s) (land s))

-- One tick: the three steps in this order.
unfoldable pub tick : Job → Rule → State → Run
tick job rule s =
    then (beginning job (asked rule s) (land s)) (λ b. happened (record_of (asked rule s) b).happening (rule.done b) b)

-- A run of t ticks. Once no draw remains the display does not move any more.
abbrev pub finished : List ℕ → Bool
finished [] = true
finished (x ∷ rest) = false

unfoldable pub run : Job → Rule → ℕ → State → Run
run job rule zero s = going s
run job rule (suc t) s =
    let further : Run = then (tick job rule s) (run job rule t) in
    cond (finished s.rest) (going s) further
