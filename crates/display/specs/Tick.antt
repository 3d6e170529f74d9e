-- What a tick of the code answers, as the rules have it.
use Rattle.std.specs.Prelude.{ℕ, ◌+◌, ◌≤◌, ◌<◌, ◌≡◌, Bool, false, cond, List, length, get_or, drop, eqb, Option, Some, None}
use Rattle.std.specs.Prelude.{Result, Ok, Err, IfOk}
use Rattle.std.specs.Result.{IfErr}
use Rattle.rules.specs.declared.Load.{Load}
use Rattle.rules.specs.declared.Happening.{Happening}
use Rattle.rules.specs.declared.Cause.TheVariants.{Nothing}
use Rattle.rules.specs.declared.Happening.TheVariants.{Draw, Wait}
use Rattle.rules.specs.declared.TickRecord.{TickRecord}
use Rattle.rules.specs.declared.refusal.Refusal.{Refusal}
use Rattle.rules.specs.declared.refusal.Refusal.TheVariants.{LoadUnderWay, NoSuchSlot, SymbolHeld}
use Rattle.rules.specs.Basics.{stands}
use Rattle.rules.specs.Job.{Job, most_slots}
use Rattle.rules.specs.Order.{Verdict, clear, met, first_of}
use Rattle.rules.specs.Refusing.{refusal_number, refusal_detail}
use Rattle.rules.specs.Display.{State, Run, Rule, going, refused, load_tests, happening_of, happened, record_of, record_at, tick}
use Rattle.display.specs.declared.state.Display.{Display}
use Rattle.display.specs.declared.tick.Ticked.{Ticked}
use Rattle.display.specs.Moves.{begun_with, begun_in, drawn_or_waited}
use Rattle.display.specs.View.{History, view, awaiting, history_made, onward}

-- The display's counters of ticks, draws, waits and waits since the last draw have room for one more.
pub record Room (d : Display) : Type 0 where
  pub tick : d.tick < 4294967295
  pub next : d.next < 65535
  pub waits : d.waits < 4294967295
  pub pause : d.pause < 4294967295

-- A load of this time may begin: it takes a tick at least, and the counter of loads has room for one more.
pub record CanBegin (time : ℕ) (d : Display) : Type 0 where
  pub some_time : 1 ≤ time
  pub loads : d.loads < 4294967295

-- A draw or a wait may come: a slot is numbered in a byte, and the counters have room.
pub record CanMove (slots : List ℕ) (d : Display) : Type 0 where
  pub few_slots : length slots ≤ most_slots
  pub room : Room d

-- The refusal of a load by the number and the event of the test that it meets.
abbrev pub refusal_of_load : ℕ → ℕ → Refusal
refusal_of_load number event = cond (eqb number 10) (LoadUnderWay event) (cond (eqb number 11) (NoSuchSlot event) (SymbolHeld event))

abbrev pub refused_by : Verdict → Result (Unit {0}) Refusal
refused_by clear = Ok tt
refused_by (met number event) = Err (refusal_of_load number event)

-- The refusal of what is asked for, where anything is.
abbrev pub asked_refusal : Job → Option Load → State → Result (Unit {0}) Refusal
asked_refusal job None s = Ok tt
asked_refusal job (Some l) s = refused_by (first_of (load_tests job l.slot l.symbol s))

-- Steps 2 and 3 of a tick, by what the load that is asked for meets: refused, the slots are as they were.
abbrev pub gone_on : Result (Unit {0}) Refusal → ℕ → List ℕ → Display → Option Load → ℕ → Bool → Result Ticked Refusal
gone_on (Ok none) time slots d asked symbol done = drawn_or_waited (begun_in asked slots) (begun_with time asked d) asked symbol done
gone_on (Err e) time slots d asked symbol done = Err e

abbrev pub held_on : Result (Unit {0}) Refusal → Option Load → List ℕ → List ℕ
held_on (Ok none) asked slots = begun_in asked slots
held_on (Err e) asked slots = slots

-- Both may come: a load of this time may begin, and then a draw or a wait.
pub record CanGoOn (time : ℕ) (slots : List ℕ) (d : Display) : Type 0 where
  pub begins : CanBegin time d
  pub moves : CanMove slots d

-- What they come to in every job that has these slots, whatever is beside the display.
pub record WentOn (time : ℕ) (slots slots' : List ℕ) (d : Display) (asked : Option Load) (symbol : ℕ) (done : Bool)
    (r : Result Ticked Refusal) : Type 0 where
  pub result : (h : History) (job : Job) → job.slots ≡ length slots
      → r ≡ gone_on (asked_refusal job asked (view slots h d)) time slots d asked symbol done
  pub slots_after : (h : History) (job : Job) → job.slots ≡ length slots
      → slots' ≡ held_on (asked_refusal job asked (view slots h d)) asked slots

-- Where a tick leads, with these slots after it, given what is beside the display once the tick is on record.
abbrev pub leads : List ℕ → (TickRecord → History) → Result Ticked Refusal → Run
leads slots beside (Ok r) = going (view slots (beside r.on_record) r.display)
leads slots beside (Err refusal) = refused (refusal_number refusal) (refusal_detail refusal)

-- What the counters say after a tick: one tick more, one draw more where there was a draw, at most one wait more, also since the last draw,
-- and no more loads than `most` allows.
abbrev pub next_after : Happening → ℕ → ℕ
next_after (Draw q) next = next + 1
next_after (Wait cause) next = next

pub record Counted (most : ℕ) (happening : Happening) (before later : Display) : Type 0 where
  pub tick : later.tick ≡ before.tick + 1
  pub next : later.next ≡ next_after happening before.next
  pub waits : later.waits ≤ before.waits + 1
  pub pause : later.pause ≤ before.pause + 1
  pub loads : later.loads ≤ before.loads + most

-- Step 3 from d, with the awaited symbol, whatever is beside the display. The tick of a wait that would never end has a record too: what was
-- asked for, and a wait while nothing was loading.
pub record DrawnOrWaited (slots : List ℕ) (d : Display) (asked : Option Load) (symbol : ℕ) (done : Bool) (r : Result Ticked Refusal) : Type 0 where
  pub recorded : IfOk r (λ t. t.on_record ≡ record_of asked (view slots (awaiting symbol) d))
  pub unrecorded : IfErr r (λ e. record_of asked (view slots (awaiting symbol) d) ≡ record { begun = asked; happening = Wait Nothing })
  pub counts : IfOk r (λ t. Counted 0 t.on_record.happening d t.display)
  pub run : (h : History)
      → get_or h.rest 0 0 ≡ symbol
      → leads slots (λ tick. history_made d tick.happening h) r ≡ happened (happening_of (view slots h d)) done (view slots h d)

-- A wait says that the awaited symbol is in no slot.
abbrev pub Missed : Happening → ℕ → List ℕ → Type 0
Missed (Draw q) x slots = Unit {0}
Missed (Wait cause) x slots = stands x slots ≡ false

-- A tick of the code by a rule is a tick of the rules by it, whatever was drawn and loaded before.
pub record Ticks (job : Job) (rule : Rule) (slots slots' : List ℕ) (d : Display) (r : Result Ticked Refusal) : Type 0 where
  pub counts : IfOk r (λ t. Counted 1 t.on_record.happening d t.display)
  pub waits : IfOk r (λ t. Missed t.on_record.happening (get_or (drop d.next job.draws) 0 0) slots')
  pub run : (h : History)
      → h.rest ≡ drop d.next job.draws
      → leads slots' (λ tick. onward d tick h) r ≡ tick job rule (view slots h d)

-- What the code has on record of a tick that was not refused is what the rules have.
abbrev pub Recorded : Job → Rule → List ℕ → Display → Result Ticked Refusal → Type 0
Recorded job rule slots d r =
    IfOk r (λ t. (h : History) → h.rest ≡ drop d.next job.draws → t.on_record ≡ record_at job rule (view slots h d))

-- Both of a tick.
pub record OnRecord (job : Job) (rule : Rule) (slots slots' : List ℕ) (d : Display) (r : Result Ticked Refusal) : Type 0 where
  pub ticks : Ticks job rule slots slots' d r
  pub recorded : Recorded job rule slots d r
