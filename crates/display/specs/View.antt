-- The code's state as the rules' state. The code has what the slots hold in lent memory. It does not hold what is beside the display:
-- the draws that remain, the draws made and the loads begun.
use Rattle.std.specs.Prelude.{ℕ, zero, suc, ◌≡◌, List, [], ◌∷◌, ◌++◌, drop, Option, Some, None}
use Rattle.rules.specs.declared.Loading.{Loading}
use Rattle.rules.specs.declared.Loading.TheVariants.{Idle, Under}
use Rattle.rules.specs.declared.Load.{Load}
use Rattle.rules.specs.declared.Happening.{Happening}
use Rattle.rules.specs.declared.Happening.TheVariants.{Draw, Wait}
use Rattle.rules.specs.declared.TickRecord.{TickRecord}
use Rattle.rules.specs.Job.{Job}
use Rattle.rules.specs.Display.{State, Drawn, drawn, Loaded, loaded, land, begun_by}
use Rattle.display.specs.declared.state.Display.{Display}

-- What is beside the display.
pub record History : Type 0 where
  pub rest : List ℕ
  pub made : List Drawn
  pub begun : List Loaded

-- At the start all draws remain, and none is made and no load begun.
abbrev pub at_first : Job → History
at_first job = record { rest = job.draws; made = []; begun = [] }

-- The loader, told from the ticks until its load ends: 0 where it is idle.
abbrev pub loading_of : ℕ → ℕ → ℕ → Loading
loading_of zero q x = Idle
loading_of (suc left) q x = Under left q x

abbrev pub view : List ℕ → History → Display → State
view slots h d =
    record {
      tick = d.tick;
      next = d.next;
      rest = h.rest;
      slots = slots;
      loading = loading_of d.remaining d.target d.incoming;
      waits = d.waits;
      loads = d.loads;
      pause = d.pause;
      longest = d.longest;
      made = h.made;
      begun = h.begun;
    }

-- What is beside the display once a load has begun, and once a draw was made.
abbrev pub begun_now : Display → ℕ → ℕ → History → History
begun_now d q x h =
    record { rest = h.rest; made = h.made; begun = h.begun ++ (loaded d.tick d.next q x ∷ []) }

abbrev pub drawn_now : Display → ℕ → History → History
drawn_now d q h = record { rest = drop 1 h.rest; made = h.made ++ (drawn d.tick q ∷ []); begun = h.begun }

-- The same by what went on record in a tick: what began, then what happened.
abbrev pub history_begun : Display → Option Load → History → History
history_begun d None h = h
history_begun d (Some load) h = begun_now d load.slot load.symbol h

abbrev pub history_made : Display → Happening → History → History
history_made d (Draw q) h = drawn_now d q h
history_made d (Wait cause) h = h

abbrev pub onward : Display → TickRecord → History → History
onward d tick h = history_made d tick.happening (history_begun d tick.begun h)

-- The two moves before the draw or the wait, from d with these slots to the display r with other slots. Both are the same whatever is
-- beside the display; a load begins so in every job of this load time.
abbrev pub Lands : List ℕ → Display → List ℕ → Display → Type 0
Lands slots d slots' r = (h : History) → view slots' h r ≡ land (view slots h d)

abbrev pub Begins : ℕ → Option Load → List ℕ → Display → List ℕ → Display → Type 0
Begins time asked slots d slots' r =
    (h : History) (job : Job) → job.load_time ≡ time → view slots' (history_begun d asked h) r ≡ begun_by job asked (view slots h d)

-- All that a single search looks at: the awaited symbol.
abbrev pub awaiting : ℕ → History
awaiting x = record { rest = x ∷ []; made = []; begun = [] }
