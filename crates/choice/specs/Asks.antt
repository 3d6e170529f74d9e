-- What a plan asks for, by its number, and how the rules' job and state are seen from what the code is lent.
use Rattle.std.specs.Prelude.{ℕ, zero, suc, ◌≤◌, ◌≡◌, List, drop, get_or, length, Option, Some, None, MatchOption, true, false}
use Rattle.rules.specs.declared.Load.{Load}
use Rattle.rules.specs.declared.Loading.TheVariants.{Idle}
use Rattle.rules.specs.Job.{Job}
use Rattle.rules.specs.Display.{State, awaited}
use Rattle.rules.specs.Plans.{furthest, on_demand, aggressive, opt, lru, earliest_at}
use Rattle.display.specs.declared.state.Display.{Display}
use Rattle.display.specs.View.{History, view}
use Rattle.rules.specs.Basics.{stands}
use Rattle.choice.specs.declared.ask.Order.{Order}
use Rattle.choice.specs.Ranks.{WithinLimits}

-- What conservative asks for, told from the next load of opt.
abbrev pub order_asks : Option Order → State → Option Load
order_asks (Some o) s = earliest_at o.miss o.load.slot o.load.symbol s
order_asks None s = None

abbrev pub asks_by : ℕ → Job → Option Order → State → Option Load
asks_by zero job order s = (aggressive job).asks s
asks_by (suc zero) job order s = order_asks order s
asks_by (suc (suc zero)) job order s = (opt job).asks s
asks_by (suc (suc (suc n))) job order s = (lru job).asks s

-- Slots and a row within the limits of a job, and a draw number no greater than the number of draws.
pub record CanAsk (slots row : List ℕ) (next : ℕ) : Type 0 where
  pub limits : WithinLimits slots row
  pub within : next ≤ length row

-- The same for a display, with the symbol of its next draw.
pub record MayAsk (slots row : List ℕ) (d : Display) (symbol : ℕ) : Type 0 where
  pub can : CanAsk slots row d.next
  pub awaits : get_or (drop d.next row) 0 0 ≡ symbol

-- No load is under way, and the slots of the job hold this.
pub record Quiet (job : Job) (s : State) (slots : List ℕ) : Type 0 where
  pub idle : s.loading ≡ Idle
  pub held : s.slots ≡ slots
  pub many : job.slots ≡ length slots

-- The same, with the draws of the job in a row, the next draw number and the awaited symbol.
pub record Seen (job : Job) (s : State) (slots row : List ℕ) (at symbol : ℕ) : Type 0 where
  pub quiet : Quiet job s slots
  pub draws : job.draws ≡ row
  pub next : s.next ≡ at
  pub rest : s.rest ≡ drop at row
  pub awaits : awaited s ≡ symbol

-- These slots and this row belong to the job, with h beside the display, and the awaited symbol is this.
pub record Lent (job : Job) (h : History) (slots row : List ℕ) (d : Display) (symbol : ℕ) : Type 0 where
  pub many : job.slots ≡ length slots
  pub draws : job.draws ≡ row
  pub rest : h.rest ≡ drop d.next job.draws
  pub awaits : awaited (view slots h d) ≡ symbol

-- What is asked for in this tick, by the plan's number, for every job and history that these slots and this row belong to.
abbrev pub Asked : ℕ → List ℕ → List ℕ → Display → ℕ → Option Order → Option Load → Type 0
Asked plan slots row d symbol order r =
    (h : History) (job : Job) → Lent job h slots row d symbol → r ≡ asks_by plan job order (view slots h d)

-- A load of opt, as early as conservative begins it, with no load under way.
abbrev pub Earliest : List ℕ → List ℕ → ℕ → Order → Option Load → Type 0
Earliest slots rest next o r =
    (job : Job) (s : State) → Quiet job s slots → s.rest ≡ rest → s.next ≡ next → r ≡ earliest_at o.miss o.load.slot o.load.symbol s

-- A load on demand with no load under way, into the furthest slot along this row.
abbrev pub OnDemand : List ℕ → List ℕ → ℕ → Option Load → Type 0
OnDemand slots row symbol r =
    (job : Job) (s : State) (slot : State → ℕ)
    → Quiet job s slots → awaited s ≡ symbol → slot s ≡ furthest job row slots → r ≡ (on_demand slot).asks s

-- A load of the awaited symbol where no slot holds it, into a slot that was chosen.
abbrev pub OnDemandBy : List ℕ → ℕ → (ℕ → Type 0) → Option Load → Type 0
OnDemandBy slots symbol Choice r =
    MatchOption r (stands symbol slots ≡ true) (λ l. (stands symbol slots ≡ false) × (l.symbol ≡ symbol) × Choice l.slot)
