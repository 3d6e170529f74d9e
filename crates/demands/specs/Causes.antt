-- Why a tick is a wait, said from the load list alone, with no run of the display.
use Rattle.std.specs.Prelude.{ℕ, ◌+◌, cond, List, [], ◌∷◌, eqb, leb}
use Rattle.rules.specs.declared.Cause.{Cause}
use Rattle.rules.specs.declared.Cause.TheVariants.{Awaited, Another, Nothing}
use Rattle.rules.specs.Job.{Job}
use Rattle.rules.specs.declared.Event.{Event}
use Rattle.demands.specs.Held.{LastLoad, none, last, or_else}

-- The last event of a list whose tick is t or earlier, into whatever slot.
unfoldable pub last_begun : ℕ → List Event → LastLoad
last_begun t [] = none
last_begun t (e ∷ later) = or_else (last_begun t later) (cond (leb e.tick t) (last e.tick e.symbol) none)

-- What that says of a wait for symbol x at tick t: nothing is loading where no load has begun, or the last one began F ticks ago or
-- more; else the symbol itself is loading, or another.
abbrev pub cause_by : ℕ → ℕ → ℕ → LastLoad → Cause
cause_by time t x none = Nothing
cause_by time t x (last u y) = cond (leb (u + time) t) Nothing (cond (eqb x y) Awaited Another)

-- The cause of a wait for symbol x at tick t of a job with this list.
abbrev pub cause_at : Job → List Event → ℕ → ℕ → Cause
cause_at job events t x = cause_by job.load_time t x (last_begun t events)
