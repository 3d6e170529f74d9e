-- What the parts of the account of a draw ask for and ensure.
use Rattle.std.specs.Prelude.{ℕ, ◌+◌, ◌≤◌, ◌<◌, ◌≡◌, cond, List, length, get_or, drop, eqb, Option, Some, None, Result, Ok, Err}
use Rattle.rules.specs.declared.refusal.Refusal.{Refusal}
use Rattle.rules.specs.declared.Load.{Load}
use Rattle.rules.specs.declared.TickRecord.{TickRecord}
use Rattle.rules.specs.declared.Parts.{Parts}
use Rattle.rules.specs.declared.Account.{Account}
use Rattle.rules.specs.declared.Reason.{Reason}
use Rattle.rules.specs.Refusing.{refusal_number, refusal_detail}
use Rattle.rules.specs.Job.{Job, Call, free, draws_of, job_of}
use Rattle.rules.specs.LoadList.{events_in, head_size}
use Rattle.rules.specs.declared.Event.{Event}
use Rattle.rules.specs.Display.{State, going, refused, start}
use Rattle.rules.specs.Refusals.{follow, follows, most_ticks}
use Rattle.rules.specs.Why.{untold, brought_in, waits_in, told}
use Rattle.display.specs.View.{loading_of}
use Rattle.display.specs.declared.state.Display.{Display}

-- What a load that is asked for takes out of these slots.
abbrev pub going_out : Option Load → List ℕ → ℕ
going_out None slots = free
going_out (Some load) slots = get_or slots load.slot 0

-- The event that began took the symbol out where that is what went out.
abbrev pub taken_of : ℕ → Option Load → ℕ → ℕ → Option ℕ → Option ℕ
taken_of x None out loads earlier = earlier
taken_of x (Some load) out loads earlier = cond (eqb out x) (Some loads) earlier

-- What a turn of n ticks from a display on adds to the account of draw i: all of them are waits of one cause, or it is a tick that draws.
abbrev pub turn_told : ℕ → ℕ → Display → ℕ → TickRecord → ℕ → Account → Account
turn_told i x d out on n a =
    record {
      brought = brought_in x (loading_of d.remaining d.target d.incoming) d.loads a.brought;
      taken = taken_of x on.begun out d.loads a.taken;
      waits = cond (eqb d.next i) (waits_in n on.happening a.waits) a.waits;
    }

-- Each of the three parts has room for this many ticks more.
pub record Countable (ticks : ℕ) (waits : Parts) : Type 0 where
  pub own : waits.own + ticks ≤ 4294967295
  pub another : waits.another + ticks ≤ 4294967295
  pub nothing : waits.nothing + ticks ≤ 4294967295

-- No part is more than the ticks that have passed.
pub record Passed (tick : ℕ) (waits : Parts) : Type 0 where
  pub own : waits.own ≤ tick
  pub another : waits.another ≤ tick
  pub nothing : waits.nothing ≤ tick

-- A turn may be told: it ends no earlier than it begins, at a tick that 32 bits hold.
pub record MayTell (tick later : ℕ) (account : Account) : Type 0 where
  pub onward : tick ≤ later
  pub top : later ≤ 4294967295
  pub passed : Passed tick account.waits

-- A run that is accepted and has draw i, of symbol x, with the account of the rules of it.
pub record ToldSo (job : Job) (events : List Event) (i x : ℕ) (account : Account) : Type 0 where
  pub goes : (s : State) × (follows job events ≡ going s)
  pub accounts : i < length job.draws → account ≡ told job (follow events) i x (most_ticks job) (start job) untold

-- What the run that tells of a draw comes to: the account, or the refusal of the run.
abbrev pub RanSo : Job → List Event → ℕ → ℕ → Result Account Refusal → Type 0
RanSo job events i x (Ok account) = ToldSo job events i x account
RanSo job events i x (Err e) = follows job events ≡ refused (refusal_number e) (refusal_detail e)

-- The same of a call and a list of this many events, with the symbol that the draw has.
abbrev pub AccountedFor : Call → ℕ → List ℕ → ℕ → Result Account Refusal → Type 0
AccountedFor asked count list draw r =
    RanSo (job_of asked) (events_in count (drop head_size list)) draw (get_or (draws_of asked) draw 0) r

-- What a host is told: the account, or the number and detail of a refusal, which tells nothing of the draw.
abbrev pub reason_in : Result Account Refusal → Reason
reason_in (Ok account) = record { number = 0; detail = 0; account = account }
reason_in (Err e) = record { number = refusal_number e; detail = refusal_detail e; account = untold }
