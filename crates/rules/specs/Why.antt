-- Why a draw waited: what a run along a list tells of it, tick by tick. (Document 02, Six)
use Rattle.std.specs.Prelude.{ℕ, zero, suc, ◌+◌, ◌-◌, cond, List, length, get_or, eqb, ltb, Option, Some, None}
use Rattle.rules.specs.declared.Load.{Load}
use Rattle.rules.specs.declared.Loading.{Loading}
use Rattle.rules.specs.declared.Loading.TheVariants.{Idle, Under}
use Rattle.rules.specs.declared.Cause.{Cause}
use Rattle.rules.specs.declared.Cause.TheVariants.{Awaited, Another, Nothing}
use Rattle.rules.specs.declared.Happening.{Happening}
use Rattle.rules.specs.declared.Happening.TheVariants.{Draw, Wait}
use Rattle.rules.specs.declared.TickRecord.{TickRecord}
use Rattle.rules.specs.declared.Parts.{Parts}
use Rattle.rules.specs.declared.Account.{Account}
use Rattle.rules.specs.declared.Reason.{Reason}
use Rattle.rules.specs.declared.PlainReason.{PlainReason}
use Rattle.rules.specs.Job.{Job, Call, most_draws, draws_of, job_of}
use Rattle.rules.specs.LoadList.{events_of}
use Rattle.rules.specs.Display.{State, Run, Rule, going, refused, then, start, land, record_at, tick}
use Rattle.rules.specs.Refusals.{follow, most_ticks, checked}

-- Before the first tick: a symbol is where it was at the start, nothing has taken it out, and there was no wait.
abbrev pub no_waits : Parts
no_waits = record { own = 0; another = 0; nothing = 0 }

abbrev pub untold : Account
untold = record { brought = None; taken = None; waits = no_waits }

-- Step 1 of a tick. A load of the symbol that ends in it has brought the symbol. The load under way is the last event begun.
abbrev pub brought_in : ℕ → Loading → ℕ → Option ℕ → Option ℕ
brought_in x Idle loads before = before
brought_in x (Under zero q y) loads before = cond (eqb y x) (Some (loads - 1)) before
brought_in x (Under (suc left) q y) loads before = before

-- Step 2. The event that begins in it takes out what its slot holds.
abbrev pub taken_in : ℕ → Option Load → List ℕ → ℕ → Option ℕ → Option ℕ
taken_in x None slots loads before = before
taken_in x (Some l) slots loads before = cond (eqb (get_or slots l.slot 0) x) (Some loads) before

-- Step 3. Waits of one cause make one of the three parts longer, by the cause that the tick has on record.
abbrev pub more_waits : ℕ → Cause → Parts → Parts
more_waits n Awaited p = record { own = p.own + n; another = p.another; nothing = p.nothing }
more_waits n Another p = record { own = p.own; another = p.another + n; nothing = p.nothing }
more_waits n Nothing p = record { own = p.own; another = p.another; nothing = p.nothing + n }

abbrev pub waits_in : ℕ → Happening → Parts → Parts
waits_in n (Draw q) before = before
waits_in n (Wait cause) before = more_waits n cause before

-- What the tick that comes adds to the account of draw i, which is of symbol x. Only while draw i is the next one do its waits count.
abbrev pub tick_told : ℕ → ℕ → TickRecord → State → Account → Account
tick_told i x on s before =
    record {
      brought = brought_in x s.loading s.loads before.brought;
      taken = taken_in x on.begun (land s).slots s.loads before.taken;
      waits = cond (eqb s.next i) (waits_in 1 on.happening before.waits) before.waits;
    }

-- The account of draw i from t ticks of a run, as far as the tick in which it is drawn.
abbrev pub told_on : Account → (State → Account) → Run → Account
told_on before later (going s) = later s
told_on before later (refused number detail) = before

unfoldable pub told : Job → Rule → ℕ → ℕ → ℕ → State → Account → Account
told job rule i x zero s before = before
told job rule i x (suc t) s before =
    let now : Account = tick_told i x (record_at job rule s) s before in
    cond (ltb i s.next) before (told_on before (λ later. told job rule i x t later now) (tick job rule s))

-- The account of a draw by a list.
abbrev pub account_of : Call → List ℕ → ℕ → Account
account_of asked list draw =
    let job : Job = job_of asked in
    told job (follow (events_of list)) draw (get_or (draws_of asked) draw 0) (most_ticks job) (start job) untold

-- 18. The draw number is not below the number of draws, in all rounds.
abbrev pub asks_draw : Call → ℕ → State → Run
asks_draw asked draw s = cond (ltb draw (length (draws_of asked))) (going s) (refused 18 0)

-- First come all refusals of a check. No room is lent, so it is the check that has room for the most draws, and 7 is not given.
abbrev pub explained : Call → List ℕ → ℕ → Run
explained asked list draw = then (checked asked list most_draws most_draws) (asks_draw asked draw)

-- What is answered: number 0, detail 0 and the account; or a refusal's number and detail, and the account that tells nothing.
abbrev pub reason_of : Account → Run → Reason
reason_of account (going s) = record { number = 0; detail = 0; account = account }
reason_of account (refused number detail) = record { number = number; detail = detail; account = untold }

abbrev pub why : Call → List ℕ → ℕ → Reason
why asked list draw = reason_of (account_of asked list draw) (explained asked list draw)

-- For a host in C an event is its number, and where there is none it is the greatest number in 32 bits. Of a refusal the five numbers after
-- the detail are 0.
abbrev pub no_event : ℕ
no_event = 4294967295

abbrev pub event_or_none : Option ℕ → ℕ
event_or_none (Some e) = e
event_or_none None = no_event

abbrev pub plain_account : Account → PlainReason
plain_account a =
    record {
      number = 0;
      detail = 0;
      brought = event_or_none a.brought;
      taken = event_or_none a.taken;
      own = a.waits.own;
      another = a.waits.another;
      nothing = a.waits.nothing;
    }

abbrev pub plain_refusal : ℕ → ℕ → PlainReason
plain_refusal number detail =
    record { number = number; detail = detail; brought = 0; taken = 0; own = 0; another = 0; nothing = 0 }

abbrev pub plain_reason : Reason → PlainReason
plain_reason r = cond (eqb r.number 0) (plain_account r.account) (plain_refusal r.number r.detail)
