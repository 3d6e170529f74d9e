-- Why a draw waited, said from the load list alone, with no run of the display. (Document 02, Six) A reader who does not trust the account
-- that a run gives can trust it by this file.
use Rattle.std.specs.Prelude.{ℕ, zero, suc, ◌+◌, ◌-◌, ◌<◌, ◌≡◌, refl, Bool, cond, ◌&&◌, List, [], ◌∷◌, length, get_or}
use Rattle.std.specs.Prelude.{take, eqb, leb, Some, None}
use Rattle.rules.specs.declared.Answer.{Answer}
use Rattle.rules.specs.declared.Parts.{Parts}
use Rattle.rules.specs.declared.Account.{Account}
use Rattle.rules.specs.Job.{Call, Job, most_draws, draws_of, job_of}
use Rattle.rules.specs.declared.Event.{Event}
use Rattle.rules.specs.LoadList.{event, events_of}
use Rattle.rules.specs.Why.{no_waits, more_waits}
use Rattle.demands.specs.Held.{last_load, held, from}
use Rattle.demands.specs.Fair.{event_tick, event_slot, event_symbol, nth_event, Right}
use Rattle.demands.specs.Causes.{last_begun, cause_at}

-- The last of the first m events of which a test holds, in the words of `found`, and `none` where it holds of none.
unfoldable pub last_of : {A : Type 0} → (ℕ → Bool) → (ℕ → A) → A → ℕ → A
last_of holds found none zero = none
last_of holds found none (suc j) = cond (holds j) (found j) (last_of holds found none j)

-- Event j is of symbol x and has ended by tick t.
abbrev pub brings : Job → List Event → ℕ → ℕ → ℕ → Bool
brings job events t x j = eqb (event_symbol (nth_event events j)) x && leb (event_tick (nth_event events j) + job.load_time) t

-- Event j begins at tick t or earlier, and by the events before it its slot held symbol x.
abbrev pub takes : Job → List Event → ℕ → ℕ → ℕ → Bool
takes job events t x j =
    leb (event_tick (nth_event events j)) t
    && eqb (held job (take j events) (event_tick (nth_event events j)) (event_slot (nth_event events j))) x

-- The first n ticks from a tick on, each counted by what was loading in it while symbol x was awaited.
unfoldable pub parts_from : Job → List Event → ℕ → ℕ → ℕ → Parts
parts_from job events x first zero = no_waits
parts_from job events x first (suc n) = more_waits 1 (cause_at job events (first + n) x) (parts_from job events x first n)

-- The account of a draw of symbol x that was looked for from a tick on and made at tick t.
abbrev pub account_by : Job → List Event → ℕ → ℕ → ℕ → Account
account_by job events x first t =
    record {
      brought = last_of (brings job events t x) Some None (length events);
      taken = last_of (takes job events t x) Some None (length events);
      waits = parts_from job events x first (t - first);
    }

-- An account is right for a draw of a list: there is a sheet that is right for the list, the draw is one of its draws, and the account is
-- the one that the list alone gives for the ticks of that sheet.
pub record Explains (asked : Call) (list : List ℕ) (draw : ℕ) (account : Account) : Type 0 where
  pub ticks : List ℕ
  pub slots : List ℕ
  pub answer : Answer
  pub right : Right asked list most_draws most_draws ticks slots answer
  pub within : draw < length (draws_of asked)
  pub accounts : account
      ≡ account_by (job_of asked) (events_of list) (get_or (draws_of asked) draw 0) (from ticks draw) (get_or ticks draw 0)

-- Row e of document 01: its third draw, of symbol 3, is looked for from tick 2 on and made at tick 6. Event 0 has brought it, nothing took it
-- out, and all four waits were for its own load. Symbol 2 was taken out by that event.
row_e : account_by (record { slots = 2; load_time = 4; starting = 1 ∷ 2 ∷ []; draws = 1 ∷ 2 ∷ 3 ∷ 1 ∷ [] }) (event 2 1 3 ∷ []) 3 2 6
    ≡ record { brought = Some 0; taken = None; waits = record { own = 4; another = 0; nothing = 0 } }
unfolding last_of parts_from last_load last_begun
row_e = refl

row_e_taken : last_of (takes (record { slots = 2; load_time = 4; starting = 1 ∷ 2 ∷ []; draws = [] }) (event 2 1 3 ∷ []) 6 2) Some None 1
    ≡ Some 0
unfolding last_of last_load
row_e_taken = refl
