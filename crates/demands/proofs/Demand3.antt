-- Demand 3, over bytes: conservative against any list that a check accepts.
-- A list may idle, load what is never drawn, empty strange slots, and have a load under way at the end: nothing is asked of it.
use Prim.Native.Nat.{ℕ, ◌+◌, ◌*◌, ◌≤◌}
use mathlib.Core.Path.{◌≡◌, refl}
use mathlib.Core.List.{List}
use lib.ListN.{length}
use Rattle.rules.specs.declared.Answer.{Answer}
use Rattle.rules.specs.Job.{Call, draws_of}
use Rattle.rules.specs.LoadList.{head_size, event_size}
use Rattle.rules.specs.Refusals.{checked, planned, answer_of}
use Rattle.plan_laws.proofs.Demand.{conservative_best}
use Rattle.demands.proofs.Refusing.{check_goes}

-- A plan's answer beside a list's: the plan is accepted, makes no more loads, and takes at most twice the ticks.
pub record NoWorse (plan list : Answer) : Type 0 where
  pub accepted : plan.number ≡ 0
  pub loads : plan.loads ≤ list.loads
  pub elapsed : plan.elapsed ≤ 2 * list.elapsed

-- Of every job and every list that a check accepts, conservative with room lent is accepted, makes no more loads than the list, and
-- takes at most twice the list's ticks.
pub conservative_no_worse : (asked : Call) (list : List ℕ) (ticks slots room : ℕ)
    → (answer_of (checked asked list ticks slots)).number ≡ 0
    → head_size + event_size * length (draws_of asked) ≤ room
    → NoWorse (answer_of (planned asked 1 room)) (answer_of (checked asked list ticks slots))
conservative_no_worse asked list ticks slots room list_accepted enough =
    let (s, followed) = check_goes asked list ticks slots list_accepted in
    let (c, ran, better) = conservative_best asked list ticks slots s followed room enough in
    rw (ran, followed) (record { accepted = refl; loads = better.loads_fewer; elapsed = better.elapsed_twice })
