-- The loads that have ended, counted from the list alone, are all loads begun but the one that is under way.
use Prim.Native.Nat.{ℕ, suc, ◌+◌, ◌<◌, ◌≤◌}
use native.Mathlib.Omega.{arith}
use mathlib.Core.Path.{◌≡◌, refl}
use mathlib.Core.List.{List, [], ◌∷◌, ◌++◌, map, append-nil}
use lib.ListN.{length, get_or, length-map}
use borrow.Author.Tests.{lt-ltb}
use Rattle.rules.specs.declared.Loading.{Loading}
use Rattle.rules.specs.declared.Loading.TheVariants.{Idle, Under}
use Rattle.rules.specs.Job.{Job}
use Rattle.rules.specs.Display.{State, Rule, Loaded, loaded, going, start, run}
use Rattle.rules.specs.Refusals.{event_of}
use Rattle.laws.proofs.Rows.{Each}
use Rattle.laws.proofs.Moves.{Upon, upon, reached}
use Rattle.laws.proofs.Jobs.{Proper}
use Rattle.laws.proofs.Counts.{counted, load_tick, Last, Busy, BusyBetween, BusyLanded, BusyBegun, busy_moves, busy_start}
use Rattle.plan_laws.proofs.Clock.{under_of}
use Rattle.plan_laws.proofs.Plans.{Any}
use Rattle.demands.specs.Held.{ended_by}
use Rattle.demands.proofs.Exactly.{last_tick_begun}

-- Loads that all end before a tick are counted, whatever comes after them.
all_ended : (time end : ℕ) (begun more : List Loaded) → Each (λ u. u + time < end) (map load_tick begun)
    → length begun ≤ ended_by time end (map event_of (begun ++ more))
unfolding ended_by
all_ended time end [] more each = omega arith
all_ended time end (loaded t d q x ∷ begun) more each =
    let now : t + time < end = each 0 (omega arith) in
    let later : length begun ≤ ended_by time end (map event_of (begun ++ more)) =
    all_ended time end begun more (λ i h. each (suc i) (omega arith)) in
    rw (lt-ltb (t + time) end now) (omega arith)

-- Once a load that is to begin in a tick has begun, all others have ended in this tick or before it.
ended_now : (time tick : ℕ) (loading : Loading) (begun : List Loaded) → Busy time (tick + 1) tick loading begun
    → length begun ≤ ended_by time (tick + 1) (map event_of begun) + under_of loading
ended_now time tick Idle begun h =
    let all : length begun ≤ ended_by time (tick + 1) (map event_of (begun ++ [])) =
    all_ended time (tick + 1) begun [] (λ i m. let b : get_or (map load_tick begun) i 0 + time ≤ tick + 0 = h.ends i m in omega arith) in
    omega (arith, rw append-nil at all)
ended_now time tick (Under left q x) begun h =
    let l : Last time (tick + left + 1) q x begun = h.last left q x refl in
    let (at, size) = last_tick_begun _ _ _ _ _ l in
    let inside : length l.earlier < length (map load_tick begun) = rw length-map (omega arith) in
    let now : get_or (map load_tick begun) (length l.earlier) 0 < tick + 1 = h.past (length l.earlier) inside in
    let all : length l.earlier ≤ ended_by time (tick + 1) (map event_of (l.earlier ++ (loaded l.tick l.draw q x ∷ []))) =
    all_ended time (tick + 1) l.earlier _
    (λ i m. let b : get_or (map load_tick l.earlier) i 0 + time ≤ l.tick = l.ended i m in omega arith) in
    omega (arith, rw (← l.is_last) at all)

-- The same between ticks.
abbrev EndedState : Job → State → Type 0
EndedState job s = length s.begun ≤ ended_by job.load_time s.tick (map event_of s.begun) + under_of s.loading

-- Every tick of a run brings it about.
ended_moves : (job : Job) (rule : Rule)
    → Upon job rule (BusyBetween job) (BusyLanded job) (BusyBegun job) (EndedState job) Any Any
ended_moves job rule =
    record {
      lands = λ s more g h. tt;
      passes = λ s more a g h. tt;
      begins = λ q x s b g h. tt;
      draws = λ q s d g h. ended_now job.load_time s.tick s.loading s.begun g;
      waits = λ s w g h. ended_now job.load_time s.tick s.loading s.begun g;
    }

-- Every load that a run has begun has ended, but for the one under way.
pub ended_but_one : (job : Job) (rule : Rule) → Proper job → (t : ℕ) (s : State) → run job rule t (start job) ≡ going s
    → s.loads ≤ ended_by job.load_time s.tick (map event_of s.begun) + under_of s.loading
ended_but_one job rule good t s ran =
    let all : length s.begun ≡ s.loads = (counted job rule good t s ran).begun_all in
    let moves = upon job rule _ _ _ _ _ _ (busy_moves job rule good.some_load_time) (ended_moves job rule) in
    let ended : EndedState job s = (reached job rule _ _ _ moves t (start job) s (busy_start job, omega arith) ran).1 in
    omega arith
