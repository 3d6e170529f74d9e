-- The four plans, each as a rule for what begins in a tick. (Document 01, "The four plans"; which symbol opt gives up of those never drawn
-- again: document 02, Four)
use Rattle.std.specs.Prelude.{ℕ, zero, suc, ◌+◌, max, true, cond, not, ◌&&◌, List, [], ◌∷◌, ◌++◌, reverse, length, get_or, take}
use Rattle.std.specs.Prelude.{drop, eqb, ltb, leb}
use Rattle.std.specs.Prelude.{Option, Some, None}
use Rattle.rules.specs.declared.Load.{Load}
use Rattle.rules.specs.declared.Plan.{Plan}
use Rattle.rules.specs.declared.Plan.TheVariants.{Aggressive, Conservative, Opt, Lru}
use Rattle.rules.specs.Basics.{place, stands}
use Rattle.rules.specs.Job.{Job, free}
use Rattle.rules.specs.LoadList.{last_tick}
use Rattle.rules.specs.Display.{load, State, Run, Rule, Loaded, loaded, going, refused, start, loadable, idle, awaited, run}

-- How far along a row of draws a symbol comes up. One that never does is further than all, and a free slot further still,
-- so that it is taken before any held symbol.
abbrev pub rank : List ℕ → ℕ → ℕ
rank row x = cond (eqb x free) (length row + 1) (place x row)

unfoldable pub greatest : List ℕ → ℕ
greatest [] = 0
greatest (r ∷ l) = max r (greatest l)

-- The ranks of the slots from slot q on: 0 for a slot that a load may not go into, and above 0 for every other.
unfoldable pub ranks_from : Job → List ℕ → ℕ → List ℕ → List ℕ
ranks_from job row q [] = []
ranks_from job row q (x ∷ slots) = cond (loadable job q) (suc (rank row x)) 0 ∷ ranks_from job row (suc q) slots

-- The slot that a plan chooses: of those that a load may go into, the one whose content comes up furthest along a row; the lowest such
-- slot where several are never met again, or are free.
abbrev pub furthest : Job → List ℕ → List ℕ → ℕ
furthest job row slots = place (greatest (ranks_from job row 0 slots)) (ranks_from job row 0 slots)

-- The row to look along. Next draws are looked for from the next draw on, so the draw of this very tick still counts.
abbrev pub ahead : State → List ℕ
ahead s = s.rest

-- For lru it is the draws made, the latest first: what was drawn longest ago, or not at all since the start, is furthest.
abbrev pub behind : Job → State → List ℕ
behind job s = reverse (take s.next job.draws)

-- For opt it is the draws to come and, beyond them, those made, the latest first. What is drawn again is met among the draws to come; what is
-- not is met beyond them, at its last draw, or not at all where it is not yet drawn. So of several symbols that are never drawn again the
-- furthest is one not yet drawn, else the one whose last draw is earliest. (Document 02, Four)
abbrev pub both_ways : Job → State → List ℕ
both_ways job s = ahead s ++ behind job s

-- The first remaining draw whose symbol is in no slot, as a place from the next draw on, or the number of draws that remain.
unfoldable pub missing : List ℕ → List ℕ → ℕ
missing slots [] = 0
missing slots (x ∷ rest) = cond (stands x slots) (suc (missing slots rest)) 0

-- A plan never looks at the clock: where it lets a draw wait with no load under way, it would let it wait for ever.
abbrev pub asking : (State → Option Load) → Rule
asking asks = record { asks = asks; done = λ s. true }

-- Plan 0, aggressive: with no load under way, load for the first missing draw, at place p, into the furthest slot, unless
-- what would go out is drawn before p.
abbrev pub aggressive_at : ℕ → ℕ → State → Option Load
aggressive_at p q s =
    cond (idle s.loading && ltb p (length s.rest) && leb p (rank (ahead s) (get_or s.slots q 0)))
    (Some (load q (get_or s.rest p 0)))
    None

abbrev pub aggressive : Job → Rule
aggressive job = asking (λ s. aggressive_at (missing s.slots s.rest) (furthest job (ahead s) s.slots) s)

-- Plans 2 and 3 load in a tick whose draw would wait with no load under way, and only then. They differ in the slot they take.
abbrev pub on_demand : (State → ℕ) → Rule
on_demand slot =
    asking (λ s. cond (idle s.loading && not (stands (awaited s) s.slots)) (Some (load (slot s) (awaited s))) None)

-- The slot that opt takes, and so conservative too.
abbrev pub opt_slot : Job → State → ℕ
opt_slot job s = furthest job (both_ways job s) s.slots

abbrev pub opt : Job → Rule
opt job = on_demand (opt_slot job)

abbrev pub lru : Job → Rule
lru job = on_demand (λ s. furthest job (behind job s) s.slots)

-- A plan is run to the last draw, or to the last tick that a list can name.
abbrev pub run_plan : Job → Rule → Run
run_plan job rule = run job rule last_tick (start job)

-- The loads that a run has begun.
abbrev pub begun_in : Run → List Loaded
begun_in (going s) = s.begun
begun_in (refused number detail) = []

-- Plan 1, conservative: the loads of opt in their order, slots and all. Each begins with no load under way, as soon as the symbol
-- that goes out is not drawn again before the miss for which opt made that load. A free slot's content is never drawn.
abbrev pub earliest_at : ℕ → ℕ → ℕ → State → Option Load
earliest_at miss q x s =
    cond (idle s.loading && leb miss (s.next + place (get_or s.slots q 0) (ahead s))) (Some (load q x)) None

abbrev pub earliest : List Loaded → State → Option Load
earliest [] s = None
earliest (loaded t miss q x ∷ later) s = earliest_at miss q x s

abbrev pub conservative : List Loaded → Rule
conservative loads = asking (λ s. earliest (drop s.loads loads) s)

-- The plans by their numbers.
abbrev pub plan_number : Plan → ℕ
plan_number Aggressive = 0
plan_number Conservative = 1
plan_number Opt = 2
plan_number Lru = 3

abbrev pub last_plan : ℕ
last_plan = 3

abbrev pub rule_of : Job → ℕ → Rule
rule_of job zero = aggressive job
rule_of job (suc zero) = conservative (begun_in (run_plan job (opt job)))
rule_of job (suc (suc zero)) = opt job
rule_of job (suc (suc (suc n))) = lru job
