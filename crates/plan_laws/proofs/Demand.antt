-- Conservative against any accepted list: it makes no more loads, and its elapsed is at most twice the list's.
use Prim.Native.Nat.{ℕ, zero, suc, ◌+◌, ◌*◌, ◌≤◌}
use native.Mathlib.Omega.{arith}
use native.Mathlib.Nat.{mul-le-mul_left}
use mathlib.Core.Path.{◌≡◌, ap}
use mathlib.Core.List.{List, [], map}
use lib.ListN.{length}
use Rattle.std.specs.Prelude.{Ok}
use Rattle.rules.specs.declared.Loading.{Loading}
use Rattle.rules.specs.declared.Loading.TheVariants.{Idle, Under}
use Rattle.rules.specs.declared.Unrolled.{Unrolled}
use Rattle.rules.specs.Job.{Job, Call, job_of, draws_of, unrolled}
use Rattle.rules.specs.LoadList.{head_size, event_size, events_of}
use Rattle.rules.specs.Display.{State, Rule, going, start, landed_slots, landed_loading, run}
use Rattle.rules.specs.Refusals.{read_call, follow, most_ticks, checked, planned}
use Rattle.laws.proofs.Jobs.{Proper, proper}
use Rattle.laws.proofs.Sane.{SaneMoves, reached_sanely}
use Rattle.laws.proofs.Counts.{elapsed}
use Rattle.laws.proofs.Checks.{Accepted, accepted}
use Rattle.plan_laws.proofs.Against.{Covered, covered_start, covered_lands, covered_begins, covered_draws, covered_over, once_start}
use Rattle.plan_laws.proofs.Clock.{under_of, ended_ticks}
use Rattle.plan_laws.proofs.States.{rest_drawable}
use Rattle.plan_laws.proofs.OptLoads.{misses_of}
use Rattle.plan_laws.proofs.Conservative.{load_of, conservative_done}
use Rattle.plan_laws.proofs.OnDemand.{opt_done}
use Rattle.plan_laws.proofs.Exact.{conservative_no_later}
use Rattle.plan_laws.proofs.Plans.{planned_done}

-- A run of any rule with the loads that have ended: opt's loads are covered by them.
record CoveredRun (job : Job) (next : ℕ) (rest slots : List ℕ) (loading : Loading) (loads : ℕ) : Type 0 where
  ended : ℕ
  all : ended + under_of loading ≡ loads
  covers : Covered job (length (misses_of job)) next rest slots ended

lands_covered : (job : Job) (next : ℕ) (rest slots : List ℕ) (loading : Loading) (loads : ℕ) → CoveredRun job next rest slots loading loads
    → CoveredRun job next rest (landed_slots loading slots) (landed_loading loading) loads
lands_covered job next rest slots Idle loads h = h
lands_covered job next rest slots (Under zero q x) loads h =
    record { ended = h.ended + 1; all = omega (arith, h.all); covers = covered_lands job _ next rest slots h.ended h.covers q x }
lands_covered job next rest slots (Under (suc left) q x) loads h = record { ended = h.ended; all = h.all; covers = h.covers }

module _ (job : Job) (good : Proper job) (rule : Rule) where
  abbrev CoveredState : State → Type 0
  CoveredState s = CoveredRun job s.next s.rest s.slots s.loading s.loads

  covered_moves : SaneMoves job rule CoveredState CoveredState CoveredState
  covered_moves =
      record {
        lands = λ s more g h. lands_covered job s.next s.rest s.slots s.loading s.loads h;
        passes = λ s more a g h. h;
        begins = λ q x s b g h.
            let none : under_of s.loading ≡ 0 = ap under_of b.quiet in
            record {
              ended = h.ended;
              all = omega (arith, h.all);
              covers = covered_begins job _ s.next s.rest s.slots h.ended h.covers q
                  (rest_drawable job s.next s.rest s.slots s.loading good g);
            };
        draws = λ q s d g h.
            record {
              ended = h.ended;
              all = h.all;
              covers = covered_draws job _ s.next s.rest s.slots h.ended
                  (rest_drawable job s.next s.rest s.slots s.loading good g) d.more d.held g.row h.covers;
            };
        waits = λ s w g h. h;
      }

  -- Whatever the rule, a run to the last draw has ended at least as many loads as opt has misses.
  pub ended_least : (t : ℕ) (s : State) → run job rule t (start job) ≡ going s → s.rest ≡ []
      → (ended : ℕ) × (ended + under_of s.loading ≡ s.loads) × (length (misses_of job) ≤ ended)
  ended_least t s e over =
      let starts : CoveredState (start job) =
      record { ended = 0; all = omega arith; covers = covered_start job job.draws job.starting (once_start job.starting good.single) } in
      let h : CoveredState s = reached_sanely job rule CoveredState CoveredState CoveredState good covered_moves starts t s e in
      (h.ended, h.all, covered_over job (length (misses_of job)) s.next s.rest s.slots h.ended over h.covers)

-- Conservative of a job against a run to the last draw of any other rule: the loads that it makes have ended in the other, and it takes at
-- most twice the other's ticks.
pub record Better (plan other : State) : Type 0 where
  pub loads_fewer : plan.loads ≤ other.loads
  pub loads_ended : plan.loads + under_of other.loading ≤ other.loads
  pub elapsed_twice : plan.tick ≤ 2 * other.tick

module _ (job : Job) (good : Proper job) (rule : Rule) (t : ℕ) (s : State) (ran : run job rule t (start job) ≡ going s) (over : s.rest ≡ []) where
  pub conservative_better : Better (conservative_done job good).last s
  conservative_better =
      let c = conservative_done job good in
      let (ended, all, least) = ended_least job good rule t s ran over in
      let same : c.last.loads ≡ length (misses_of job) = c.kept.count in
      let fewer : c.last.loads ≤ ended = omega arith in
      let waits : c.last.waits ≤ job.load_time * c.last.loads = c.brief in
      let whole : c.last.tick ≡ length job.draws + c.last.waits = c.whole in
      let product : job.load_time * c.last.loads ≤ job.load_time * ended = mul-le-mul_left job.load_time fewer in
      let own : job.load_time * ended ≤ s.tick = ended_ticks job rule good t s ran ended all in
      let drawn : s.tick ≡ length job.draws + s.waits = elapsed job rule good t s ran over in
      record { loads_fewer = omega arith; loads_ended = omega arith; elapsed_twice = omega arith }

-- Demand 3, over bytes: of every job, and of every list that a check of it accepts, whatever was lent, conservative is accepted with room
-- enough, makes no more loads than the list has ended, and its elapsed is at most twice the list's.
pub conservative_best : (asked : Call) (list : List ℕ) (ticks slots : ℕ) (s : State) → checked asked list ticks slots ≡ going s
    → (room : ℕ) → head_size + event_size * length (draws_of asked) ≤ room
    → (c : State) × (planned asked 1 room ≡ going c) × Better c s
conservative_best asked list ticks slots s e room enough =
    let a : Accepted asked list ticks slots s = accepted asked list ticks slots s e in
    let good : Proper (job_of asked) = proper asked (unrolled asked) a.job_taken in
    let d = conservative_done (job_of asked) good in (
      d.last,
      planned_done asked (unrolled asked) 1 room a.job_taken (omega arith) enough d,
      conservative_better (job_of asked) good (follow (events_of list)) (most_ticks (job_of asked)) s a.ran a.over,
    )

-- Of every job that is taken, with room enough, conservative is never later than opt, and makes opt's loads in opt's order.
pub conservative_like_opt : (asked : Call) (shape : Unrolled) (room : ℕ) → read_call asked ≡ Ok shape
    → head_size + event_size * length (draws_of asked) ≤ room
    → (c o : State) × (planned asked 1 room ≡ going c) × (planned asked 2 room ≡ going o)
    × (c.tick ≤ o.tick) × (map load_of c.begun ≡ map load_of o.begun)
conservative_like_opt asked shape room taken enough =
    let good : Proper (job_of asked) = proper asked shape taken in
    let c = conservative_done (job_of asked) good in
    let o = opt_done (job_of asked) good in (
      c.last,
      o.last,
      planned_done asked shape 1 room taken (omega arith) enough c,
      planned_done asked shape 2 room taken (omega arith) enough o,
      (conservative_no_later (job_of asked) good).0,
      rw o.ran at c.kept.same,
    )
