-- What a plan gets that is ready in every state: its run is never refused, it ends soon after its last load, and its list checks.
use Prim.Native.Nat.{ℕ, zero, suc, ◌+◌, ◌*◌, ◌<◌, ◌≤◌}
use native.Mathlib.Omega.{arith}
use native.Mathlib.Nat.{mul-le-mul}
use mathlib.Core.Path.{◌≡◌, refl, ◌∙◌}
use mathlib.Core.List.{[], map}
use lib.ListN.{length}
use Rattle.std.specs.Prelude.{Option}
use Rattle.rules.specs.declared.Load.{Load}
use Rattle.rules.specs.Job.{Job, most_load_time, most_draws}
use Rattle.rules.specs.LoadList.{last_tick}
use Rattle.rules.specs.Display.{State, Rule, going, start, land, tick, finished, run}
use Rattle.rules.specs.Plans.{asking, run_plan}
use Rattle.rules.specs.Refusals.{follows, event_of}
use Rattle.laws.proofs.Cases.{by_test}
use Rattle.laws.proofs.Moves.{is_more, is_over}
use Rattle.laws.proofs.Runs.{run_then, run_finished, run_unfinished, run_ticks}
use Rattle.laws.proofs.Jobs.{Proper}
use Rattle.laws.proofs.Along.{Ruly}
use Rattle.laws.proofs.Counts.{counted, elapsed}
use Rattle.laws.proofs.Sane.{SaneState, SaneMoves, sane, sane_moves, reached_sanely}
use Rattle.plan_laws.proofs.Going.{Ready, goes_on}
use Rattle.plan_laws.proofs.Clock.{waits_few}
use Rattle.plan_laws.proofs.Replay.{in_order, replay}

-- A plan that is done: every draw is made, with at most a load to each draw and at most F waits to each load. So elapsed is at most n + F · n,
-- far below the last tick that a list can name. The list of its loads, checked, comes to the same state.
pub record Done (job : Job) (rule : Rule) (P : State → Type 0) : Type 0 where
  pub last : State
  pub ran : run_plan job rule ≡ going last
  pub over : last.rest ≡ []
  pub few : last.loads ≤ length job.draws
  pub brief : last.waits ≤ job.load_time * last.loads
  pub whole : last.tick ≡ length job.draws + last.waits
  pub listed : length last.begun ≡ last.loads
  pub in_order : Ruly 0 (map event_of last.begun)
  pub replays : follows job (map event_of last.begun) ≡ going last
  pub kept : P last

-- The same with another fact of its last state.
pub done_with : {P : State → Type 0} (job : Job) (rule : Rule) (Q : State → Type 0) (d : Done job rule Q) → P d.last → Done job rule P
done_with job rule Q d also =
    record {
      last = d.last;
      ran = d.ran;
      over = d.over;
      few = d.few;
      brief = d.brief;
      whole = d.whole;
      listed = d.listed;
      in_order = d.in_order;
      replays = d.replays;
      kept = also;
    }

-- A plan's run, for what its moves keep beside sanity and what makes it ready.
module _ (job : Job) (proper : Proper job) (asks : State → Option Load) (P : State → Type 0)
    (keeps : SaneMoves job (asking asks) P P P) (starts : P (start job))
    (ready : (s : State) → 0 < length s.rest → SaneState job s → P s → Ready job asks s) where
  holds : (t : ℕ) (s : State) → run job (asking asks) t (start job) ≡ going s → P s
  holds t s e = reached_sanely job (asking asks) P P P proper keeps starts t s e

  next_tick : (t : ℕ) (s : State) → run job (asking asks) t (start job) ≡ going s → 0 < length s.rest
      → (s' : State) × (tick job (asking asks) s ≡ going s')
  next_tick t s e more =
      let here : SaneState job s = sane job (asking asks) proper t s e in
      let landed : SaneState job (land s) = (sane_moves job (asking asks) proper.some_load_time).lands s more here in
      goes_on job asks s (ready (land s) more landed (keeps.lands s more here (holds t s e)))

  one_more : (s : State) → (0 < length s.rest → (s' : State) × (tick job (asking asks) s ≡ going s'))
      → (s' : State) × (run job (asking asks) 1 s ≡ going s')
  unfolding run
  one_more s h =
      by_test (finished s.rest)
      (λ f. (s, run_finished job (asking asks) 1 s f))
      (λ f. let (s', e) = h (is_more s.rest f) in (s', run_unfinished job (asking asks) 0 s f ∙ rw e))

  -- It is never refused.
  pub never_refused : (t : ℕ) → (s : State) × (run job (asking asks) t (start job) ≡ going s)
  never_refused zero = (start job, unfold run in refl)
  never_refused (suc t) =
      let (s, e) = never_refused t in
      let (s', f) = one_more s (next_tick t s e) in
      let later : t + 1 ≡ suc t = omega arith in
      (s', rw (← later, run_then job (asking asks) t 1 (start job), e) f)

  -- It is done in time where it makes no more loads than there are draws.
  pub done : ((s : State) → SaneState job s → P s → s.loads ≤ length job.draws) → Done job (asking asks) P
  done few =
      let (s, e) = never_refused last_tick in
      let here : SaneState job s = sane job (asking asks) proper last_tick s e in
      let loads : s.loads ≤ length job.draws = few s here (holds last_tick s e) in
      let brief : s.waits ≤ job.load_time * s.loads = waits_few job asks proper.some_load_time last_tick s e in
      let counts = counted job (asking asks) proper last_tick s e in
      let drawn : s.next ≤ length job.draws = here.within in
      let limit : length job.draws ≤ most_draws = proper.few_draws in
      let product : job.load_time * s.loads ≤ most_load_time * most_draws =
      mul-le-mul {n₂ = most_load_time} {m₂ = most_draws} proper.short_load_time (omega arith) in
      let soon : s.tick < last_tick = omega (arith, counts.ticks) in
      let over : s.rest ≡ [] =
      by_test (finished s.rest) (is_over s.rest)
      (λ f.
      let full : s.tick ≡ 0 + last_tick = run_ticks job (asking asks) last_tick (start job) s e (is_more s.rest f) in
      absurd (omega arith)) in
      record {
        last = s;
        ran = e;
        over = over;
        few = loads;
        brief = brief;
        whole = elapsed job (asking asks) proper last_tick s e over;
        listed = counts.begun_all;
        in_order = in_order job (asking asks) last_tick s e over (omega arith);
        replays = replay job (asking asks) last_tick s e over (omega arith);
        kept = holds last_tick s e;
      }
