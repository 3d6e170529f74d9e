-- The plans have a second witness: what each plan asks for at a tick, the run that it makes, and the list that it writes are what the words say, and
-- nothing else is. To be held beside specs/InWords.antt, which says the words of "The four plans" of document 01.
use Prim.Native.Nat.{ℕ, zero, suc, ◌<◌, ◌≤◌}
use native.Mathlib.Omega.{arith}
use mathlib.Core.Path.{◌≡◌, refl, sym, ap, ◌∙◌}
use mathlib.Core.Bool.{true, false}
use mathlib.Core.List.{List, [], ◌∷◌, map}
use mathlib.Core.Logic.{◌↔◌}
use lib.ListN.{length, length-map}
use lib.Seq.{take_all}
use Rattle.std.specs.Prelude.{Option, Ok}
use Rattle.rules.specs.declared.Load.{Load}
use Rattle.rules.specs.Job.{Job, Call, unrolled, job_of}
use Rattle.rules.specs.declared.Event.{Event}
use Rattle.rules.specs.LoadList.{most_events, last_tick, events_of, list_bytes}
use Rattle.rules.specs.Display.{State, Rule, going, start, land, asked, finished, run}
use Rattle.rules.specs.Plans.{rule_of}
use Rattle.rules.specs.Refusals.{read_call, bad_list, follow, most_ticks, checked, planned, answer_of, event_of, written_by}
use Rattle.laws.proofs.Jobs.{Proper, proper}
use Rattle.laws.proofs.Along.{along}
use Rattle.laws.proofs.Checks.{Accepted, accepted}
use Rattle.laws.proofs.RoundTrip.{read_back}
use Rattle.laws.proofs.Sane.{SaneState, sane, sane_start}
use Rattle.plan_laws.proofs.Keeping.{Done}
use Rattle.plan_laws.proofs.Plans.{Any, plan_done, planned_done}
use Rattle.demands.specs.InWords.{Begins, ByWords, KeepsTo, PlanWords}
use Rattle.demands.proofs.Demand1.{plan_accepts}
use Rattle.demands.proofs.Refusing.{check_goes}
use Rattle.demands.proofs.TickWords.{Agrees, begins_asked, begins_only, opt_agrees, lru_agrees, aggressive_agrees}
use Rattle.demands.proofs.RunWords.{landed_agrees, agrees_keeps, keeps_by_words, by_words_one}
use Rattle.demands.proofs.TurnWords.{conservative_agrees}
use Rattle.demands.proofs.ListWords.{same_asked, same_states}
use Rattle.demands.proofs.WrittenAgain.{Bytes, written_again}

-- In every sane state a load fits the words of a plan exactly when the plan asks for it.
plan_agrees : (job : Job) → Proper job → (plan : ℕ) (s : State) → SaneState job s → 0 < length s.rest
    → Agrees (PlanWords job plan s) ((rule_of job plan).asks s)
plan_agrees job proper zero = aggressive_agrees job proper
plan_agrees job proper (suc zero) = conservative_agrees job proper
plan_agrees job proper (suc (suc zero)) = opt_agrees job proper
plan_agrees job proper (suc (suc (suc p))) = lru_agrees job proper

-- At every tick of a plan's run, what begins by the words is what the plan asks for, and nothing else.
pub plan_tick_in_words : (what : Call) (plan : ℕ) → read_call what ≡ Ok (unrolled what)
    → (t : ℕ) (s : State) → run (job_of what) (rule_of (job_of what) plan) t (start (job_of what)) ≡ going s → 0 < length s.rest
    → (b : Option Load) → Begins (PlanWords (job_of what) plan (land s)) b ↔ (b ≡ asked (rule_of (job_of what) plan) s)
plan_tick_in_words what plan taken t s ran more b =
    let job : Job = job_of what in
    let rule : Rule = rule_of job plan in
    let good : Proper job = proper what _ taken in
    let Words : ℕ → ℕ → Type 0 = PlanWords job plan (land s) in
    let a : Agrees Words (asked rule s) =
    landed_agrees job good rule (PlanWords job plan) (plan_agrees job good plan) s (sane job rule good t s ran) more in
    (begins_only Words (asked rule s) b a, λ e. rw e (begins_asked Words (asked rule s) a))

-- A run with draws left is not finished.
unfinished : (rest : List ℕ) → 0 < length rest → finished rest ≡ false
unfinished [] h = absurd (omega arith)
unfinished (x ∷ rest) h = refl

module _ (job : Job) (good : Proper job) (plan : ℕ) where
  abbrev rule : Rule
  rule = rule_of job plan

  abbrev Words : State → ℕ → ℕ → Type 0
  Words = PlanWords job plan

  abbrev done : Done job rule Any
  done = plan_done job good plan

  -- A plan keeps to its words, so its run is by them, and no other run is.
  keeps_to_words : KeepsTo job Words rule
  keeps_to_words = agrees_keeps job good rule Words (plan_agrees job good plan)

  by_the_words : ByWords job Words (start job) done.last
  unfolding run
  by_the_words = keeps_by_words job rule Words keeps_to_words 0 last_tick (start job) done.last refl done.ran done.over

  only_by_words : (last : State) → ByWords job Words (start job) last → last ≡ done.last
  only_by_words last w =
      by_words_one job good rule Words (plan_agrees job good plan) (start job) last done.last (sane_start job good) w by_the_words

  -- The list of the plan's loads keeps to the words too.
  list_keeps : (events : List Event) → events ≡ map event_of done.last.begun → KeepsTo job Words (follow events)
  list_keeps events e t s ran more =
      let over : finished done.last.rest ≡ true = ap finished done.over in
      let also : run job rule t (start job) ≡ going s = same_states job good rule last_tick done.last done.ran over t s (rw e at ran) in
      let same : asked (follow events) s ≡ asked rule s =
      rw e (same_asked job good rule last_tick done.last done.ran over t s also (unfinished s.rest more)) in
      rw same (keeps_to_words t s also more)

  -- A list that keeps to them, followed to the last draw, comes to the plan's last state.
  keeps_only : (events : List Event) (t : ℕ) (s : State) → run job (follow events) t (start job) ≡ going s → s.rest ≡ []
      → KeepsTo job Words (follow events) → s ≡ done.last
  unfolding run
  keeps_only events t s ran over keeps = only_by_words s (keeps_by_words job (follow events) Words keeps 0 t (start job) s refl ran over)

-- An accepted plan comes to its last state, and what it writes reads back as the events of its loads.
record Planned (what : Call) (plan room : ℕ) : Type 0 where
  good : Proper (job_of what)
  is : planned what plan room ≡ going (plan_done (job_of what) good plan).last
  events : events_of (written_by (planned what plan room)) ≡ map event_of (plan_done (job_of what) good plan).last.begun
  bytes : list_bytes (map event_of (plan_done (job_of what) good plan).last.begun) ≡ written_by (planned what plan room)

accepted_plan : (what : Call) (plan room : ℕ) → (answer_of (planned what plan room)).number ≡ 0 → Planned what plan room
accepted_plan what plan room plan_accepted =
    let (taken, known, enough) = (plan_accepts what plan room).0 plan_accepted in
    let good : Proper (job_of what) = proper what _ taken in
    let d : Done (job_of what) (rule_of (job_of what) plan) Any = plan_done (job_of what) good plan in
    let is : planned what plan room ≡ going d.last = planned_done what (unrolled what) plan room taken known enough d in
    let few : length (map event_of d.last.begun) ≤ most_events =
    omega (arith, length-map d.last.begun event_of, d.listed, d.few, good.few_draws) in
    record { good = good; is = is; events = rw is (read_back (map event_of d.last.begun) few).1; bytes = rw is }

-- By a plan's words the display comes, from the start, to the plan's last state, and to no other.
pub plan_run_in_words : (what : Call) (plan room : ℕ) (last : State) → (answer_of (planned what plan room)).number ≡ 0
    → ByWords (job_of what) (PlanWords (job_of what) plan) (start (job_of what)) last ↔ (planned what plan room ≡ going last)
plan_run_in_words what plan room last plan_accepted =
    let p : Planned what plan room = accepted_plan what plan room plan_accepted in (
      λ w. p.is ∙ ap going (sym (only_by_words (job_of what) p.good plan last w)),
      λ e.
          let both : going last ≡ going (plan_done (job_of what) p.good plan).last = sym e ∙ p.is in
          let same : last ≡ (plan_done (job_of what) p.good plan).last = cc in
          rw same (by_the_words (job_of what) p.good plan),
    )

-- A list that a check accepts, followed to the last draw, has begun all its events.
record Followed (what : Call) (list : List ℕ) : Type 0 where
  good : Proper (job_of what)
  last : State
  ran : run (job_of what) (follow (events_of list)) (most_ticks (job_of what)) (start (job_of what)) ≡ going last
  over : last.rest ≡ []
  begun : map event_of last.begun ≡ events_of list
  read : bad_list list ≡ false

accepted_list : (what : Call) (list : List ℕ) (ticks slots : ℕ) → (answer_of (checked what list ticks slots)).number ≡ 0 → Followed what list
accepted_list what list ticks slots list_accepted =
    let (s, checks) = check_goes what list ticks slots list_accepted in
    let a : Accepted what list ticks slots s = accepted what list ticks slots s checks in
    let good : Proper (job_of what) = proper what _ a.job_taken in
    let front = (along (job_of what) (events_of list) good a.ordered (most_ticks (job_of what)) s a.ran).so_far in
    record {
      good = good;
      last = s;
      ran = a.ran;
      over = a.over;
      begun = front ∙ take_all s.loads (events_of list) (omega (arith, a.all_begun));
      read = a.list_read;
    }

-- A list that a check accepts has the events that a plan writes exactly when at every tick what it begins is as the plan's words say.
pub plan_list_in_words : (what : Call) (list : List ℕ) (plan room ticks slots : ℕ)
    → (answer_of (planned what plan room)).number ≡ 0
    → (answer_of (checked what list ticks slots)).number ≡ 0
    → (events_of list ≡ events_of (written_by (planned what plan room))) ↔ KeepsTo (job_of what) (PlanWords (job_of what) plan) (follow (events_of list))
plan_list_in_words what list plan room ticks slots plan_accepted list_accepted =
    let p : Planned what plan room = accepted_plan what plan room plan_accepted in
    let f : Followed what list = accepted_list what list ticks slots list_accepted in (
      λ e. list_keeps (job_of what) p.good plan (events_of list) (e ∙ p.events),
      λ keeps.
          let same = keeps_only (job_of what) p.good plan (events_of list) (most_ticks (job_of what)) f.last f.ran f.over keeps in
          sym f.begun ∙ ap (λ (z : State). map event_of z.begun) same ∙ sym p.events,
    )

-- The same of bytes: a list of bytes that a check accepts is what a plan writes exactly when at every tick what it begins is as the plan's
-- words say.
pub plan_bytes_in_words : (what : Call) (list : List ℕ) (plan room ticks slots : ℕ)
    → (answer_of (planned what plan room)).number ≡ 0
    → (answer_of (checked what list ticks slots)).number ≡ 0
    → Bytes list
    → (list ≡ written_by (planned what plan room)) ↔ KeepsTo (job_of what) (PlanWords (job_of what) plan) (follow (events_of list))
plan_bytes_in_words what list plan room ticks slots plan_accepted list_accepted bytes =
    let (keeps, back) = plan_list_in_words what list plan room ticks slots plan_accepted list_accepted in
    let p : Planned what plan room = accepted_plan what plan room plan_accepted in
    let f : Followed what list = accepted_list what list ticks slots list_accepted in (
      λ e. keeps (ap events_of e),
      λ k. sym (written_again list f.read bytes) ∙ ap list_bytes (back k ∙ p.events) ∙ p.bytes,
    )

-- Two lists that a check accepts and that keep to the words of the same plan have the same events.
pub one_list_in_words : (what : Call) (list list' : List ℕ) (plan ticks ticks' slots slots' : ℕ)
    → (answer_of (checked what list ticks slots)).number ≡ 0
    → (answer_of (checked what list' ticks' slots')).number ≡ 0
    → KeepsTo (job_of what) (PlanWords (job_of what) plan) (follow (events_of list))
    → KeepsTo (job_of what) (PlanWords (job_of what) plan) (follow (events_of list'))
    → events_of list ≡ events_of list'
one_list_in_words what list list' plan ticks ticks' slots slots' list_accepted list_accepted' keeps keeps' =
    let f : Followed what list = accepted_list what list ticks slots list_accepted in
    let f' : Followed what list' = accepted_list what list' ticks' slots' list_accepted' in
    let one = keeps_only (job_of what) f.good plan (events_of list) (most_ticks (job_of what)) f.last f.ran f.over keeps in
    let other = keeps_only (job_of what) f.good plan (events_of list') (most_ticks (job_of what)) f'.last f'.ran f'.over keeps' in
    sym f.begun ∙ ap (λ (z : State). map event_of z.begun) (one ∙ sym other) ∙ f'.begun
