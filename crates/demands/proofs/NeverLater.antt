-- Conservative by the rule of document 02, Four, is never later than by the old rule, load by load. To be held beside specs/OldRule.antt.
use Prim.Native.Nat.{ℕ, zero, suc, ◌≤◌}
use native.Mathlib.Omega.{arith}
use mathlib.Core.Path.{◌≡◌, refl, sym, ap, ◌∙◌}
use mathlib.Core.List.{List, [], ◌∷◌, map}
use lib.ListN.{length, get_or, length-map}
use Rattle.rules.specs.Basics.{place}
use Rattle.rules.specs.Job.{Job, Call, call, symbols, times_over, unrolled, job_of}
use Rattle.rules.specs.declared.Event.{Event}
use Rattle.rules.specs.LoadList.{most_events}
use Rattle.rules.specs.Order.{Verdict, first_of}
use Rattle.rules.specs.Display.{State, Rule, Loaded, loaded, going, unless, beginning, happened, tick, run}
use Rattle.rules.specs.Plans.{ranks_from, greatest, furthest, ahead, opt, run_plan, begun_in, conservative}
use Rattle.rules.specs.Refusals.{doubled, job_tests, bad_rounds, call_tests, short_plan, in_time, planned, answer_of, event_of}
use Rattle.rules.specs.Worked.{symbol_bytes, numbers, accepts}
use Rattle.rules.specs.Telling.{job_freed}
use Rattle.laws.proofs.Jobs.{Proper, proper}
use Rattle.laws.proofs.Counts.{load_tick}
use Rattle.laws.proofs.RoundTrip.{read_back}
use Rattle.plan_laws.proofs.Choice.{choice, choice_below, choice_furthest, chosen_below, chosen_furthest}
use Rattle.plan_laws.proofs.States.{chosen_slot}
use Rattle.plan_laws.proofs.Keeping.{Done}
use Rattle.plan_laws.proofs.Misses.{Choosing, Below}
use Rattle.plan_laws.proofs.OnDemand.{demand_done}
use Rattle.plan_laws.proofs.OptLoads.{miss_of, all_by, demand_loads, opt_loads}
use Rattle.plan_laws.proofs.Conservative.{LoadsMade, early_made}
use Rattle.plan_laws.proofs.CameFree.{miss_draw}
use Rattle.plan_laws.proofs.Alike.{Alike, alike_start}
use Rattle.plan_laws.proofs.NoLater.{AsFar, conservative_sooner}
use Rattle.plan_laws.proofs.Plans.{plan_clear, planned_done}
use Rattle.demands.specs.Fair.{event_tick, nth_event}
use Rattle.demands.specs.OldRule.{old_slot, old_opt, old_conservative, old_planned, written_tick, NeverLater}
use Rattle.demands.proofs.Demand1.{plan_accepts}

-- ---- The old rule draw by draw

module _ (job : Job) (good : Proper job) where
  -- The slot that it takes goes by the draws to come alone.
  old_pick : Choosing
  old_pick d rest slots = furthest job rest slots

  old_below : Below old_pick
  unfolding old_pick
  old_below d rest slots h = chosen_below job rest slots h

  -- Its loads are its misses, and conservative works them off.
  abbrev old_loads : List Loaded
  old_loads = begun_in (run_plan job (old_opt job))

  old_all : map miss_of old_loads ≡ all_by old_pick job
  unfolding old_pick
  old_all =
      demand_loads job good (old_slot job) old_pick old_below (λ s. refl) (demand_done job good (old_slot job) (chosen_slot job good ahead))

  abbrev old_made : Done job (old_conservative job) (λ s. LoadsMade (all_by old_pick job) old_loads s)
  old_made = early_made job good old_pick old_below old_loads old_all

  abbrev new_loads : List Loaded
  new_loads = begun_in (run_plan job (opt job))

  abbrev new_made : Done job (conservative new_loads) (λ s. LoadsMade (all_by (choice job) job) new_loads s)
  new_made = early_made job good (choice job) (choice_below job) new_loads (opt_loads job good)

  -- Both rules miss the same draws, and what goes out by the new one could go out no later, taken over all so far.
  both_rules : Alike job.draws job.starting job.starting 0 0 (all_by (choice job) job) (all_by old_pick job)
  unfolding old_pick
  both_rules =
      alike_start job.draws good.drawable job.slots (choice job) old_pick (choice_below job) old_below
      (λ d rest slots size. choice_furthest job d rest slots (omega arith))
      (λ d rest slots size. chosen_furthest job rest slots (omega arith))
      good.some_slot job.starting good.row

  -- So by the new rule conservative is as far at every tick.
  new_sooner : AsFar new_made.last old_made.last
  new_sooner =
      conservative_sooner job good (choice job) (choice_below job) new_loads (opt_loads job good) old_pick old_below old_loads old_all
      (ap (map miss_draw) (opt_loads job good) ∙ both_rules.same_draws ∙ sym (ap (map miss_draw) old_all))
      (rw (opt_loads job good, old_all) both_rules.no_later)

  same_loads : new_made.last.loads ≡ old_made.last.loads
  same_loads =
      let size : length (map miss_draw (all_by (choice job) job)) ≡ length (map miss_draw (all_by old_pick job)) = ap length both_rules.same_draws in
      new_made.kept.count
      ∙ sym (length-map (all_by (choice job) job) miss_draw)
      ∙ size
      ∙ length-map (all_by old_pick job) miss_draw
      ∙ sym old_made.kept.count

-- ---- Over a call

-- The ticks of the events of a run's loads.
tick_at : (begun : List Loaded) (i : ℕ) → event_tick (nth_event (map event_of begun) i) ≡ get_or (map load_tick begun) i 0
tick_at [] i = refl
tick_at (loaded t d q x ∷ begun) zero = refl
tick_at (loaded t d q x ∷ begun) (suc i) = tick_at begun i

-- What a plan that is done writes has these ticks.
written_at : (job : Job) (good : Proper job) (rule : Rule) (P : State → Type 0) (d : Done job rule P) (i : ℕ)
    → written_tick (going d.last) i ≡ get_or (map load_tick d.last.begun) i 0
written_at job good rule P d i =
    let few : length (map event_of d.last.begun) ≤ most_events =
    omega (arith, length-map d.last.begun event_of, d.listed, d.few, good.few_draws) in
    ap (λ (l : List Event). event_tick (nth_event l i)) (read_back (map event_of d.last.begun) few).1 ∙ tick_at d.last.begun i

-- Of every call that conservative accepts: by the old rule it is accepted too, with as many loads; each load begins no later than by the old
-- rule, and the last draw is made no later.
pub conservative_never_later : (asked : Call) (room : ℕ) → (answer_of (planned asked 1 room)).number ≡ 0
    → NeverLater (planned asked 1 room) (old_planned asked room)
conservative_never_later asked room plan_accepted =
    let (taken, known, enough) = (plan_accepts asked 1 room).0 plan_accepted in
    let job : Job = job_of asked in
    let good : Proper job = proper asked _ taken in
    let new = new_made job good in
    let old = old_made job good in
    let is : planned asked 1 room ≡ going new.last = planned_done asked (unrolled asked) 1 room taken known enough new in
    let was : old_planned asked room ≡ going old.last =
    ap (λ (v : Verdict). unless v (in_time (run_plan job (old_conservative job)))) (plan_clear asked (unrolled asked) 1 room taken known enough)
    ∙ rw (old.ran, old.over) in
    let far : AsFar new.last old.last = new_sooner job good in
    let same : new.last.loads ≡ old.last.loads = same_loads job good in
    rw (is, was)
    (record {
      accepted = refl;
      accepted_too = refl;
      loads = same;
      begins = λ i inside.
          rw (written_at job good _ _ new i, written_at job good _ _ old i) (far.sooner i (omega arith));
      elapsed = far.tick;
    })

-- The two are not the same: on the sheet of the request conservative is done after 4 ticks, and by the old rule after 5.
old_is_later : (numbers (answer_of (planned (call job_freed 1) 1 28)) ≡ accepts 4 1 1 1)
    × (numbers (answer_of (old_planned (call job_freed 1) 28)) ≡ accepts 5 2 1 2)
unfolding planned first_of job_tests call_tests bad_rounds short_plan symbol_bytes run tick beginning happened place symbols times_over doubled ranks_from
    greatest
old_is_later = (refl, refl)
