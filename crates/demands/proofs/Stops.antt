-- Where a run is refused: at one state on its way, in whose tick a row of the table holds; and a row that holds on the way refuses the run.
use Prim.Native.Nat.{ℕ, zero, suc, ◌+◌, ◌-◌, ◌<◌, ◌≤◌}
use native.Mathlib.Omega.{arith}
use mathlib.Core.Path.{◌≡◌, refl, sym, ap, ◌∙◌}
use mathlib.Core.Bool.{Bool, true, false}
use mathlib.Core.List.{List}
use mathlib.Core.Logic.{◌⊎◌, inl, inr}
use lib.ListN.{length, drop, drop_of_length-le}
use lib.Dec.{eqb, ltb, leb}
use borrow.Author.Tests.{ltb-true, ltb-false, leb-true, leb-false, le-leb, lt-ltb, le-ltb, eqb-true, eq-eqb, not-true, not-false}
use Rattle.std.specs.Prelude.{Option, Some, None}
use Rattle.rules.specs.declared.Load.{Load}
use Rattle.rules.specs.declared.Loading.{Loading}
use Rattle.rules.specs.declared.Loading.TheVariants.{Idle, Under}
use Rattle.rules.specs.declared.Happening.TheVariants.{Wait}
use Rattle.rules.specs.Basics.{stands}
use Rattle.rules.specs.Job.{Job, free}
use Rattle.rules.specs.declared.Event.{Event}
use Rattle.rules.specs.Display.{load, State, Run, Rule, going, refused, start, land, idle, load_tests, beginning, awaited, cause_of, happening_of, stuck}
use Rattle.rules.specs.Display.{happened, then, asked, tick, finished, run}
use Rattle.rules.specs.Refusals.{due, follow}
use Rattle.laws.proofs.Cases.{by_test}
use Rattle.laws.proofs.Verdicts.{clear_of, Each, met_by}
use Rattle.laws.proofs.Moves.{beginning_going, beginning_refused}
use Rattle.laws.proofs.Runs.{run_finished, run_unfinished, run_then, run_longer, on_the_way}
use Rattle.demands.specs.Table.{Due, Refuses, under_way, beyond, held, no_symbol, endless}

-- A run that goes is not refused,
pub going_is_not_refused : {A : Type 0} (s : State) (n d : ℕ) → going s ≡ refused n d → A
going_is_not_refused s n d e = let z : ◌≡◌ {A = ℕ} 0 1 = cc in absurd (omega arith)

-- and a test does not both hold and fail.
pub held_and_failed : {A : Type 0} (b : Bool) → b ≡ true → b ≡ false → A
held_and_failed b held_so failed_so = let z : ◌≡◌ {A = ℕ} 0 1 = cc in absurd (omega arith)

-- A run after another that is refused: the first was, or it went on to a state from which the second was.
pub then_refused : (r : Run) (f : State → Run) (n d : ℕ) → then r f ≡ refused n d
    → (r ≡ refused n d) ⊎ ((s : State) × (r ≡ going s) × (f s ≡ refused n d))
then_refused (going s) f n d e = inr (s, refl, e)
then_refused (refused m c) f n d e = inl e

module _ (job : Job) (rule : Rule) where
  -- A run that is refused comes to a state with draws left whose tick is refused.
  pub run_refused : (t : ℕ) (s : State) (n d : ℕ) → run job rule t s ≡ refused n d
      → (u : ℕ) × (s' : State) × (run job rule u s ≡ going s') × (finished s'.rest ≡ false) × (tick job rule s' ≡ refused n d)
  unfolding run
  run_refused zero s n d e = going_is_not_refused s n d e
  run_refused (suc t) s n d e =
      by_test (finished s.rest)
      (λ f. going_is_not_refused s n d (rw f at e))
      (λ f. at_first f (then_refused (tick job rule s) (run job rule t) n d (rw f at e)) (λ s₁ later. run_refused t s₁ n d later))
    where
      at_first : finished s.rest ≡ false
          → (tick job rule s ≡ refused n d) ⊎ ((s₁ : State) × (tick job rule s ≡ going s₁) × (run job rule t s₁ ≡ refused n d))
          → ((s₁ : State) → run job rule t s₁ ≡ refused n d
          → (u : ℕ) × (s' : State) × (run job rule u s₁ ≡ going s') × (finished s'.rest ≡ false) × (tick job rule s' ≡ refused n d))
          → (u : ℕ) × (s' : State) × (run job rule u s ≡ going s') × (finished s'.rest ≡ false) × (tick job rule s' ≡ refused n d)
      at_first f (inl now) later = (0, s, refl, f, now)
      at_first f (inr (s₁, first, behind)) later =
          let (u, s', ran, more, stops) = later s₁ behind in (suc u, s', rw (f, first) ran, more, stops)

  -- The other way round: where the tick of a state on the way is refused, so is a run that has all draws done wherever it goes.
  pub refused_on_the_way : (whole : ℕ) → ((s : State) → run job rule whole (start job) ≡ going s → finished s.rest ≡ true)
      → (t : ℕ) (s : State) (n d : ℕ) → run job rule t (start job) ≡ going s → finished s.rest ≡ false → tick job rule s ≡ refused n d
      → run job rule whole (start job) ≡ refused n d
  refused_on_the_way whole over t s n d ran more stops =
      by_test (ltb t whole)
      (λ e.
      let before : t < whole = ltb-true t whole e in
      let split : t + suc (whole - t - 1) ≡ whole = omega arith in
      rw (← split, run_then job rule t (suc (whole - t - 1)) (start job), ran)
      (run_unfinished job rule (whole - t - 1) s more ∙ rw stops))
      (λ e.
      let after : whole ≤ t = ltb-false t whole e in
      let split : whole + (t - whole) ≡ t = omega arith in
      let (last, ended, on) = on_the_way job rule whole (t - whole) (start job) s (rw split ran) in
      let done : finished last.rest ≡ true = over last ended in
      let same : last ≡ s = let g : going last ≡ going s = sym (run_finished job rule (t - whole) last done) ∙ on in cc in
      held_and_failed (finished s.rest) (rw same at done) more)

  -- A run with all draws done stays as it is, so it is the same after any number of ticks in which all draws are done.
  pub over_anyway : (whole : ℕ) → ((s : State) → run job rule whole (start job) ≡ going s → finished s.rest ≡ true)
      → (t : ℕ) (s : State) → run job rule t (start job) ≡ going s → finished s.rest ≡ true → run job rule whole (start job) ≡ going s
  over_anyway whole over t s ran done =
      by_test (leb t whole)
      (λ e. run_longer job rule t whole (start job) s (leb-true t whole e) ran done)
      (λ e.
      let after : whole < t = leb-false t whole e in
      let split : whole + (t - whole) ≡ t = omega arith in
      let (last, ended, on) = on_the_way job rule whole (t - whole) (start job) s (rw split ran) in
      ended ∙ sym (run_finished job rule (t - whole) last (over last ended)) ∙ on)

-- A wait with no load under way, where the rule asks for nothing any more, is refused.
pub endless_wait : (loading : Loading) (x : ℕ) → idle loading ≡ true → stuck (Wait (cause_of loading x)) true ≡ true
endless_wait Idle x e = refl
endless_wait (Under left q y) x e = held_and_failed false e refl

-- Only such a wait is.
stuck_wait : (loading : Loading) (x : ℕ) (done : Bool) → stuck (Wait (cause_of loading x)) done ≡ true → (idle loading ≡ true) × (done ≡ true)
stuck_wait Idle x done e = (refl, e)
stuck_wait (Under left q y) x done e =
    by_test (eqb x y) (λ t. held_and_failed false (rw t at e) refl) (λ t. held_and_failed false (rw t at e) refl)

-- What happens in a tick is refused only as 13, at a wait with no load under way and the rule done.
happened_refused : (rule : Rule) (s : State) (n d : ℕ) → happened (happening_of s) (rule.done s) s ≡ refused n d
    → (stands (awaited s) s.slots ≡ false) × (idle s.loading ≡ true) × (rule.done s ≡ true) × (refused 13 s.next ≡ refused n d)
unfolding happened
happened_refused rule s n d e =
    by_test (stands (awaited s) s.slots)
    (λ t. going_is_not_refused _ n d (rw t at e))
    (λ t.
    by_test (stuck (Wait (cause_of s.loading (awaited s))) (rule.done s))
    (λ k.
    let (quiet, done) = stuck_wait s.loading (awaited s) (rule.done s) k in
    (t, quiet, done, rw (t, k) at e))
    (λ k. going_is_not_refused _ n d (rw (t, k) at e)))

module _ (job : Job) (events : List Event) (s : State) where
  -- A refusal of an event is row 10, 11 or 12, tested in this order.
  event_refused : (q x n d : ℕ) → Due events q x s → beginning job (Some (load q x)) (land s) ≡ refused n d → Refuses job events s n d
  unfolding Each
  event_refused q x n d asks e =
      met_by (Refuses job events s) (load_tests job q x (land s)) n d (
        λ front t. under_way q x asks (not-true _ t),
        (
          λ front t. beyond q x asks (not-false _ (clear_of _ front 10)) (ltb-false q job.slots (not-true _ t)),
          (
            λ front t.
                let quiet : idle (land s).loading ≡ true = not-false _ (clear_of _ front 10) in
                let slot : q < job.slots = ltb-true q job.slots (not-false _ (clear_of _ front 11)) in
                by_test (eqb x free)
                (λ mark. no_symbol q x asks quiet slot (eqb-true x free mark))
                (λ symbol. held q x asks quiet slot (rw symbol at t)),
            tt,
          ),
        ),
      )
      (beginning_refused job q x n d (land s) e)

  -- Where nothing is refused at its beginning, a tick is refused only as row 13, and then no event begins in it.
  wait_refused : (b : Option Load) (after : State) (n d : ℕ) → beginning job b (land s) ≡ going after
      → happened (happening_of after) ((follow events).done after) after ≡ refused n d → Refuses job events s n d
  unfolding beginning
  wait_refused None after n d began e =
      let same : land s ≡ after = cc in
      let (unheld, quiet, done, is) = happened_refused (follow events) (land s) n d (rw (← same) at e) in
      let number : 13 ≡ n = cc in
      let detail : s.next ≡ d = cc in
      rw (← number, ← detail) (endless quiet unheld (leb-true (length events) s.loads done))
  wait_refused (Some this) after n d began e =
      let (free_to_begin, same) = beginning_going job this.slot this.symbol (land s) after began in
      let (unheld, quiet, done, is) = happened_refused (follow events) after n d e in
      held_and_failed false (rw (← same) at quiet) refl

  -- A tick of a run along a list that is refused meets a row.
  pub tick_refused : (n d : ℕ) → tick job (follow events) s ≡ refused n d → Refuses job events s n d
  unfolding tick
  tick_refused n d e = by_begun (asked (follow events) s) refl (then_refused (beginning job (asked (follow events) s) (land s)) _ n d e)
    where
      by_begun : (b : Option Load) → asked (follow events) s ≡ b
          → (beginning job b (land s) ≡ refused n d)
          ⊎ ((after : State)
          × (beginning job b (land s) ≡ going after)
          × (happened (happening_of after) ((follow events).done after) after ≡ refused n d))
          → Refuses job events s n d
      by_begun None asks (inl now) = going_is_not_refused (land s) n d (unfold beginning in now)
      by_begun (Some this) asks (inl now) = event_refused this.slot this.symbol n d asks now
      by_begun None asks (inr (after, began, late)) = wait_refused None after n d began late
      by_begun (Some this) asks (inr (after, began, late)) = wait_refused (Some this) after n d began late

  -- A row that is met refuses the tick.
  pub row_refuses : (n d : ℕ) → Refuses job events s n d → tick job (follow events) s ≡ refused n d
  unfolding tick beginning happened
  row_refuses n d (under_way q x asks busy) = rw (asks, busy)
  row_refuses n d (beyond q x asks quiet far) = rw (asks, quiet, le-ltb q job.slots far)
  row_refuses n d (held q x asks quiet slot there) =
      by_test (eqb x free)
      (λ f. rw (asks, quiet, lt-ltb q job.slots slot, f))
      (λ f. rw (asks, quiet, lt-ltb q job.slots slot, f, there))
  row_refuses n d (no_symbol q x asks quiet slot mark) = rw (asks, quiet, lt-ltb q job.slots slot, eq-eqb x free mark)
  row_refuses n d (endless quiet unheld none) =
      let nothing : due (drop s.loads events) s.tick ≡ None =
      unfold due in ap (λ (l : List Event). due l s.tick) (drop_of_length-le events none) in
      rw (nothing, unheld, le-leb (length events) s.loads none, endless_wait (land s).loading (awaited s) quiet)
