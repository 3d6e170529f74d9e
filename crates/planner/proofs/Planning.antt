-- A plan of a job that was taken: its run is never refused and is over in time, so every load has a place; and the answers of `plan`.
use Prim.Native.Nat.{ℕ, ◌+◌, ◌*◌, ◌≤◌, ◌<◌}
use native.Mathlib.Omega.{arith}
use mathlib.Core.Path.{◌≡◌, refl, sym, ap, subst, ◌∙◌}
use mathlib.Core.Bool.{Bool, false, cond}
use mathlib.Core.List.{List, [], ◌∷◌, map}
use lib.ListN.{length, take, length-take}
use lib.Dec.{ltb}
use borrow.Author.Tests.{ltb-false, lt-ltb}
use Rattle.std.specs.Prelude.{Result, Ok, Err, MatchResult}
use Rattle.std.specs.Result.{IsErrAnd}
use Rattle.rules.specs.declared.refusal.Refusal.{Refusal}
use Rattle.rules.specs.declared.Unrolled.{Unrolled}
use Rattle.rules.specs.Order.{Test, test, Verdict, clear, met}
use Rattle.rules.specs.Job.{Call, call, draws_of, job_of, most_draws}
use Rattle.rules.specs.LoadList.{head_size, event_size, list_bytes}
use Rattle.rules.specs.Display.{State, Run, Loaded, going, refused, finished}
use Rattle.rules.specs.declared.Plan.{Plan}
use Rattle.rules.specs.declared.Plan.TheVariants.{Aggressive, Conservative, Opt, Lru}
use Rattle.rules.specs.Plans.{run_plan, begun_in, rule_of, last_plan}
use Rattle.rules.specs.Plans.{plan_number}
use Rattle.rules.specs.Refusing.{refusal_number, refusal_detail}
use Rattle.rules.specs.Refusals.{read_call, call_number, short_plan, in_time, plan_tests, planned, event_of, written_by, lent}
use Rattle.laws.proofs.Verdicts.{Gives, gives, stop, step}
use Rattle.laws.specs.Limits.{Limits}
use Rattle.laws.proofs.Jobs.{limits, proper, same_call, refused_call, no_detail}
use Rattle.plan_laws.proofs.Keeping.{Done}
use Rattle.plan_laws.proofs.Plans.{Any, plan_done, planned_met, planned_past}
use Rattle.display.specs.View.{History, view}
use Rattle.display.specs.declared.state.Display.{Display}
use Rattle.choice.specs.Rows.{row_of}
use Rattle.choice.proofs.Rows.{row_front}
use Rattle.planner.specs.Loads.{Fitting, first_loads}
use Rattle.planner.specs.Runs.{run_of, Over, HasRoom, ComesTo}

-- ---- The order of the refusals, as the code meets it

-- The test of the lent room, as the code has it from the shape that was read.
pub room_test_lem : (asked : Call) (reading : Result Unrolled Refusal) (shape : Unrolled) (room : ℕ) (r : Bool)
    → reading ≡ read_call asked → reading ≡ Ok shape
    → r ≡ ltb room (head_size + event_size * shape.draws) → r ≡ short_plan asked room
unfolding short_plan
room_test_lem asked reading shape room r is taken e = rw (limits asked shape (sym is ∙ taken)).many_draws e

-- What the run asks for is known past the tests.
pub roomy : (job : List ℕ) (rounds : ℕ) (reading : Result Unrolled Refusal) (shape : Unrolled) (room : List ℕ) (r : Bool)
    → reading ≡ read_call (call job rounds) → reading ≡ Ok shape → r ≡ ltb (length room) (head_size + event_size * shape.draws) → r ≡ false
    → HasRoom (call job shape.rounds) shape room
roomy job rounds reading shape room r is taken e fails =
    let read : read_call (call job rounds) ≡ Ok shape = sym is ∙ taken in
    record {
      taken = subst (λ (a : Call). read_call a ≡ Ok shape) (same_call (call job rounds) shape read) read;
      enough = ltb-false _ _ (sym e ∙ fails);
    }

-- A reading told by the number of its refusal.
abbrev pub ToldBy : Result Unrolled Refusal → Result Unrolled ℕ → Type 0
ToldBy reading told = MatchResult reading (λ size. told ≡ Ok size) (λ e. IsErrAnd told (λ n. n ≡ refusal_number e))

told_number : (reading : Result Unrolled Refusal) (told : Result Unrolled ℕ) (e : Refusal) → reading ≡ Err e → ToldBy reading told
    → call_number told ≡ refusal_number e
told_number (Ok size) told e stops tells = let z : ◌≡◌ {A = ℕ} 0 1 = cc in absurd (omega arith)
told_number (Err e') (Ok size) e stops tells = absurd tells
told_number (Err e') (Err n) e stops tells = let same : e' ≡ e = cc in tells ∙ ap refusal_number same

module _ (asked : Call) (plan : ℕ) (room : List ℕ) where
  abbrev comes : Run
  comes = planned asked plan (length room)

  -- A plan that is refused leaves the room as it was.
  pub refuses : (e : Refusal) → Gives (plan_tests asked plan (length room)) (met (refusal_number e) (refusal_detail e))
      → (comes ≡ refused (refusal_number e) (refusal_detail e)) × (room ≡ lent (written_by comes) room)
  refuses e g =
      let is : comes ≡ refused (refusal_number e) (refusal_detail e) =
      planned_met asked plan (length room) (refusal_number e) (refusal_detail e) (gives _ _ g) in
      (is, rw is)

  -- So does one whose call is refused.
  pub call_refuses : (reading : Result Unrolled Refusal) (e : Refusal) → reading ≡ read_call asked → reading ≡ Err e
      → (comes ≡ refused (refusal_number e) (refusal_detail e)) × (room ≡ lent (written_by comes) room)
  call_refuses reading e is stops = refuses e (refused_call asked reading e _ is stops)

  -- It is answered by the number of its refusal.
  pub call_answers : (reading : Result Unrolled Refusal) (told : Result Unrolled ℕ) (e : Refusal) → reading ≡ read_call asked → reading ≡ Err e
      → ToldBy reading told → (refused (call_number told) 0 ≡ comes) × (room ≡ lent (written_by comes) room)
  call_answers reading told e is stops tells =
      let (comes_to, writes) = call_refuses reading e is stops in
      let none : refusal_detail e ≡ 0 = no_detail asked e (sym is ∙ stops) in
      let number : call_number told ≡ refusal_number e = told_number reading told e stops tells in
      (ap (λ (n : ℕ). refused n 0) number ∙ ap (refused (refusal_number e)) (sym none) ∙ sym comes_to, writes)

  -- Past all tests it comes to the run of the plan.
  pub past_tests : (reading : Result Unrolled Refusal) (shape : Unrolled) → reading ≡ read_call asked → reading ≡ Ok shape
      → Gives (plan_tests asked plan (length room)) clear → comes ≡ run_of (call asked.job shape.rounds) plan
  past_tests reading shape is taken g =
      planned_past asked plan (length room) (gives _ _ g) ∙ ap (λ (a : Call). run_of a plan) (same_call asked shape (sym is ∙ taken))

-- Test 6 is met by a number that is no plan's, and passed by that of one of the four.
pub no_plan : (number : ℕ) (later : List Test) → last_plan < number → Gives (test 6 0 (ltb last_plan number) ∷ later) (met 6 0)
no_plan number later above = stop _ refl (lt-ltb last_plan number above)

pub a_plan : (plan : Plan) (number : ℕ) (later : List Test) (v : Verdict) → plan_number plan ≡ number → Gives later v
    → Gives (test 6 0 (ltb last_plan number) ∷ later) v
a_plan plan number later v e g = step _ refl (known plan e) g
  where
    known : (plan : Plan) → plan_number plan ≡ number → ltb last_plan number ≡ false
    known Aggressive e = rw (← e)
    known Conservative e = rw (← e)
    known Opt e = rw (← e)
    known Lru e = rw (← e)

pub not_conservative : (plan : Plan) → (plan ≡ Conservative → ⊥) → plan_number plan ≡ 1 → ⊥
not_conservative Aggressive other e = omega arith
not_conservative Conservative other e = other refl
not_conservative Opt other e = omega arith
not_conservative Lru other e = omega arith

-- ---- The run

-- The row that was copied begins with the draws, and has a place for each.
module _ (asked : Call) (shape : Unrolled) (row : List ℕ) (within : Limits asked shape) (copied : row ≡ row_of asked) where
  pub row_draws : draws_of asked ≡ take shape.draws row
  row_draws = sym (ap (λ (r : List ℕ). take shape.draws r) copied ∙ row_front asked shape.draws within.many_draws)

  pub row_size : length (take shape.draws row) ≡ shape.draws
  row_size = ap length (sym row_draws) ∙ within.many_draws

  pub row_long : shape.draws ≤ length row
  row_long = omega (arith, row_size, length-take shape.draws row)

last_in_time : (s : State) → s.rest ≡ [] → in_time (going s) ≡ going s
last_in_time s e = ap (λ (l : List ℕ). cond (finished l) (going s) (refused 15 0)) e

module _ (asked : Call) (shape : Unrolled) (taken : read_call asked ≡ Ok shape) (plan : ℕ) where
  done : Done (job_of asked) (rule_of (job_of asked) plan) Any
  done = plan_done (job_of asked) (proper asked shape taken) plan

  ends_last : run_of asked plan ≡ going done.last
  ends_last = ap in_time done.ran ∙ last_in_time done.last done.over

  -- No run of a plan is refused.
  pub never_refused : (n d : ℕ) → run_of asked plan ≡ refused n d → ⊥
  never_refused n d halts =
      let same : refused n d ≡ going done.last = sym halts ∙ ends_last in
      let z : ◌≡◌ {A = ℕ} 0 1 = cc in
      omega arith

  -- A run that is over began at most one load to a draw, so each has its place in the row; and its loads are those of the rules.
  module _ (held : List ℕ) (h : History) (d : Display) (ends : run_of asked plan ≡ going (view held h d)) where
    last_view : view held h d ≡ done.last
    last_view = let same : going (view held h d) ≡ going done.last = sym ends ∙ ends_last in cc

    pub over_so : (loads : List ℕ) → (d.loads ≤ most_draws → h.begun ≡ first_loads d.loads loads) → Over plan asked loads d
    over_so loads noted =
        let same : d.loads ≡ done.last.loads = ap (λ (s : State). s.loads) last_view in
        let few : done.last.loads ≤ length (draws_of asked) = done.few in
        let most : length (draws_of asked) ≤ most_draws = (proper asked shape taken).few_draws in
        record { held = held; history = h; ends = ends; noted = noted (omega arith); few = omega arith }

    begun_by_plan : h.begun ≡ begun_in (run_plan (job_of asked) (rule_of (job_of asked) plan))
    begun_by_plan = ap (λ (s : State). s.begun) last_view ∙ ap begun_in (sym done.ran)

  module _ (loads : List ℕ) (d : Display) (over : Over plan asked loads d) where
    pub few_loads : d.loads ≤ most_draws
    few_loads =
        let few : d.loads ≤ length (draws_of asked) = over.few in
        let most : length (draws_of asked) ≤ most_draws = (proper asked shape taken).few_draws in
        omega arith

    -- The loads in the row are what the plan begins by the rules: after the run of opt, the orders of conservative.
    pub loads_by_plan : first_loads d.loads loads ≡ begun_in (run_plan (job_of asked) (rule_of (job_of asked) plan))
    loads_by_plan = sym over.noted ∙ begun_by_plan over.held over.history d over.ends

    pub fitting : length loads ≡ most_draws → (room : List ℕ) → HasRoom asked shape room → Fitting d.loads room loads
    fitting places room has =
        let few : d.loads ≤ length (draws_of asked) = over.few in
        let many : length (draws_of asked) ≡ shape.draws = (limits asked shape taken).many_draws in
        let enough : head_size + event_size * shape.draws ≤ length room = has.enough in
        let most = few_loads in
        record { enough = omega arith; there = omega arith }

-- ---- The answer

-- A run that is over comes to its display and writes its loads.
module _ (asked : Call) (plan : ℕ) (loads : List ℕ) (d : Display) (over : Over plan asked loads d) (comes : Run)
    (same : comes ≡ run_of asked plan) where
  pub over_comes : ComesTo comes (Ok d)
  over_comes = (over.held, over.history, same ∙ over.ends)

  pub over_writes : (room room' : List ℕ) → room' ≡ lent (list_bytes (map event_of (first_loads d.loads loads))) room
      → room' ≡ lent (written_by comes) room
  over_writes room room' writes =
      writes
      ∙ ap (λ (l : List Loaded). lent (list_bytes (map event_of l)) room) (sym over.noted)
      ∙ ap (λ (x : Run). lent (written_by x) room) (sym (same ∙ over.ends))
