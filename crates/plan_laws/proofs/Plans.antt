-- The four plans by their numbers, over the bytes of a job: each is done, and the list that it writes, checked, is accepted with the same answer.
use Prim.Native.Nat.{ℕ, zero, suc, ◌+◌, ◌*◌, ◌≤◌}
use native.Mathlib.Omega.{arith}
use mathlib.Core.Path.{◌≡◌, refl, ap, ◌∙◌}
use mathlib.Core.Bool.{false}
use mathlib.Core.List.{List, map}
use lib.ListN.{length, length-map}
use borrow.Author.Tests.{le-ltb}
use Rattle.std.specs.Prelude.{Some, None, Ok}
use Rattle.rules.specs.declared.Unrolled.{Unrolled}
use Rattle.rules.specs.Order.{Verdict, clear, met, first_of}
use Rattle.rules.specs.Job.{Job, Call, job_of, draws_of}
use Rattle.rules.specs.declared.Event.{Event}
use Rattle.rules.specs.LoadList.{most_events, head_size, event_size, list_bytes}
use Rattle.rules.specs.Display.{State, going, refused, unless}
use Rattle.rules.specs.Plans.{last_plan, rule_of, run_plan}
use Rattle.rules.specs.Refusals.{read_call, bad_list, follows, checked, in_time, short_plan, plan_tests, planned, event_of, written_by, answer_of}
use Rattle.laws.proofs.Cases.{by_test}
use Rattle.laws.proofs.Jobs.{Proper, proper, past_call}
use Rattle.laws.proofs.Verdicts.{step, end, gives}
use Rattle.laws.proofs.Along.{Ruly}
use Rattle.laws.proofs.Checks.{checked_follows}
use Rattle.laws.proofs.RoundTrip.{read_back}
use Rattle.plan_laws.proofs.Keeping.{Done, done_with}
use Rattle.plan_laws.proofs.OnDemand.{opt_done, lru_done}
use Rattle.plan_laws.proofs.Aggressive.{aggressive_done}
use Rattle.plan_laws.proofs.Conservative.{conservative_done}

-- Nothing more is asked of a last state.
abbrev pub Any : State → Type 0
Any s = Unit {0}

-- Each plan of a proper job is never refused, makes at most a load to each draw, waits only while one is under way, and is done in time.
pub plan_done : (job : Job) → Proper job → (p : ℕ) → Done job (rule_of job p) Any
plan_done job proper zero = done_with job (rule_of job 0) _ (aggressive_done job proper) tt
plan_done job proper (suc zero) = done_with job (rule_of job 1) _ (conservative_done job proper) tt
plan_done job proper (suc (suc zero)) = done_with job (rule_of job 2) _ (opt_done job proper) tt
plan_done job proper (suc (suc (suc p))) = done_with job (rule_of job 3) _ (lru_done job proper) tt

-- A plan is refused by the test that its order comes to, and past them all it is its run, in time or not.
pub planned_met : (asked : Call) (p room n d : ℕ) → first_of (plan_tests asked p room) ≡ met n d → planned asked p room ≡ refused n d
unfolding planned
planned_met asked p room n d e = ap (λ (v : Verdict). unless v (in_time (run_plan (job_of asked) (rule_of (job_of asked) p)))) e

pub planned_past : (asked : Call) (p room : ℕ) → first_of (plan_tests asked p room) ≡ clear
    → planned asked p room ≡ in_time (run_plan (job_of asked) (rule_of (job_of asked) p))
unfolding planned
planned_past asked p room e = ap (λ (v : Verdict). unless v (in_time (run_plan (job_of asked) (rule_of (job_of asked) p)))) e

-- A job that is taken, a plan's number and room enough: past all tests,
pub plan_clear : (asked : Call) (shape : Unrolled) (p room : ℕ) → read_call asked ≡ Ok shape → p ≤ last_plan
    → head_size + event_size * length (draws_of asked) ≤ room → first_of (plan_tests asked p room) ≡ clear
unfolding short_plan
plan_clear asked shape p room taken known enough =
    gives _ _
    (past_call asked (read_call asked) shape refl taken
    (step false (rw (le-ltb last_plan p known)) refl
    (step false (rw (le-ltb room (head_size + event_size * length (draws_of asked)) enough)) refl
    end)))

-- and the plan comes to its last state.
pub planned_done : {P : State → Type 0} (asked : Call) (shape : Unrolled) (p room : ℕ) → read_call asked ≡ Ok shape → p ≤ last_plan
    → head_size + event_size * length (draws_of asked) ≤ room
    → (d : Done (job_of asked) (rule_of (job_of asked) p) P) → planned asked p room ≡ going d.last
planned_done asked shape p room taken known enough d =
    planned_past asked p room (plan_clear asked shape p room taken known enough) ∙ rw (d.ran, d.over)

-- A list that was written can be read.
pub written_read : (l : List Event) → length l ≤ most_events → bad_list (list_bytes l) ≡ false
written_read l few =
    by_test (bad_list (list_bytes l))
    (λ t.
    let e : None ≡ Some (length l) = rw t at (read_back l few).0 in
    let impossible : ◌≡◌ {A = ℕ} 0 1 = cc in
    absurd (omega arith))
    (λ t. t)

-- A list in order, checked as the bytes that are written for it, with places enough.
written_checked : (asked : Call) (shape : Unrolled) (l : List Event) (ticks slots : ℕ) → read_call asked ≡ Ok shape → length l ≤ most_events
    → length (draws_of asked) ≤ ticks → length (draws_of asked) ≤ slots → Ruly 0 l
    → checked asked (list_bytes l) ticks slots ≡ follows (job_of asked) l
written_checked asked shape l ticks slots taken few ticks_room slots_room ordered =
    checked_follows asked (list_bytes l) ticks slots shape taken (written_read l few) ticks_room slots_room (rw (read_back l few).1 ordered)
    ∙ ap (follows (job_of asked)) (read_back l few).1

-- A plan of a job that is taken, with room enough, is accepted; and the check of the bytes that it writes, with places enough, is accepted and
-- comes to the very same state: the same elapsed, waits and loads, and the same draws.
pub plan_checked : (asked : Call) (shape : Unrolled) (p room ticks slots : ℕ) → read_call asked ≡ Ok shape → p ≤ last_plan
    → head_size + event_size * length (draws_of asked) ≤ room → length (draws_of asked) ≤ ticks → length (draws_of asked) ≤ slots
    → (s : State) × (planned asked p room ≡ going s) × (checked asked (written_by (planned asked p room)) ticks slots ≡ going s)
plan_checked asked shape p room ticks slots taken known enough ticks_room slots_room =
    let good : Proper (job_of asked) = proper asked shape taken in
    let d : Done (job_of asked) (rule_of (job_of asked) p) Any = plan_done (job_of asked) good p in
    let accepted : planned asked p room ≡ going d.last = planned_done asked shape p room taken known enough d in
    let events : List Event = map event_of d.last.begun in
    let few : length events ≤ most_events =
    omega (arith, length-map d.last.begun event_of, d.listed, d.few, good.few_draws) in
    (d.last, accepted, rw accepted (written_checked asked shape events ticks slots taken few ticks_room slots_room d.in_order ∙ d.replays))

-- So a check of what a plan wrote answers what the plan answered.
pub plan_answers : (asked : Call) (shape : Unrolled) (p room ticks slots : ℕ) → read_call asked ≡ Ok shape → p ≤ last_plan
    → head_size + event_size * length (draws_of asked) ≤ room → length (draws_of asked) ≤ ticks → length (draws_of asked) ≤ slots
    → answer_of (checked asked (written_by (planned asked p room)) ticks slots) ≡ answer_of (planned asked p room)
plan_answers asked shape p room ticks slots taken known enough ticks_room slots_room =
    let (s, accepted, again) = plan_checked asked shape p room ticks slots taken known enough ticks_room slots_room in
    rw again (rw accepted)
