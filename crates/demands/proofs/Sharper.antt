-- Sharper facts than demand 3: the loads that have ended, conservative beside opt, and what a plan's loads and waits are.
use Prim.Native.Nat.{ℕ, zero, suc, ◌+◌, ◌*◌, ◌≤◌}
use native.Mathlib.Omega.{arith}
use mathlib.Core.Path.{◌≡◌, refl, sym, ap, ◌∙◌}
use mathlib.Core.Bool.{true, false}
use mathlib.Core.List.{List, map}
use lib.ListN.{length}
use lib.Seq.{take_all}
use Rattle.std.specs.Prelude.{Ok}
use Rattle.rules.specs.declared.Cause.{Cause}
use Rattle.rules.specs.declared.Happening.TheVariants.{Draw, Wait}
use Rattle.rules.specs.Job.{Call, Job, unrolled, draws_of, job_of}
use Rattle.rules.specs.LoadList.{head_size, event_size, last_tick, events_of}
use Rattle.rules.specs.Basics.{place, stands}
use Rattle.rules.specs.Display.{State, going, refused, start, land, idle, awaited, beginning, happening_of, happened, asked, tick, finished, run}
use Rattle.rules.specs.Plans.{rule_of}
use Rattle.rules.specs.Refusals.{read_call, follow, most_ticks, event_of, checked, planned, answer_of}
use Rattle.laws.proofs.Cases.{by_test}
use Rattle.laws.proofs.Jobs.{Proper, proper}
use Rattle.laws.proofs.Along.{along}
use Rattle.laws.proofs.Checks.{Accepted, accepted}
use Rattle.plan_laws.proofs.Keeping.{Done}
use Rattle.plan_laws.proofs.OnDemand.{opt_done}
use Rattle.plan_laws.proofs.Exact.{conservative_no_later}
use Rattle.plan_laws.proofs.Conservative.{conservative_done}
use Rattle.plan_laws.proofs.Plans.{Any, plan_done, planned_done}
use Rattle.plan_laws.proofs.Demand.{conservative_better}
use Rattle.demands.specs.Held.{ended_by}
use Rattle.demands.proofs.Ended.{ended_but_one}
use Rattle.demands.proofs.Stops.{going_is_not_refused, refused_on_the_way, endless_wait}
use Rattle.demands.proofs.Refusing.{check_goes}
use Rattle.demands.proofs.Demand1.{plan_accepts}

-- Opt with room lent makes no more loads than any list that a check accepts has ended: a load that ends only after the last draw is left out.
pub opt_loads_ended : (asked : Call) (list : List ℕ) (ticks slots room : ℕ)
    → (answer_of (checked asked list ticks slots)).number ≡ 0
    → head_size + event_size * length (draws_of asked) ≤ room
    → (answer_of (planned asked 2 room)).loads ≤ ended_by (job_of asked).load_time (answer_of (checked asked list ticks slots)).elapsed (events_of list)
opt_loads_ended asked list ticks slots room list_accepted enough =
    let (s, followed) = check_goes asked list ticks slots list_accepted in
    let a : Accepted asked list ticks slots s = accepted asked list ticks slots s followed in
    let good : Proper (job_of asked) = proper asked _ a.job_taken in
    let better = conservative_better (job_of asked) good (follow (events_of list)) (most_ticks (job_of asked)) s a.ran a.over in
    let same = (conservative_no_later (job_of asked) good).1 in
    let front = (along (job_of asked) (events_of list) good a.ordered (most_ticks (job_of asked)) s a.ran).so_far in
    let whole : map event_of s.begun ≡ events_of list = front ∙ take_all s.loads (events_of list) (omega (arith, a.all_begun)) in
    let ended = ended_but_one (job_of asked) (follow (events_of list)) good (most_ticks (job_of asked)) s a.ran in
    rw (planned_done asked (unrolled asked) 2 room a.job_taken (omega arith) enough (opt_done (job_of asked) good), followed)
    (omega (arith, same, better.loads_ended, rw whole at ended))

-- Of every job that is accepted, with room lent, conservative is never later than opt, with as many loads.
pub conservative_before_opt : (asked : Call) (room : ℕ) → read_call asked ≡ Ok (unrolled asked)
    → head_size + event_size * length (draws_of asked) ≤ room
    → ((answer_of (planned asked 1 room)).elapsed ≤ (answer_of (planned asked 2 room)).elapsed)
    × ((answer_of (planned asked 1 room)).loads ≡ (answer_of (planned asked 2 room)).loads)
conservative_before_opt asked room taken enough =
    let good : Proper (job_of asked) = proper asked _ taken in
    rw (
      planned_done asked (unrolled asked) 1 room taken (omega arith) enough (conservative_done (job_of asked) good),
      planned_done asked (unrolled asked) 2 room taken (omega arith) enough (opt_done (job_of asked) good),
    ) (conservative_no_later (job_of asked) good)

-- A plan that is accepted makes at most one load to each draw, and waits at most F ticks for each load.
pub plan_loads_few : (asked : Call) (plan room : ℕ) → (answer_of (planned asked plan room)).number ≡ 0
    → ((answer_of (planned asked plan room)).loads ≤ length (draws_of asked))
    × ((answer_of (planned asked plan room)).waits ≤ (job_of asked).load_time * (answer_of (planned asked plan room)).loads)
plan_loads_few asked plan room plan_accepted =
    let (taken, known, enough) = (plan_accepts asked plan room).0 plan_accepted in
    let d : Done (job_of asked) (rule_of (job_of asked) plan) Any = plan_done (job_of asked) (proper asked _ taken) plan in
    rw (planned_done asked (unrolled asked) plan room taken known enough d) (d.few, d.brief)

-- A plan never says that it would ask again later.
always_done : (job : Job) (plan : ℕ) (s : State) → (rule_of job plan).done s ≡ true
always_done job zero s = refl
always_done job (suc zero) s = refl
always_done job (suc (suc zero)) s = refl
always_done job (suc (suc (suc p))) s = refl

-- So a tick of its run that waits with no load under way would be refused.
wait_stops : (job : Job) (plan : ℕ) (s after : State) (c : Cause)
    → beginning job (asked (rule_of job plan) s) (land s) ≡ going after → happening_of after ≡ Wait c → idle after.loading ≡ true
    → tick job (rule_of job plan) s ≡ refused 13 after.next
unfolding tick happened
wait_stops job plan s after c began waits quiet =
    by_test (stands (awaited after) after.slots)
    (λ t. let z : ◌≡◌ {A = ℕ} 0 1 = let g : Draw (place (awaited after) after.slots) ≡ Wait c = rw t at waits in cc in absurd (omega arith))
    (λ t. rw (began, t, always_done job plan after, endless_wait after.loading (awaited after) quiet))

-- At every tick of a plan's run that is a wait, a load is under way, one begun in that tick counted in.
pub waits_under_way : (what : Call) (plan : ℕ) → read_call what ≡ Ok (unrolled what)
    → (t : ℕ) (s after : State) (c : Cause)
    → run (job_of what) (rule_of (job_of what) plan) t (start (job_of what)) ≡ going s
    → finished s.rest ≡ false
    → beginning (job_of what) (asked (rule_of (job_of what) plan) s) (land s) ≡ going after
    → happening_of after ≡ Wait c
    → idle after.loading ≡ false
waits_under_way what plan taken t s after c ran more began waits =
    let rule = rule_of (job_of what) plan in
    let d : Done (job_of what) rule Any = plan_done (job_of what) (proper what _ taken) plan in
    by_test (idle after.loading)
    (λ quiet.
    going_is_not_refused d.last 13 after.next
    (sym d.ran
    ∙ refused_on_the_way (job_of what) rule last_tick
    (λ last ended.
    let ran : going d.last ≡ going last = sym d.ran ∙ ended in
    let same : d.last ≡ last = cc in
    rw (← same) (ap finished d.over))
    t s 13 after.next ran more (wait_stops (job_of what) plan s after c began waits quiet)))
    (λ busy. busy)
