-- Conservative has the loads of opt to work off, any other plan none.
use Rattle.std.proofs.Common.{◌≡◌, ℕ, List, length, ◌∙◌, arith}
use Rattle.rules.specs.Job.{Call, call, most_draws}
use Rattle.planner.specs.Runs.{Prepared, Over}
use Rattle.planner.proofs.Planning.{few_loads, loads_by_plan, never_refused, not_conservative}
use Rattle.planner.proofs.answer.run_taken.Goals as goal

-- A plan that works off no loads is ready.
alone : (plan : ℕ) (asked : Call) (loads : List ℕ) → length loads ≡ most_draws → (plan ≡ 1 → ⊥) → Prepared plan asked 0 loads
alone plan asked loads places other =
    record { places = places; ordered = record { few = omega arith; of_opt = λ one. absurd (other one) } }

pub run_from_start-requires : goal.run_from_start-requires
run_from_start-requires c = alone _ _ _ c.requires (not_conservative c.args.plan c.in_default.not-Conservative)

pub run_from_start-requires-2 : goal.run_from_start-requires-2
run_from_start-requires-2 c = alone _ _ _ c.requires (λ one. omega arith)

pub run_from_start-requires-3 : goal.run_from_start-requires-3
run_from_start-requires-3 c =
    let job = c.args.job in
    let asked = call job.bytes.now job.shape.rounds in
    let loads = c.run_from_start-2.new.loads in
    let over : Over 2 asked loads c.in_ok-opt.opt = c.in_ok-opt.ensures in
    let places : length loads ≡ most_draws = c.run_from_start-2.auto.loads ∙ c.requires in
    let few = few_loads asked job.shape job.taken 2 loads c.in_ok-opt.opt over in
    record {
      places = places;
      ordered = record { few = omega arith; of_opt = λ one. loads_by_plan asked job.shape job.taken 2 loads c.in_ok-opt.opt over };
    }

-- Opt is always over in time.
pub returns-in_err-opt : goal.returns-in_err-opt
returns-in_err-opt c = absurd (never_refused _ c.args.job.shape c.args.job.taken 2 _ _ c.in_err-opt.ensures)
