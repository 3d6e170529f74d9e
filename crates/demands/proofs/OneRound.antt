-- The rounds in words; and one round is what a plan and a check were: every refusal, and every run.
use Prim.Native.Nat.{ℕ, suc, ◌+◌, ◌*◌, ◌≤◌}
use native.Mathlib.Omega.{arith}
use native.Mathlib.Nat.{mul-le-mul_right, suc-mul}
use mathlib.Core.Path.{◌≡◌, refl, sym, ap, ◌∙◌}
use mathlib.Core.Bool.{false, ◌||◌}
use mathlib.Core.List.{List, [], ◌∷◌, ◌++◌}
use lib.Arith.{digits_mod}
use lib.ListN.{length, get_or}
use lib.Dec.{ltb}
use borrow.Author.Tests.{ltb-false, le-ltb}
use Rattle.rules.specs.declared.Shape.{Shape}
use Rattle.rules.specs.Job.{Job, Call, call, most_slots, most_load_time, most_draws, shape_of, drawn_symbols, draws_of, job_of}
use Rattle.rules.specs.LoadList.{head_size, event_size, events_of}
use Rattle.rules.specs.Order.{Test, test, Verdict, clear, met, first_of}
use Rattle.rules.specs.Display.{Run, unless}
use Rattle.rules.specs.Plans.{last_plan, rule_of, run_plan}
use Rattle.rules.specs.Refusals.{job_tests, bad_rounds, call_tests, bad_list, tick_test, follows, in_time, checked, planned}
use Rattle.laws.proofs.Cases.{neither}
use Rattle.laws.proofs.Verdicts.{clear_of, first_append, otherwise}
use Rattle.laws.proofs.Rounds.{length-times, times_at, times_one}
use Rattle.demands.specs.OneRound.{RoundAfterRound, once_job, once_planned, once_checked}

-- Round after round the sheet's own draws come up.
pub round_after_round : (asked : Call) → RoundAfterRound asked
round_after_round asked =
    let row : List ℕ = drawn_symbols asked.job in
    record {
      many = length-times asked.rounds row;
      same = λ round i before inside.
          let up_to : suc round * length row ≤ asked.rounds * length row = mul-le-mul_right (length row) before in
          let next : suc round * length row ≡ round * length row + length row = suc-mul round (length row) in
          times_at asked.rounds row (round * length row + i) (omega arith)
          ∙ ap (λ (j : ℕ). get_or row j 0) (digits_mod round inside);
    }

-- A job that is taken is not refused for one round.
one_round : (job : List ℕ) → first_of (job_tests job) ≡ clear → bad_rounds (call job 1) ≡ false
unfolding job_tests bad_rounds
one_round job past =
    let s : Shape = shape_of job in
    let (within, draws) =
    neither (ltb s.slots 1 || ltb most_slots s.slots || ltb s.load_time 1 || ltb most_load_time s.load_time)
    (ltb most_draws s.draws) (clear_of (job_tests job) past 3) in
    let few : s.draws ≤ most_draws = ltb-false _ _ draws in
    le-ltb most_draws (1 * (shape_of job).draws) (omega arith)

-- So the tests of one round are those of the job, whatever comes after them.
once_tests : (job : List ℕ) (later : List Test) → first_of (call_tests (call job 1) ++ later) ≡ first_of (job_tests job ++ later)
unfolding call_tests first_of
once_tests job later =
    first_append (call_tests (call job 1)) later
    ∙ ap (λ (v : Verdict). otherwise v (first_of later)) (by_job (first_of (job_tests job)) refl)
    ∙ sym (first_append (job_tests job) later)
  where
    by_job : (v : Verdict) → first_of (job_tests job) ≡ v → first_of (call_tests (call job 1)) ≡ first_of (job_tests job)
    by_job clear past = first_append (job_tests job) _ ∙ rw (past, one_round job past)
    by_job (met n d) is = first_append (job_tests job) _ ∙ rw is

once_job_lem : (job : List ℕ) → job_of (call job 1) ≡ once_job job
once_job_lem job =
    ap (λ (draws : List ℕ). record { slots = (once_job job).slots; load_time = (once_job job).load_time; starting = (once_job job).starting; draws = draws })
    (times_one (drawn_symbols job))

-- What comes after these tests, by the number of draws, and the run after all of them.
module _ (job : List ℕ) (later : ℕ → List Test) (course : Job → Run) where
  once_draws : length (draws_of (call job 1)) ≡ length (drawn_symbols job)
  once_draws = ap length (times_one (drawn_symbols job))

  once : unless (first_of (call_tests (call job 1) ++ later (length (draws_of (call job 1))))) (course (job_of (call job 1)))
      ≡ unless (first_of (job_tests job ++ later (length (drawn_symbols job)))) (course (once_job job))
  once = rw (once_tests job (later (length (draws_of (call job 1)))), once_draws, once_job_lem job)

-- One round of a plan, and of a check.
pub planned_once : (job : List ℕ) (plan room : ℕ) → planned (call job 1) plan room ≡ once_planned job plan room
unfolding planned
planned_once job plan room =
    once job (λ n. test 6 0 (ltb last_plan plan) ∷ test 7 0 (ltb room (head_size + event_size * n)) ∷ [])
    (λ j. in_time (run_plan j (rule_of j plan)))

pub checked_once : (job list : List ℕ) (ticks slots : ℕ) → checked (call job 1) list ticks slots ≡ once_checked job list ticks slots
unfolding checked
checked_once job list ticks slots =
    once job (λ n. test 8 0 (bad_list list) ∷ test 7 0 (ltb ticks n || ltb slots n) ∷ tick_test (events_of list) ∷ [])
    (λ j. follows j (events_of list))
