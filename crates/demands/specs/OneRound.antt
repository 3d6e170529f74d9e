-- The rounds in words, and a plan and a check of a sheet that is drawn once, said with no rounds: what they were before document 02, Five.
-- The latter are here to be held against one round of the rules, and nothing else goes by them.
use Rattle.std.specs.Prelude.{ℕ, ◌+◌, ◌*◌, ◌<◌, ◌≡◌, ◌||◌, List, [], ◌∷◌, ◌++◌, length, get_or, ltb}
use Rattle.rules.specs.Job.{Job, Call, shape_of, starting_symbols, drawn_symbols, draws_of}
use Rattle.rules.specs.LoadList.{head_size, event_size, events_of}
use Rattle.rules.specs.Order.{Test, test, first_of}
use Rattle.rules.specs.Display.{Run, unless}
use Rattle.rules.specs.Plans.{last_plan, rule_of, run_plan}
use Rattle.rules.specs.Refusals.{job_tests, bad_list, tick_test, follows, in_time}

-- The draws of a call: r times n of them, and draw number i of each round is the sheet's draw i.
pub record RoundAfterRound (asked : Call) : Type 0 where
  pub many : length (draws_of asked) ≡ asked.rounds * length (drawn_symbols asked.job)
  pub same : (round i : ℕ) → round < asked.rounds → i < length (drawn_symbols asked.job)
      → get_or (draws_of asked) (round * length (drawn_symbols asked.job) + i) 0 ≡ get_or (drawn_symbols asked.job) i 0

-- The job of the model with the sheet's own draws.
abbrev pub once_job : List ℕ → Job
once_job job =
    record {
      slots = (shape_of job).slots;
      load_time = (shape_of job).load_time;
      starting = starting_symbols job;
      draws = drawn_symbols job;
    }

-- A plan: 1 to 5, 6, and 7 by the sheet's own draws; then its run.
abbrev pub once_plan_tests : List ℕ → ℕ → ℕ → List Test
once_plan_tests job plan room =
    job_tests job
    ++ (test 6 0 (ltb last_plan plan)
    ∷ test 7 0 (ltb room (head_size + event_size * length (drawn_symbols job)))
    ∷ [])

abbrev pub once_planned : List ℕ → ℕ → ℕ → Run
once_planned job plan room = unless (first_of (once_plan_tests job plan room)) (in_time (run_plan (once_job job) (rule_of (once_job job) plan)))

-- A check: 1 to 5, 8, 7 by the sheet's own draws, 9; then its run.
abbrev pub once_check_tests : (job list : List ℕ) (ticks slots : ℕ) → List Test
once_check_tests job list ticks slots =
    job_tests job
    ++ (test 8 0 (bad_list list)
    ∷ test 7 0 (ltb ticks (length (drawn_symbols job)) || ltb slots (length (drawn_symbols job)))
    ∷ tick_test (events_of list)
    ∷ [])

abbrev pub once_checked : (job list : List ℕ) (ticks slots : ℕ) → Run
once_checked job list ticks slots = unless (first_of (once_check_tests job list ticks slots)) (follows (once_job job) (events_of list))
