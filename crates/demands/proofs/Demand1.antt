-- Demand 1, over all bytes and lengths: a plan and a check answer in full, or with the one refusal that the table gives.
-- To be held beside specs/Table.antt, which is the table of "Refusal numbers" of document 01.
use Prim.Native.Nat.{ℕ, ◌+◌, ◌*◌, ◌≤◌}
use native.Mathlib.Omega.{arith}
use mathlib.Core.Path.{◌≡◌, refl, sym, ◌∙◌}
use mathlib.Core.List.{List}
use mathlib.Core.Logic.{◌↔◌, ◌⊎◌, inl, inr}
use lib.ListN.{length}
use borrow.Author.Tests.{ltb-false}
use Rattle.std.specs.Prelude.{Ok}
use Rattle.rules.specs.Order.{clear, first_of}
use Rattle.rules.specs.Job.{Call, unrolled, draws_of, job_of}
use Rattle.rules.specs.LoadList.{head_size, event_size}
use Rattle.rules.specs.Display.{State, Run, going, refused}
use Rattle.rules.specs.Plans.{last_plan}
use Rattle.rules.specs.Refusals.{job_tests, call_tests, read_call, checked, short_plan, planned, answer_of, lent, ticks_of, slots_of, tick_bytes, written_by}
use Rattle.plan_laws.proofs.Plans.{plan_done, planned_done}
use Rattle.laws.proofs.Verdicts.{clear_of, clear_append, unless_going}
use Rattle.laws.proofs.Jobs.{proper, clear_taken}
use Rattle.demands.specs.Table.{Gives, plan_rows, Given, NoCounts}
use Rattle.demands.proofs.Tables.{late_tests, plan_is_tests, gives_met, met_gives}
use Rattle.demands.proofs.Words.{plan_words}
use Rattle.demands.proofs.Refusing.{Answers, refusal_is, answers_so, plan_found, check_given, given_check, never_late, plan_goes, check_goes}

-- ---- The table, exactly

-- A plan answers a refusal's number and detail exactly when that row of the table holds and no row above it does.
pub plan_refusals : (asked : Call) (plan room n d : ℕ) → (n ≡ 0 → ⊥)
    → Answers (planned asked plan room) n d ↔ Gives (plan_rows asked plan room) n d
plan_refusals asked plan room n d some = (
  λ a. met_gives _ _ n d (plan_words asked plan room) (plan_found asked plan room n d (refusal_is (planned asked plan room) n d some a)),
  λ g. answers_so (planned asked plan room) n d (plan_is_tests asked plan room ∙ rw (gives_met _ _ n d (plan_words asked plan room) g)),
)

-- A check answers a refusal's number and detail exactly when the table gives them: 1 to 5, 8, 7 and 9 at once, 10 to 13 as time meets
-- them, 14 at the end.
pub check_refusals : (asked : Call) (list : List ℕ) (ticks slots n d : ℕ) → (n ≡ 0 → ⊥)
    → Answers (checked asked list ticks slots) n d ↔ Given asked list ticks slots n d
check_refusals asked list ticks slots n d some = (
  λ a. check_given asked list ticks slots n d (refusal_is (checked asked list ticks slots) n d some a),
  λ g. answers_so (checked asked list ticks slots) n d (given_check asked list ticks slots n d g),
)

-- Every plan answers: with number 0 and detail 0, or with what its table gives.
pub plan_always : (asked : Call) (plan room : ℕ)
    → Answers (planned asked plan room) 0 0
    ⊎ ((n d : ℕ) × Answers (planned asked plan room) n d × Gives (plan_rows asked plan room) n d)
plan_always asked plan room = by_run (planned asked plan room) refl
  where
    by_run : (r : Run) → planned asked plan room ≡ r → Answers r 0 0 ⊎ ((n d : ℕ) × Answers r n d × Gives (plan_rows asked plan room) n d)
    by_run (going s) e = inl (refl, refl)
    by_run (refused n d) e = inr (n, d, (refl, refl), met_gives _ _ n d (plan_words asked plan room) (plan_found asked plan room n d e))

-- Every check answers: with number 0 and detail 0, or with what the table gives.
pub check_always : (asked : Call) (list : List ℕ) (ticks slots : ℕ)
    → Answers (checked asked list ticks slots) 0 0
    ⊎ ((n d : ℕ) × Answers (checked asked list ticks slots) n d × Given asked list ticks slots n d)
check_always asked list ticks slots = by_run (checked asked list ticks slots) refl
  where
    by_run : (r : Run) → checked asked list ticks slots ≡ r → Answers r 0 0 ⊎ ((n d : ℕ) × Answers r n d × Given asked list ticks slots n d)
    by_run (going s) e = inl (refl, refl)
    by_run (refused n d) e = inr (n, d, (refl, refl), check_given asked list ticks slots n d e)

-- Refusal 15 is never given: every plan of a job that is taken is over long before the last tick that a list can name.
pub plan_never_late : (asked : Call) (plan room : ℕ) → (answer_of (planned asked plan room)).number ≡ 15 → ⊥
plan_never_late asked plan room e =
    never_late asked plan room (answer_of (planned asked plan room)).detail
    (plan_found asked plan room 15 _ (refusal_is (planned asked plan room) 15 _ (λ z. omega arith) (e, refl)))

-- A plan answers 0 exactly when its job is accepted, its number is one of the four and room is lent.
pub plan_accepts : (asked : Call) (plan room : ℕ)
    → ((answer_of (planned asked plan room)).number ≡ 0)
    ↔ ((read_call asked ≡ Ok (unrolled asked)) × (plan ≤ last_plan) × (head_size + event_size * length (draws_of asked) ≤ room))
unfolding job_tests call_tests short_plan
plan_accepts asked plan room = (
  λ e.
      let (s, ran) = plan_goes asked plan room e in
      by_tests (unless_going (first_of (late_tests asked plan room)) _ s (sym (plan_is_tests asked plan room) ∙ ran)).0,
  λ h.
      let (taken, known, enough) = h in
      let d = plan_done (job_of asked) (proper asked _ taken) plan in
      rw (planned_done asked (unrolled asked) plan room taken known enough d),
)
  where
    by_tests : first_of (late_tests asked plan room) ≡ clear
        → (read_call asked ≡ Ok (unrolled asked)) × (plan ≤ last_plan) × (head_size + event_size * length (draws_of asked) ≤ room)
    by_tests past =
        let fails = clear_of (late_tests asked plan room) past in
        (clear_taken asked (clear_append (call_tests asked) _ past).0, ltb-false _ _ (fails 6), ltb-false _ _ (fails 7))

-- ---- A full answer, or a refusal and nothing else

-- What a call answers, and what it leaves in lent memory.
--     accepted    number 0 comes with detail 0
--     counts      a refusal brings no counts
--     room        a refused plan leaves the room as it was
--     ticks       a refused check leaves the buffer for ticks as it was, whether it holds ticks or, for a host in C, their bytes
--     slots       and the buffer for slots
pub record FullOrRefused (r : Run) : Type 0 where
  pub accepted : (answer_of r).number ≡ 0 → (answer_of r).detail ≡ 0
  pub counts : ((answer_of r).number ≡ 0 → ⊥) → NoCounts (answer_of r)
  pub room : ((answer_of r).number ≡ 0 → ⊥) → (before : List ℕ) → lent (written_by r) before ≡ before
  pub ticks : ((answer_of r).number ≡ 0 → ⊥) → (before : List ℕ)
      → (lent (ticks_of r) before ≡ before) × (lent (tick_bytes (ticks_of r)) before ≡ before)
  pub slots : ((answer_of r).number ≡ 0 → ⊥) → (before : List ℕ) → lent (slots_of r) before ≡ before

-- So it is with every run whose number 0 is no refusal's.
whole : (r : Run) → ((answer_of r).number ≡ 0 → (s : State) × (r ≡ going s)) → FullOrRefused r
unfolding tick_bytes
whole (going s) goes =
    record {
      accepted = λ e. refl;
      counts = λ some. absurd (some refl);
      room = λ some. absurd (some refl);
      ticks = λ some. absurd (some refl);
      slots = λ some. absurd (some refl);
    }
whole (refused n d) goes =
    record {
      accepted = λ e. let (s, ran) = goes e in let z : ◌≡◌ {A = ℕ} 0 1 = cc in absurd (omega arith);
      counts = λ some. record { elapsed = refl; waits = refl; loads = refl; longest = refl };
      room = λ some before. refl;
      ticks = λ some before. (refl, refl);
      slots = λ some before. refl;
    }

-- Of every row of bytes, every plan's number and every room, a plan answers in full or is refused and leaves the room as it was.
pub plan_full_or_refused : (asked : Call) (plan room : ℕ) → FullOrRefused (planned asked plan room)
plan_full_or_refused asked plan room = whole (planned asked plan room) (plan_goes asked plan room)

-- Of every two rows of bytes and every number of places, a check answers in full or is refused and leaves both buffers as they were.
pub check_full_or_refused : (asked : Call) (list : List ℕ) (ticks slots : ℕ) → FullOrRefused (checked asked list ticks slots)
check_full_or_refused asked list ticks slots = whole (checked asked list ticks slots) (check_goes asked list ticks slots)
