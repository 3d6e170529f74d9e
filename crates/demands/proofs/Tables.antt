-- The table in its words and the order of the tests: where they agree row by row, what the table gives is what the tests come to.
use Prim.Native.Nat.{ℕ}
use native.Mathlib.Omega.{arith}
use mathlib.Core.Path.{◌≡◌, refl, sym, ap, ◌∙◌}
use mathlib.Core.Bool.{Bool, true, false, not}
use mathlib.Core.List.{List, [], ◌∷◌, ◌++◌}
use mathlib.Core.Logic.{inl, inr}
use Rattle.rules.specs.Order.{Test, test, clear, met, first_of}
use Rattle.rules.specs.Job.{Call, job_of}
use Rattle.rules.specs.Display.{Run, going, refused, unless, finished}
use Rattle.rules.specs.Plans.{rule_of, run_plan}
use Rattle.rules.specs.Refusals.{in_time, plan_tests, planned}
use Rattle.laws.proofs.Cases.{by_test}
use Rattle.laws.proofs.Verdicts.{unless_append}
use Rattle.demands.specs.Table.{Row, row, Gives, Quiet}
use Rattle.demands.proofs.Stops.{held_and_failed}

-- ---- The order for a plan with its last row

-- Whether a plan's run has a draw left, or waits for ever.
abbrev pub late : Run → Bool
late (going s) = not (finished s.rest)
late (refused number detail) = true

-- The tests of a plan, and after them the one of row 15.
abbrev pub late_tests : Call → ℕ → ℕ → List Test
late_tests asked plan room =
    plan_tests asked plan room ++ (test 15 0 (late (run_plan (job_of asked) (rule_of (job_of asked) plan))) ∷ [])

in_its_time : (r : Run) → in_time r ≡ unless (first_of (test 15 0 (late r) ∷ [])) r
unfolding first_of
in_its_time (going s) = by_test (finished s.rest) (λ t. rw t) (λ t. rw t)
in_its_time (refused n d) = refl

plan_in_time : (asked : Call) (plan room : ℕ)
    → planned asked plan room ≡ unless (first_of (plan_tests asked plan room)) (in_time (run_plan (job_of asked) (rule_of (job_of asked) plan)))
unfolding planned
plan_in_time asked plan room = refl

-- A plan is its run after these tests.
pub plan_is_tests : (asked : Call) (plan room : ℕ)
    → planned asked plan room ≡ unless (first_of (late_tests asked plan room)) (run_plan (job_of asked) (rule_of (job_of asked) plan))
plan_is_tests asked plan room =
    plan_in_time asked plan room
    ∙ ap (unless (first_of (plan_tests asked plan room))) (in_its_time (run_plan (job_of asked) (rule_of (job_of asked) plan)))
    ∙ sym (unless_append (plan_tests asked plan room) _ _)

-- ---- Tests and words

-- A test says what a row says: it holds where the row holds, with the row's detail.
pub record Says (holds : ℕ → Type 0) (detail : ℕ) (tested : Bool) : Type 0 where
  pub found : (d : ℕ) → holds d → (tested ≡ true) × (detail ≡ d)
  pub so : tested ≡ true → holds detail

-- A table in words and an order of tests agree row by row.
pub data Agree : List Row → List Test → Type 1 where
  end : Agree [] []
  more : {n c : ℕ} {holds : ℕ → Type 0} {tested : Bool} {rows : List Row} {tests : List Test} → Says holds c tested → Agree rows tests
      → Agree (row n holds ∷ rows) (test n c tested ∷ tests)

-- Where a row does not hold its test fails,
untested : (holds : ℕ → Type 0) (c : ℕ) (tested : Bool) → Says holds c tested → ((d : ℕ) → holds d → ⊥) → tested ≡ false
untested holds c true s fails = absurd (fails c (s.so refl))
untested holds c false s fails = refl

-- and where a test fails its row does not hold.
unsaid : (holds : ℕ → Type 0) (c : ℕ) (tested : Bool) → Says holds c tested → tested ≡ false → (d : ℕ) → holds d → ⊥
unsaid holds c tested s fails d h = held_and_failed tested (s.found d h).0 fails

-- Then what the table gives the tests come to,
pub gives_met : (rows : List Row) (tests : List Test) (n d : ℕ) → Agree rows tests → Gives rows n d → first_of tests ≡ met n d
unfolding Gives first_of
gives_met rows tests n d end g = elim g [ ]
gives_met rows tests n d (more s a) (inl (is, this)) = let (held, same) = s.found d this in rw (held, is, same)
gives_met rows tests n d (more s a) (inr (fails, g)) = rw (untested _ _ _ s fails) (gives_met _ _ n d a g)

-- what the tests come to the table gives,
pub met_gives : (rows : List Row) (tests : List Test) (n d : ℕ) → Agree rows tests → first_of tests ≡ met n d → Gives rows n d
unfolding Gives first_of
met_gives rows tests n d end e = let z : ◌≡◌ {A = ℕ} 0 1 = cc in absurd (omega arith)
met_gives rows tests n d (more {n = m} {c = c} {holds = holds} {tested = true} s a) e =
    let number : m ≡ n = cc in
    let detail : c ≡ d = cc in
    inl (number, rw (← detail) (s.so refl))
met_gives rows tests n d (more {tested = false} s a) e = inr (unsaid _ _ _ s refl, met_gives _ _ n d a e)

-- where no row holds no test does,
pub quiet_clear : (rows : List Row) (tests : List Test) → Agree rows tests → Quiet rows → first_of tests ≡ clear
unfolding Quiet first_of
quiet_clear rows tests end q = refl
quiet_clear rows tests (more s a) (fails, q) = rw (untested _ _ _ s fails) (quiet_clear _ _ a q)

-- and where no test holds no row does.
pub clear_quiet : (rows : List Row) (tests : List Test) → Agree rows tests → first_of tests ≡ clear → Quiet rows
unfolding Quiet first_of
clear_quiet rows tests end c = tt
clear_quiet rows tests (more {tested = true} s a) e = let z : ◌≡◌ {A = ℕ} 0 1 = cc in absurd (omega arith)
clear_quiet rows tests (more {tested = false} s a) e = (unsaid _ _ _ s refl, clear_quiet _ _ a e)
