-- Plan and check against the table of refusals: what refuses them is what the table gives, and a number 0 is never a refusal's.
use Prim.Native.Nat.{ℕ, ◌<◌}
use native.Mathlib.Omega.{arith}
use mathlib.Core.Path.{◌≡◌, refl, sym, ap, ◌∙◌}
use mathlib.Core.Bool.{true, false}
use mathlib.Core.List.{List}
use mathlib.Core.Logic.{◌⊎◌, inl, inr}
use lib.ListN.{length}
use lib.Dec.{ltb}
use borrow.Author.Tests.{ltb-true, lt-ltb}
use Rattle.std.specs.Prelude.{Ok}
use Rattle.rules.specs.Order.{Verdict, clear, met, first_of}
use Rattle.rules.specs.Job.{Call, Job, unrolled, job_of}
use Rattle.rules.specs.declared.Event.{Event}
use Rattle.rules.specs.LoadList.{events_of}
use Rattle.rules.specs.Display.{State, Run, going, refused, unless, start, finished, run}
use Rattle.rules.specs.Plans.{rule_of, run_plan}
use Rattle.rules.specs.Refusals.{job_tests, call_tests, read_call, follow, most_ticks, closing, follows, check_tests, checked, planned, answer_of}
use Rattle.laws.proofs.Cases.{by_test}
use Rattle.laws.proofs.Verdicts.{clear_of, never_met, GivenBy, given_exactly, clear_append}
use Rattle.laws.proofs.Jobs.{Proper, proper, clear_taken}
use Rattle.laws.proofs.Along.{Ruly, over_in_time}
use Rattle.laws.proofs.Checks.{in_order, checked_met, checked_past}
use Rattle.plan_laws.proofs.Plans.{Any, plan_done}
use Rattle.plan_laws.proofs.Keeping.{Done}
use Rattle.demands.specs.Table.{Quiet, check_rows, Refuses, under_way, beyond, held, no_symbol, endless, Met, LeftOver, Given, at_once, in_its_time}
use Rattle.demands.specs.Table.{at_the_end}
use Rattle.demands.proofs.Stops.{going_is_not_refused, held_and_failed, then_refused, run_refused, refused_on_the_way, over_anyway}
use Rattle.demands.proofs.Stops.{tick_refused, row_refuses}
use Rattle.demands.proofs.Tables.{late, late_tests, plan_is_tests, gives_met, met_gives, quiet_clear, clear_quiet}
use Rattle.demands.proofs.Words.{check_words}

-- ---- What a number says of its run

-- A call answers this number and this detail.
abbrev pub Answers : Run → ℕ → ℕ → Type 0
Answers r n d = ((answer_of r).number ≡ n) × ((answer_of r).detail ≡ d)

-- A number other than 0 is a refusal's,
pub refusal_is : (r : Run) (n d : ℕ) → (n ≡ 0 → ⊥) → Answers r n d → r ≡ refused n d
refusal_is (going s) n d some a = absurd (some (sym a.0))
refusal_is (refused m c) n d some a = let number : m ≡ n = a.0 in let detail : c ≡ d = a.1 in rw (number, detail)

-- and a refusal answers its number and detail.
pub answers_so : (r : Run) (n d : ℕ) → r ≡ refused n d → Answers r n d
answers_so r n d e = rw e (refl, refl)

-- ---- A plan

-- A plan is refused only as its tests come to it: past them all, that of row 15 too, its run is not refused.
pub plan_found : (asked : Call) (plan room n d : ℕ) → planned asked plan room ≡ refused n d → first_of (late_tests asked plan room) ≡ met n d
unfolding job_tests call_tests
plan_found asked plan room n d e = by_verdict (first_of (late_tests asked plan room)) refl (sym (plan_is_tests asked plan room) ∙ e)
  where
    by_verdict : (v : Verdict) → first_of (late_tests asked plan room) ≡ v
        → unless v (run_plan (job_of asked) (rule_of (job_of asked) plan)) ≡ refused n d → v ≡ met n d
    by_verdict (met m c) is stops = cc
    by_verdict clear is stops =
        let in_limit : late (run_plan (job_of asked) (rule_of (job_of asked) plan)) ≡ false = clear_of (late_tests asked plan room) is 15 in
        held_and_failed true refl (rw stops at in_limit)

-- A plan of a job that is taken is over in time.
in_limit : (asked : Call) (plan : ℕ) → read_call asked ≡ Ok (unrolled asked)
    → late (run_plan (job_of asked) (rule_of (job_of asked) plan)) ≡ false
in_limit asked plan taken =
    let d : Done (job_of asked) (rule_of (job_of asked) plan) Any = plan_done (job_of asked) (proper asked _ taken) plan in rw (d.ran, d.over)

-- So the test of row 15 is never the first to hold.
pub never_late : (asked : Call) (plan room d : ℕ) → first_of (late_tests asked plan room) ≡ met 15 d → ⊥
unfolding job_tests call_tests
never_late asked plan room d e =
    let g : GivenBy (late_tests asked plan room) 15 d = (given_exactly (late_tests asked plan room) 15 d refl).0 e in
    let taken : read_call asked ≡ Ok (unrolled asked) = clear_taken asked (clear_append (call_tests asked) _ g.first).0 in
    held_and_failed _ g.holds (in_limit asked plan taken)

-- ---- A check

-- A check whose tests before time begins all fail: its job is taken, and its events are in order.
clear_so : (asked : Call) (list : List ℕ) (ticks slots : ℕ) → first_of (check_tests asked list ticks slots) ≡ clear
    → (read_call asked ≡ Ok (unrolled asked)) × Ruly 0 (events_of list)
unfolding job_tests call_tests
clear_so asked list ticks slots e =
    (clear_taken asked (clear_append (call_tests asked) _ e).0, in_order (events_of list) (clear_of (check_tests asked list ticks slots) e 9))

-- What time meets along a list, of a job that is taken and with the events in order.
module _ (job : Job) (events : List Event) (good : Proper job) (ordered : Ruly 0 events) where
  -- The run is over by the ticks that a check allows it.
  over_by_then : (s : State) → run job (follow events) (most_ticks job) (start job) ≡ going s → finished s.rest ≡ true
  over_by_then s ran = ap finished (over_in_time job events good ordered s ran)

  -- A row that time meets refuses the run,
  met_refuses : (n d : ℕ) → Met job events n d → follows job events ≡ refused n d
  met_refuses n d m =
      rw (refused_on_the_way job (follow events) (most_ticks job) over_by_then m.ticks m.state n d m.ran m.more
      (row_refuses job events m.state n d m.refuses))

  -- and so does an event left at the end.
  left_refuses : (d : ℕ) → LeftOver job events d → follows job events ≡ refused 14 d
  left_refuses d l =
      let left : l.state.loads < length events = rw l.first l.left in
      rw (over_anyway job (follow events) (most_ticks job) over_by_then l.ticks l.state l.ran l.over, l.over, lt-ltb _ _ left, l.first)

  -- Nothing else does.
  refused_so : (n d : ℕ) → follows job events ≡ refused n d → Met job events n d ⊎ ((n ≡ 14) × LeftOver job events d)
  refused_so n d e = by_end (then_refused (run job (follow events) (most_ticks job) (start job)) (closing events) n d e)
    where
      by_end : (run job (follow events) (most_ticks job) (start job) ≡ refused n d)
          ⊎ ((s : State) × (run job (follow events) (most_ticks job) (start job) ≡ going s) × (closing events s ≡ refused n d))
          → Met job events n d ⊎ ((n ≡ 14) × LeftOver job events d)
      by_end (inl stops) =
          let (u, s, ran, more, now) = run_refused job (follow events) (most_ticks job) (start job) n d stops in
          inl (record { ticks = u; state = s; ran = ran; more = more; refuses = tick_refused job events s n d now })
      by_end (inr (s, ran, closed)) =
          by_test (ltb s.loads (length events))
          (λ t.
          let same : refused 14 s.loads ≡ refused n d = rw (over_by_then s ran, t) at closed in
          let number : n ≡ 14 = cc in
          let detail : s.loads ≡ d = cc in
          let left : s.loads < length events = ltb-true _ _ t in
          inr (number, record { ticks = most_ticks job; state = s; ran = ran; over = over_by_then s ran; left = rw (← detail) left; first = detail }))
          (λ t. going_is_not_refused s n d (rw (over_by_then s ran, t) at closed))

-- A check is its run along the list after its tests.
check_is_tests : (asked : Call) (list : List ℕ) (ticks slots : ℕ)
    → checked asked list ticks slots ≡ unless (first_of (check_tests asked list ticks slots)) (follows (job_of asked) (events_of list))
unfolding checked
check_is_tests asked list ticks slots = refl

-- A check is refused only as the table gives it,
pub check_given : (asked : Call) (list : List ℕ) (ticks slots n d : ℕ) → checked asked list ticks slots ≡ refused n d
    → Given asked list ticks slots n d
check_given asked list ticks slots n d e = by_verdict (first_of (check_tests asked list ticks slots)) refl (sym (check_is_tests asked list ticks slots) ∙ e)
  where
    by_time : Quiet (check_rows asked list ticks slots)
        → Met (job_of asked) (events_of list) n d ⊎ ((n ≡ 14) × LeftOver (job_of asked) (events_of list) d) → Given asked list ticks slots n d
    by_time q (inl m) = in_its_time q m
    by_time q (inr (is, l)) = rw is (at_the_end q l)

    by_verdict : (v : Verdict) → first_of (check_tests asked list ticks slots) ≡ v
        → unless v (follows (job_of asked) (events_of list)) ≡ refused n d → Given asked list ticks slots n d
    by_verdict (met m c) is stops = at_once (met_gives _ _ n d (check_words asked list ticks slots) (is ∙ cc))
    by_verdict clear is stops =
        let (taken, ordered) = clear_so asked list ticks slots is in
        by_time (clear_quiet _ _ (check_words asked list ticks slots) is)
        (refused_so (job_of asked) (events_of list) (proper asked _ taken) ordered n d stops)

-- and what the table gives refuses it.
pub given_check : (asked : Call) (list : List ℕ) (ticks slots n d : ℕ) → Given asked list ticks slots n d
    → checked asked list ticks slots ≡ refused n d
given_check asked list ticks slots n d (at_once g) =
    checked_met asked list ticks slots n d (gives_met _ _ n d (check_words asked list ticks slots) g)
given_check asked list ticks slots n d (in_its_time q m) =
    let c = quiet_clear _ _ (check_words asked list ticks slots) q in
    let (taken, ordered) = clear_so asked list ticks slots c in
    checked_past asked list ticks slots c ∙ met_refuses (job_of asked) (events_of list) (proper asked _ taken) ordered n d m
given_check asked list ticks slots n d (at_the_end q l) =
    let c = quiet_clear _ _ (check_words asked list ticks slots) q in
    let (taken, ordered) = clear_so asked list ticks slots c in
    checked_past asked list ticks slots c ∙ left_refuses (job_of asked) (events_of list) (proper asked _ taken) ordered d l

-- ---- Number 0, and no number that the table does not have

-- No row that time meets has the number 0,
refuses_number : (job : Job) (events : List Event) (s : State) (n d : ℕ) → Refuses job events s n d → n ≡ 0 → ⊥
refuses_number job events s n d (under_way q x asks busy) z = omega arith
refuses_number job events s n d (beyond q x asks quiet far) z = omega arith
refuses_number job events s n d (held q x asks quiet slot there) z = omega arith
refuses_number job events s n d (no_symbol q x asks quiet slot mark) z = omega arith
refuses_number job events s n d (endless quiet unheld left) z = omega arith

-- and no row of the whole table has.
check_number : (asked : Call) (list : List ℕ) (ticks slots n d : ℕ) → Given asked list ticks slots n d → n ≡ 0 → ⊥
unfolding job_tests call_tests
check_number asked list ticks slots n d (at_once g) z =
    never_met (check_tests asked list ticks slots) 0 d refl (gives_met _ _ n d (check_words asked list ticks slots) g ∙ ap (λ (m : ℕ). met m d) z)
check_number asked list ticks slots n d (in_its_time q m) z = refuses_number (job_of asked) (events_of list) m.state n d m.refuses z
check_number asked list ticks slots n d (at_the_end q l) z = omega arith

-- So where a call answers 0, it was not refused.
goes : (r : Run) → ((n d : ℕ) → r ≡ refused n d → n ≡ 0 → ⊥) → (answer_of r).number ≡ 0 → (s : State) × (r ≡ going s)
goes (going s) refusal e = (s, refl)
goes (refused n d) refusal e = absurd (refusal n d refl e)

-- No test of a plan has the number 0.
no_zero : (asked : Call) (plan room d : ℕ) → first_of (late_tests asked plan room) ≡ met 0 d → ⊥
unfolding job_tests call_tests
no_zero asked plan room d e = never_met (late_tests asked plan room) 0 d refl e

-- A plan that answers 0 went to its last draw.
pub plan_goes : (asked : Call) (plan room : ℕ) → (answer_of (planned asked plan room)).number ≡ 0 → (s : State) × (planned asked plan room ≡ going s)
plan_goes asked plan room e =
    goes (planned asked plan room)
    (λ n d stops z. no_zero asked plan room d (plan_found asked plan room n d stops ∙ ap (λ (m : ℕ). met m d) z)) e

-- A check that answers 0 went to its last draw.
pub check_goes : (asked : Call) (list : List ℕ) (ticks slots : ℕ) → (answer_of (checked asked list ticks slots)).number ≡ 0
    → (s : State) × (checked asked list ticks slots ≡ going s)
check_goes asked list ticks slots e =
    goes (checked asked list ticks slots)
    (λ n d stops. check_number asked list ticks slots n d (check_given asked list ticks slots n d stops)) e
