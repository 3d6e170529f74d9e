-- The order of refusals of `why` as the code meets it: those of a check, then 18.
use Prim.Native.Nat.{ℕ, ◌≤◌, ◌<◌}
use mathlib.Core.Path.{◌≡◌, refl, sym, ap, subst, ◌∙◌}
use mathlib.Core.Bool.{false}
use mathlib.Core.List.{List}
use lib.ListN.{length, get_or}
use borrow.Author.Tests.{lt-ltb, le-ltb}
use Rattle.std.specs.Prelude.{Some, Result, Ok, Err}
use Rattle.rules.specs.declared.refusal.Refusal.{Refusal}
use Rattle.rules.specs.declared.refusal.Refusal.TheVariants.{EventTick, NoSuchDraw}
use Rattle.rules.specs.declared.Account.{Account}
use Rattle.rules.specs.declared.Unrolled.{Unrolled}
use Rattle.rules.specs.Refusing.{refusal_number, refusal_detail}
use Rattle.rules.specs.Order.{clear, met, first_of}
use Rattle.rules.specs.Job.{Call, most_draws, draws_of, job_of}
use Rattle.rules.specs.declared.Event.{Event}
use Rattle.rules.specs.LoadList.{events_of}
use Rattle.rules.specs.Display.{refused}
use Rattle.rules.specs.Refusals.{read_call, read_list, first_bad_tick, short_check, check_tests, checked, follows}
use Rattle.rules.specs.Why.{why}
use Rattle.laws.proofs.Verdicts.{gives, end, step}
use Rattle.laws.proofs.Jobs.{limits}
use Rattle.laws.proofs.Checks.{checked_met, checked_past}
use Rattle.sheet.specs.Ticks.{in_order}
use Rattle.sheet.proofs.Lists.{same_events, at_order, past_order, ticks_hold, ticks_broken}
use Rattle.checker.specs.Follow.{events_along}
use Rattle.checker.specs.Accounts.{ToldSo, RanSo, AccountedFor, reason_in}
use Rattle.checker.proofs.Answers.{room_test_lem, past_both}

module _ (asked : Call) (list : List ℕ) (draw : ℕ) where
  -- A test of the check is met.
  pub why_shut : (e : Refusal) → first_of (check_tests asked list most_draws most_draws) ≡ met (refusal_number e) (refusal_detail e)
      → reason_in (Err e) ≡ why asked list draw
  why_shut e stops = rw (checked_met asked list most_draws most_draws (refusal_number e) (refusal_detail e) stops)

  -- Once the job was taken and the list was read, its bytes being these, there is room for every draw, and the order of the events is left.
  module _ (shape : Unrolled) (count : ℕ) (bytes : List ℕ) (taken : read_call asked ≡ Ok shape) (read : read_list list ≡ Some count)
      (same : bytes ≡ list) where
    first : ℕ
    first = first_bad_tick 0 (events_along count list)

    room : false ≡ short_check asked most_draws most_draws
    room =
        let few : shape.draws ≤ most_draws = (limits asked shape taken).few_draws in
        room_test_lem asked (read_call asked) shape most_draws most_draws false refl taken (rw (le-ltb most_draws shape.draws few))

    pub why_order : (why' : Refusal) → Err why' ≡ in_order count bytes → reason_in (Err why') ≡ why asked list draw
    unfolding first
    why_order why' e =
        let (out, is) = ticks_broken count list why' (rw same at e) in
        rw is
        (why_shut (EventTick first)
        (gives _ _ (past_both asked list shape count taken read (step false room refl (at_order list (read_list list) count first refl read refl out)))))

    -- Past its tests it is the run along the list.
    module _ (done : Unit {0}) (right : Ok done ≡ in_order count bytes) (again : Call) (is_again : asked ≡ again) where
      past : first_of (check_tests asked list most_draws most_draws) ≡ clear
      unfolding first
      past =
          let over : count ≤ first = ticks_hold count list done (rw same at right) in
          gives _ _
          (past_both asked list shape count taken read (step false room refl (past_order list (read_list list) count first refl read refl over end)))

      so : (r : Result Account Refusal) → AccountedFor again count bytes draw r
          → RanSo (job_of asked) (events_of list) draw (get_or (draws_of asked) draw 0) r
      so r accounted =
          subst (λ (a : Call). RanSo (job_of a) (events_of list) draw (get_or (draws_of a) draw 0) r) (sym is_again)
          (subst
          (λ (l : List Event). RanSo (job_of again) l draw (get_or (draws_of again) draw 0) r)
          (ap (events_along count) same ∙ sym (same_events list (read_list list) count refl read)) accounted)

      runs : checked asked list most_draws most_draws ≡ follows (job_of asked) (events_of list)
      runs = checked_past asked list most_draws most_draws past

      many : length (draws_of asked) ≡ shape.draws
      many = (limits asked shape taken).many_draws

      -- The run is refused.
      pub why_refused : (e : Refusal) → AccountedFor again count bytes draw (Err e) → reason_in (Err e) ≡ why asked list draw
      why_refused e accounted =
          let halts : follows (job_of asked) (events_of list) ≡ refused (refusal_number e) (refusal_detail e) = so (Err e) accounted in
          rw (runs, halts)

      module _ (account : Account) (accounted : AccountedFor again count bytes draw (Ok account)) where
        told_so : ToldSo (job_of asked) (events_of list) draw (get_or (draws_of asked) draw 0) account
        told_so = so (Ok account) accounted

        -- It is accepted, and has no such draw: 18.
        pub why_no_draw : shape.draws ≤ draw → reason_in (Err NoSuchDraw) ≡ why asked list draw
        why_no_draw beyond =
            let (s, goes) = told_so.goes in
            rw (runs, goes, le-ltb draw (length (draws_of asked)) (rw many beyond))

        -- It has the draw.
        pub why_told : draw < shape.draws → reason_in (Ok account) ≡ why asked list draw
        why_told inside =
            let (s, goes) = told_so.goes in
            let within : draw < length (draws_of asked) = rw many inside in
            rw (runs, goes, lt-ltb draw (length (draws_of asked)) within, ← told_so.accounts within)
