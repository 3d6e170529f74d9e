-- Why a draw waited: a run tells the account of a draw that the list alone gives, and no other. (Document 02, Six)
-- To be held beside specs/Reasons.antt, which says from the list alone what an account is.
use Prim.Native.Nat.{ℕ, zero, suc, ◌+◌, ◌-◌, ◌<◌, ◌≤◌}
use native.Mathlib.Omega.{arith}
use mathlib.Core.Path.{◌≡◌, refl, sym, ap, ◌∙◌}
use mathlib.Core.List.{List, [], map}
use mathlib.Core.Logic.{◌↔◌}
use lib.ListN.{length, get_or}
use lib.Dec.{ltb}
use borrow.Author.Tests.{lt-ltb, ltb-true, le-ltb}
use Rattle.rules.specs.declared.Account.{Account}
use Rattle.rules.specs.declared.Reason.{Reason}
use Rattle.rules.specs.Job.{Call, Job, most_draws, draws_of, job_of}
use Rattle.rules.specs.declared.Event.{Event}
use Rattle.rules.specs.LoadList.{events_of}
use Rattle.rules.specs.Display.{State, Run, going, refused, then, start, finished, tick, run}
use Rattle.rules.specs.Refusals.{follow, tick_of, slot_of, ticks_of, slots_of, answer_of, most_ticks, checked}
use Rattle.rules.specs.Why.{untold, told, account_of, asks_draw, reason_of, why}
use Rattle.laws.proofs.Cases.{by_test}
use Rattle.laws.proofs.Moves.{then_going, tick_kept, is_more}
use Rattle.laws.proofs.Jobs.{Proper, proper}
use Rattle.laws.proofs.Sane.{SaneState, sane, remaining}
use Rattle.laws.proofs.Checks.{Accepted, accepted}
use Rattle.demands.specs.Held.{from}
use Rattle.demands.specs.Reasons.{last_of, account_by, Explains}
use Rattle.demands.proofs.Holding.{HoldingBetween}
use Rattle.demands.proofs.Witness.{WitnessedState, witnessing_moves, witnessing_start, witnessed}
use Rattle.demands.proofs.Only.{looked_alike}
use Rattle.demands.proofs.Exactly.{accepted_is_right, right_is_accepted, right_is_reported}
use Rattle.demands.proofs.Refusing.{check_goes}
use Rattle.demands.proofs.Telling.{Told, still, done, told_tick, no_more}

-- ---- The account of a run

module _ (job : Job) (events : List Event) (p : Proper job) (i x : ℕ) (is_drawn : x ≡ get_or job.draws i 0) where
  -- Once a draw is made, later draws change neither its tick nor the first tick at which it was looked for.
  made_stays : (s end : State) (a : Account) → WitnessedState job events s → WitnessedState job events end → i < s.next → i < end.next
      → a ≡ account_by job events x (from (map tick_of s.made) i) (get_or (map tick_of s.made) i 0)
      → a ≡ account_by job events x (from (map tick_of end.made) i) (get_or (map tick_of end.made) i 0)
  made_stays s end a w v made made_too is =
      let alike : (j : ℕ) → j ≤ i + 1 → from (map tick_of s.made) j ≡ from (map tick_of end.made) j =
      looked_alike job events (i + 1) (map tick_of s.made) (map slot_of s.made) (map tick_of end.made) (map slot_of end.made)
      (λ j h. w.made j (omega arith)) (λ j h. v.made j (omega arith)) in
      let next : get_or (map tick_of s.made) i 0 + 1 ≡ get_or (map tick_of end.made) i 0 + 1 = alike (suc i) (omega arith) in
      let at : get_or (map tick_of s.made) i 0 ≡ get_or (map tick_of end.made) i 0 = omega arith in
      rw (← at, ← alike i (omega arith)) is

  -- A run that makes the draw tells the account that the list alone gives for its tick.
  told_run : (t : ℕ) (s end : State) (a : Account) → HoldingBetween job events s × WitnessedState job events s → Told job events i x s a
      → run job (follow events) t s ≡ going end → i < end.next → WitnessedState job events end
      → told job (follow events) i x t s a
      ≡ account_by job events x (from (map tick_of end.made) i) (get_or (map tick_of end.made) i 0)
  unfolding told run
  told_run zero s end a known (still early h) ran far v =
      let same : s ≡ end = cc in
      let next : s.next ≡ end.next = ap (λ (z : State). z.next) same in
      absurd (omega arith)
  told_run zero s end a known (done made is) ran far v = made_stays s end a known.1 v made far is
  told_run (suc t) s end a known (done made is) ran far v = rw (lt-ltb i s.next made) (made_stays s end a known.1 v made far is)
  told_run (suc t) s end a known (still early h) ran far v =
      by_test (finished s.rest)
      (λ f.
      let same : s ≡ end = let over : going s ≡ going end = rw f at ran in cc in
      let next : s.next ≡ end.next = ap (λ (z : State). z.next) same in
      absurd (omega arith))
      (λ f.
      let more : 0 < length s.rest = is_more s.rest f in
      let on : then (tick job (follow events) s) (run job (follow events) t) ≡ going end = rw f at ran in
      let (s₁, first, later) = then_going (tick job (follow events) s) (run job (follow events) t) end on in
      rw (le-ltb i s.next early, first)
      (told_run t s₁ end _
      (tick_kept job (follow events) _ _ _ _ (witnessing_moves job events p.some_load_time) s s₁ more known first)
      (told_tick job events p.some_load_time i x is_drawn s s₁ a early more known h first)
      later far v))

  -- At the start nothing is told.
  told_start : Told job events i x (start job) untold
  unfolding last_of
  told_start =
      still (omega arith)
      (record {
        brought_is = refl;
        taken_is = refl;
        none_yet = λ h. refl;
        since = λ e. no_more job events x (from [] i) (0 - from [] i) (omega arith);
      })

-- Of a list that a check accepts, the account that the run tells of a draw is the one that the list alone gives for the sheet's ticks.
pub accounts_agree : (asked : Call) (list : List ℕ) (draw : ℕ) (s : State) → checked asked list most_draws most_draws ≡ going s
    → draw < length (draws_of asked)
    → account_of asked list draw
    ≡ account_by (job_of asked) (events_of list) (get_or (draws_of asked) draw 0) (from (ticks_of (checked asked list most_draws most_draws)) draw)
    (get_or (ticks_of (checked asked list most_draws most_draws)) draw 0)
accounts_agree asked list draw s e within =
    let job : Job = job_of asked in
    let events : List Event = events_of list in
    let a : Accepted asked list most_draws most_draws s = accepted asked list most_draws most_draws s e in
    let p : Proper job = proper asked _ a.job_taken in
    let w : WitnessedState job events s = witnessed job events p a.ordered (most_ticks job) s a.ran in
    let g : SaneState job s = sane job (follow events) p (most_ticks job) s a.ran in
    let none : length s.rest ≡ 0 = ap length a.over in
    let left : s.next + length s.rest ≡ length (draws_of asked) = remaining job s.next s.rest s.slots s.loading g in
    let x : ℕ = get_or (draws_of asked) draw 0 in
    rw e
    (told_run job events p draw x refl (most_ticks job) (start job) s untold (witnessing_start job events p a.ordered)
    (told_start job events p draw x refl) a.ran (omega arith) w)

-- ---- The accounts of all draws

-- An account is answered exactly when it is right by the list alone.
pub explained_exactly : (asked : Call) (list : List ℕ) (draw : ℕ) (account : Account)
    → (why asked list draw ≡ record { number = 0; detail = 0; account = account }) ↔ Explains asked list draw account
explained_exactly asked list draw account = (
  λ h. by_run (checked asked list most_draws most_draws) refl h,
  λ r.
      let (s, e) = right_is_accepted asked list most_draws most_draws r.ticks r.slots r.answer r.right in
      let (same_ticks, same_slots, same_answer) =
      right_is_reported asked list most_draws most_draws r.ticks r.slots r.answer r.right in
      let is : account_of asked list draw ≡ account =
      (rw same_ticks at (accounts_agree asked list draw s e r.within)) ∙ sym r.accounts in
      rw (e, lt-ltb draw (length (draws_of asked)) r.within) (λ k. record { number = 0; detail = 0; account = is k }),
)
  where
    by_run : (ran : Run) → checked asked list most_draws most_draws ≡ ran
        → reason_of (account_of asked list draw) (then ran (asks_draw asked draw)) ≡ record { number = 0; detail = 0; account = account }
        → Explains asked list draw account
    by_run (going s) e h =
        by_test (ltb draw (length (draws_of asked)))
        (λ t.
        let within : draw < length (draws_of asked) = ltb-true _ _ t in
        let given : reason_of (account_of asked list draw) (going s) ≡ record { number = 0; detail = 0; account = account } = rw t at h in
        record {
          ticks = ticks_of (checked asked list most_draws most_draws);
          slots = slots_of (checked asked list most_draws most_draws);
          answer = answer_of (checked asked list most_draws most_draws);
          right = accepted_is_right asked list most_draws most_draws s e;
          within = within;
          accounts = sym (ap (λ (r : Reason). r.account) given) ∙ accounts_agree asked list draw s e within;
        })
        (λ t.
        let given : reason_of (account_of asked list draw) (refused 18 0) ≡ record { number = 0; detail = 0; account = account } = rw t at h in
        let number : ◌≡◌ {A = ℕ} 18 0 = ap (λ (r : Reason). r.number) given in
        absurd (omega arith))
    by_run (refused n d) e h =
        let number : n ≡ 0 = ap (λ (r : Reason). r.number) h in
        let (s, ran) = check_goes asked list most_draws most_draws (rw e number) in
        let z : ◌≡◌ {A = ℕ} 0 1 = cc in
        absurd (omega arith)

-- So a draw of a list has one account at most.
pub only_account : (asked : Call) (list : List ℕ) (draw : ℕ) (a b : Account) → Explains asked list draw a → Explains asked list draw b
    → a ≡ b
only_account asked list draw a b one other =
    ap (λ (r : Reason). r.account) (sym ((explained_exactly asked list draw a).1 one) ∙ (explained_exactly asked list draw b).1 other)
