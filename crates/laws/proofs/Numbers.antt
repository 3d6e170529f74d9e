-- The numbers of what the readers find are the numbers of the tests: for a call, for a list, and for an event.
use Prim.Native.Nat.{ℕ, ◌+◌, ◌*◌, ◌-◌, ◌<◌, ◌≤◌}
use native.Mathlib.Omega.{arith}
use mathlib.Core.Path.{◌≡◌, refl}
use mathlib.Core.Bool.{false}
use mathlib.Core.List.{List, [], ◌∷◌}
use lib.ListN.{length, drop, length-drop}
use lib.Dec.{ltb}
use borrow.Author.Tests.{ltb-false, le-ltb, eqb-true, not-false}
use Rattle.rules.specs.declared.refusal.Refusal.{Refusal}
use Rattle.rules.specs.declared.refusal.Refusal.TheVariants.{JobLength, JobVersion, JobLimits, JobSize, JobSymbols, PlanNumber, ShortRoom, ListForm}
use Rattle.rules.specs.declared.refusal.Refusal.TheVariants.{EventTick, LoadUnderWay, NoSuchSlot, SymbolHeld, EndlessWait, EventLeft}
use Rattle.rules.specs.declared.refusal.Refusal.TheVariants.{PastTheLastTick, LineForm, Rounds, NoSuchDraw}
use Rattle.rules.specs.Refusing.{refusal_number}
use Rattle.rules.specs.Order.{Verdict, clear, met, test, first_of, number_in}
use Rattle.rules.specs.Basics.{number32}
use Rattle.rules.specs.Job.{Call, unrolled}
use Rattle.rules.specs.LoadList.{count_of, head_size, event_size, event_at, read_event}
use Rattle.rules.specs.Refusals.{call_tests, bad_list, read_as, read_call, read_list, by_number, call_number, list_number, event_number}
use Rattle.laws.proofs.Cases.{by_test, neither}
use Rattle.laws.proofs.Jobs.{call_met}

pub call_number_lem : (asked : Call) → call_number (by_number (read_call asked)) ≡ number_in (first_of (call_tests asked))
call_number_lem asked = by_verdict (first_of (call_tests asked)) refl
  where
    by_verdict : (v : Verdict) → first_of (call_tests asked) ≡ v → call_number (by_number (read_as v (unrolled asked))) ≡ number_in v
    by_verdict clear e = refl
    by_verdict (met n d) e = (call_met asked n d e).0

pub list_number_lem : (list : List ℕ) → list_number (read_list list) ≡ number_in (first_of (test 8 0 (bad_list list) ∷ []))
unfolding first_of
list_number_lem list = by_test (bad_list list) (λ t. rw t) (λ t. rw t)

pub event_number_lem : (part : List ℕ) → event_number (read_event part) ≡ number_in (first_of (test 8 0 (ltb (length part) event_size) ∷ []))
unfolding first_of
event_number_lem part = by_test (ltb (length part) event_size) (λ t. rw t) (λ t. rw t)

-- Each event of bytes that are a list can be read.
pub event_of_a_list : (list : List ℕ) (i : ℕ) → bad_list list ≡ false → i < count_of list → event_number (read_event (drop (event_at i) list)) ≡ 0
event_of_a_list list i good inside =
    let (few, size) = neither _ _ good in
    let (right, most) = neither _ _ few in
    let (counted, version) = neither _ _ right in
    let (long, whole) = neither _ _ counted in
    let size' : number32 list 0 ≡ 3 + event_size * count_of list = eqb-true _ _ (not-false _ size) in
    let whole' : number32 list 0 ≡ length list - 4 = eqb-true _ _ (not-false _ whole) in
    let long' : head_size ≤ length list = ltb-false _ _ long in
    let left : length (drop (event_at i) list) ≡ length list - event_at i = length-drop (event_at i) list in
    let enough : event_size ≤ length (drop (event_at i) list) =
    last_event (length list) (count_of list) i (number32 list 0) _ left size' whole' long' inside in
    rw (le-ltb (length (drop (event_at i) list)) event_size enough)
  where
    last_event : (n m i stated left : ℕ) → left ≡ n - event_at i → stated ≡ 3 + event_size * m → stated ≡ n - 4 → head_size ≤ n → i < m
        → event_size ≤ left
    last_event n m i stated left a b c d e = omega arith

-- No refusal has the number 0.
pub some_number : (r : Refusal) → refusal_number r ≡ 0 → ⊥
some_number JobLength e = omega arith
some_number JobVersion e = omega arith
some_number JobLimits e = omega arith
some_number JobSize e = omega arith
some_number JobSymbols e = omega arith
some_number PlanNumber e = omega arith
some_number ShortRoom e = omega arith
some_number ListForm e = omega arith
some_number (EventTick n) e = omega arith
some_number (LoadUnderWay n) e = omega arith
some_number (NoSuchSlot n) e = omega arith
some_number (SymbolHeld n) e = omega arith
some_number (EndlessWait n) e = omega arith
some_number (EventLeft n) e = omega arith
some_number PastTheLastTick e = omega arith
some_number (LineForm n) e = omega arith
some_number Rounds e = omega arith
some_number NoSuchDraw e = omega arith
