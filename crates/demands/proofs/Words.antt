-- Each test of the definitions says what its row of the table says in words.
use Prim.Native.Nat.{ℕ, zero, suc, ◌+◌, ◌*◌, ◌-◌, ◌<◌, ◌≤◌}
use native.Mathlib.Omega.{arith}
use mathlib.Core.Path.{◌≡◌, refl, sym}
use mathlib.Core.Bool.{Bool, true, false, not, ◌&&◌, ◌||◌}
use mathlib.Core.List.{List, [], ◌∷◌, ◌++◌}
use mathlib.Core.Logic.{◌⊎◌, inl, inr}
use lib.ListN.{length, get_or}
use lib.Dec.{eqb, ltb}
use borrow.Author.Tests.{ltb-true, lt-ltb, ltb-false, eqb-false, ne_eqb, not-true, not-false}
use Rattle.rules.specs.declared.Shape.{Shape}
use Rattle.rules.specs.Basics.{place, stands, number32}
use Rattle.rules.specs.Order.{Test}
use Rattle.rules.specs.Job.{Call, free, most_slots, most_load_time, most_draws, shape_of, starting_symbols, drawn_symbols, draws_of, job_of}
use Rattle.rules.specs.declared.Event.{Event}
use Rattle.rules.specs.LoadList.{event, most_events, last_tick, head_size, event_size, count_of, events_of}
use Rattle.rules.specs.Display.{Run, going, refused, finished}
use Rattle.rules.specs.Plans.{rule_of, run_plan}
use Rattle.rules.specs.Refusals.{bad_job_length, bad_limits, doubled, bad_symbols, job_tests, bad_rounds, call_tests, bad_list, first_bad_tick, short_check}
use Rattle.rules.specs.Refusals.{check_tests, short_plan}
use Rattle.laws.proofs.Cases.{by_test, neither}
use Rattle.laws.proofs.Search.{place_holds, present}
use Rattle.plan_laws.proofs.Asking.{both_true}
use Rattle.demands.specs.Fair.{event_tick, nth_event}
use Rattle.demands.specs.Table as table
use Rattle.demands.specs.Table.{Row, JobLengthWrong, OutsideLimits, no_slot, many_slots, no_time, long_time, many_draws, SymbolsWrong, twice}
use Rattle.demands.specs.Table.{free_drawn, RoundsWrong, no_round, too_many, call_rows, Late, plan_rows, ListWrong, wrong_version, many_events}
use Rattle.demands.specs.Table.{wrong_size, PlacesShort, few_ticks, few_slots, OutOfOrder, over_limit, not_above, FirstOutOfOrder, check_rows}
use Rattle.demands.proofs.Stops.{held_and_failed}
use Rattle.demands.proofs.Tables.{Says, Agree, end, more, late, late_tests}

-- ---- Tests in general

-- Of two tests of which one holds, it is the first or the second.
pub either : {A : Type 0} (a b : Bool) → (a || b) ≡ true → (a ≡ true → A) → (b ≡ true → A) → A
either true b e one other = one refl
either false b e one other = other e

-- Where the first holds, one of the two does.
first_of : (a b : Bool) → a ≡ true → (a || b) ≡ true
first_of true b e = refl
first_of false b e = held_and_failed false e refl

-- So it is where the second holds.
pub second_of : (a b : Bool) → b ≡ true → (a || b) ≡ true
second_of true b e = refl
second_of false b e = e

-- Where none of five tests holds, each fails.
none_of_five : (a b c d e : Bool) → (a || b || c || d || e) ≡ false
    → (a ≡ false) × (b ≡ false) × (c ≡ false) × (d ≡ false) × (e ≡ false)
none_of_five a b c d e h =
    let (h₄, fifth) = neither (a || b || c || d) e h in
    let (h₃, fourth) = neither (a || b || c) d h₄ in
    let (h₂, third) = neither (a || b) c h₃ in
    let (first, second) = neither a b h₂ in
    (first, second, third, fourth, fifth)

-- Two numbers that a test tells apart are not the same,
pub unlike : (a b : ℕ) → not (eqb a b) ≡ true → a ≡ b → ⊥
unlike a b e = eqb-false a b (not-true (eqb a b) e)

-- and two that are not the same are told apart.
is_unlike : (a b : ℕ) → (a ≡ b → ⊥) → not (eqb a b) ≡ true
is_unlike a b other = rw (ne_eqb a b other)

-- A row with detail 0: it does not hold where its test fails, and it holds where its test does.
pub plainly : {P : Type 0} (tested : Bool) → (P → tested ≡ false → ⊥) → (tested ≡ true → P) → Says (λ d. (d ≡ 0) × P) 0 tested
plainly tested to from =
    record {
      found = λ d h. (by_test tested (λ e. e) (λ e. absurd (to h.1 e)), sym h.0);
      so = λ e. (refl, from e);
    }

-- ---- Rows 1 to 5

-- Row 1.
length-words : (job : List ℕ) → Says (λ d. (d ≡ 0) × JobLengthWrong job) 0 (bad_job_length job)
length-words job = plainly (bad_job_length job) to from
  where
    to : JobLengthWrong job → bad_job_length job ≡ false → ⊥
    to (table.JobLengthWrong.short h) e = held_and_failed _ (lt-ltb (length job) 10 h) (neither _ _ e).0
    to (table.JobLengthWrong.wrong_length h) e =
        held_and_failed _ (is_unlike (number32 job 0) (length job - 4) h) (neither (ltb (length job) 10) _ e).1

    from : bad_job_length job ≡ true → JobLengthWrong job
    from e =
        either _ _ e
        (λ t. table.JobLengthWrong.short (ltb-true (length job) 10 t))
        (λ t. table.JobLengthWrong.wrong_length (unlike (number32 job 0) (length job - 4) t))

-- Where the test of row 3 fails, each of its parts does.
limits_fail : (shape : Shape) → bad_limits shape ≡ false
    → (ltb shape.slots 1 ≡ false)
    × (ltb most_slots shape.slots ≡ false)
    × (ltb shape.load_time 1 ≡ false)
    × (ltb most_load_time shape.load_time ≡ false)
    × (ltb most_draws shape.draws ≡ false)
limits_fail shape e =
    none_of_five (ltb shape.slots 1) (ltb most_slots shape.slots) (ltb shape.load_time 1) (ltb most_load_time shape.load_time) _ e

-- Row 3.
limits_words : (shape : Shape) → Says (λ d. (d ≡ 0) × OutsideLimits shape) 0 (bad_limits shape)
limits_words shape = plainly (bad_limits shape) to from
  where
    to : OutsideLimits shape → bad_limits shape ≡ false → ⊥
    to (no_slot h) e = held_and_failed _ (lt-ltb shape.slots 1 h) (limits_fail shape e).0
    to (many_slots h) e = held_and_failed _ (lt-ltb most_slots shape.slots h) (limits_fail shape e).1
    to (no_time h) e = held_and_failed _ (lt-ltb shape.load_time 1 h) (limits_fail shape e).2
    to (long_time h) e = held_and_failed _ (lt-ltb most_load_time shape.load_time h) (limits_fail shape e).3
    to (many_draws h) e = held_and_failed _ (lt-ltb most_draws shape.draws h) (limits_fail shape e).4

    from : bad_limits shape ≡ true → OutsideLimits shape
    from e =
        either _ _ e
        (λ e. either _ _ e
        (λ e. either _ _ e
        (λ e. either _ _ e
        (λ t. no_slot (ltb-true shape.slots 1 t))
        (λ t. many_slots (ltb-true most_slots shape.slots t)))
        (λ t. no_time (ltb-true shape.load_time 1 t)))
        (λ t. long_time (ltb-true most_load_time shape.load_time t)))
        (λ t. many_draws (ltb-true most_draws shape.draws t))

-- A doubled symbol is in two places,
doubled_so : (l : List ℕ) → doubled l ≡ true
    → (i j : ℕ) × (i < j) × (j < length l) × (get_or l i 0 ≡ get_or l j 0) × (get_or l i 0 ≡ free → ⊥)
unfolding doubled
doubled_so [] e = held_and_failed false e refl
doubled_so (x ∷ l) e =
    either (not (eqb x free) && stands x l) (doubled l) e
    (λ t.
    let (symbol, there) = both_true (not (eqb x free)) (stands x l) t in
    let inside : place x l < length l = ltb-true (place x l) (length l) there in
    (0, suc (place x l), omega arith, omega arith, sym (place_holds x l inside), unlike x free symbol))
    (λ t. let (i, j, before, inside, same, symbol) = doubled_so l t in (suc i, suc j, omega arith, omega arith, same, symbol))

-- and one that is in two places is doubled.
so_doubled : (l : List ℕ) (i j : ℕ) → i < j → j < length l → get_or l i 0 ≡ get_or l j 0 → (get_or l i 0 ≡ free → ⊥) → doubled l ≡ true
unfolding doubled
so_doubled [] i j before inside same symbol = absurd (omega arith)
so_doubled (x ∷ l) i zero before inside same symbol = absurd (omega arith)
so_doubled (x ∷ l) zero (suc j) before inside same symbol =
    first_of (not (eqb x free) && stands x l) (doubled l) (rw (ne_eqb x free symbol) (present x l j (omega arith) (sym same)))
so_doubled (x ∷ l) (suc i) (suc j) before inside same symbol =
    second_of (not (eqb x free) && stands x l) (doubled l) (so_doubled l i j (omega arith) (omega arith) same symbol)

-- Row 5.
symbols_words : (starting draws : List ℕ) → Says (λ d. (d ≡ 0) × SymbolsWrong starting draws) 0 (bad_symbols starting draws)
symbols_words starting draws = plainly (bad_symbols starting draws) to from
  where
    to : SymbolsWrong starting draws → bad_symbols starting draws ≡ false → ⊥
    to (twice i j before inside same symbol) e = held_and_failed _ (so_doubled starting i j before inside same symbol) (neither _ _ e).0
    to (free_drawn i inside mark) e = held_and_failed _ (present free draws i inside mark) (neither (doubled starting) _ e).1

    from : bad_symbols starting draws ≡ true → SymbolsWrong starting draws
    from e =
        either (doubled starting) (stands free draws) e
        (λ t. let (i, j, before, inside, same, symbol) = doubled_so starting t in twice i j before inside same symbol)
        (λ t.
        let inside : place free draws < length draws = ltb-true (place free draws) (length draws) t in
        free_drawn (place free draws) inside (place_holds free draws inside))

-- ---- Rows 7 to 9

-- Where the test of row 8 fails, each of its parts does.
pub list_fails : (list : List ℕ) → bad_list list ≡ false
    → (ltb (length list) head_size ≡ false)
    × (not (eqb (number32 list 0) (length list - 4)) ≡ false)
    × (not (eqb (get_or list 4 0) 1) ≡ false)
    × (ltb most_events (count_of list) ≡ false)
    × (not (eqb (number32 list 0) (3 + event_size * count_of list)) ≡ false)
list_fails list e =
    none_of_five (ltb (length list) head_size) (not (eqb (number32 list 0) (length list - 4))) (not (eqb (get_or list 4 0) 1))
    (ltb most_events (count_of list)) _ e

-- Row 8.
pub list_words : (list : List ℕ) → Says (λ d. (d ≡ 0) × ListWrong list) 0 (bad_list list)
list_words list = plainly (bad_list list) to from
  where
    to : ListWrong list → bad_list list ≡ false → ⊥
    to (table.ListWrong.short h) e = held_and_failed _ (lt-ltb (length list) head_size h) (list_fails list e).0
    to (table.ListWrong.wrong_length h) e =
        held_and_failed _ (is_unlike (number32 list 0) (length list - 4) h) (list_fails list e).1
    to (wrong_version h) e = held_and_failed _ (is_unlike (get_or list 4 0) 1 h) (list_fails list e).2
    to (many_events h) e = held_and_failed _ (lt-ltb most_events (count_of list) h) (list_fails list e).3
    to (wrong_size h) e = held_and_failed _ (is_unlike (number32 list 0) (3 + event_size * count_of list) h) (list_fails list e).4

    from : bad_list list ≡ true → ListWrong list
    from e =
        either _ _ e
        (λ e. either _ _ e
        (λ e. either _ _ e
        (λ e. either _ _ e
        (λ t. table.ListWrong.short (ltb-true (length list) head_size t))
        (λ t. table.ListWrong.wrong_length (unlike (number32 list 0) (length list - 4) t)))
        (λ t. wrong_version (unlike (get_or list 4 0) 1 t)))
        (λ t. many_events (ltb-true most_events (count_of list) t)))
        (λ t. wrong_size (unlike (number32 list 0) (3 + event_size * count_of list) t))

-- Row 17.
rounds_words : (rounds draws : ℕ) → Says (λ d. (d ≡ 0) × RoundsWrong rounds draws) 0 (ltb rounds 1 || ltb most_draws (rounds * draws))
rounds_words rounds draws = plainly (ltb rounds 1 || ltb most_draws (rounds * draws)) to from
  where
    to : RoundsWrong rounds draws → (ltb rounds 1 || ltb most_draws (rounds * draws)) ≡ false → ⊥
    to (no_round h) e = held_and_failed _ (lt-ltb rounds 1 h) (neither _ _ e).0
    to (too_many h) e = held_and_failed _ (lt-ltb most_draws (rounds * draws) h) (neither (ltb rounds 1) _ e).1

    from : (ltb rounds 1 || ltb most_draws (rounds * draws)) ≡ true → RoundsWrong rounds draws
    from e = either _ _ e (λ t. no_round (ltb-true rounds 1 t)) (λ t. too_many (ltb-true most_draws (rounds * draws) t))

-- Row 7 of a check.
places_words : (draws ticks slots : ℕ) → Says (λ d. (d ≡ 0) × PlacesShort draws ticks slots) 0 (ltb ticks draws || ltb slots draws)
places_words draws ticks slots = plainly (ltb ticks draws || ltb slots draws) to from
  where
    to : PlacesShort draws ticks slots → (ltb ticks draws || ltb slots draws) ≡ false → ⊥
    to (few_ticks h) e = held_and_failed _ (lt-ltb ticks draws h) (neither _ _ e).0
    to (few_slots h) e = held_and_failed _ (lt-ltb slots draws h) (neither (ltb ticks draws) _ e).1

    from : (ltb ticks draws || ltb slots draws) ≡ true → PlacesShort draws ticks slots
    from e = either _ _ e (λ t. few_ticks (ltb-true ticks draws t)) (λ t. few_slots (ltb-true slots draws t))

-- The lowest tick of an event where the first may not come before a tick,
abbrev low : ℕ → List Event → ℕ → ℕ
low least events zero = least
low least events (suc i) = event_tick (nth_event events i) + 1

-- and an event that is out of order by that.
abbrev Wrong : ℕ → List Event → ℕ → Type 0
Wrong least events i = (last_tick < event_tick (nth_event events i)) ⊎ (event_tick (nth_event events i) < low least events i)

-- An event after the first one is out of order in the list without the first one,
one_down : (least t q x : ℕ) (l : List Event) (i : ℕ) → Wrong least (event t q x ∷ l) (suc i) → Wrong (t + 1) l i
one_down least t q x l zero w = w
one_down least t q x l (suc i) w = w

-- and the other way round.
one_up : (least t q x : ℕ) (l : List Event) (i : ℕ) → Wrong (t + 1) l i → Wrong least (event t q x ∷ l) (suc i)
one_up least t q x l zero w = w
one_up least t q x l (suc i) w = w

-- The walk that looks for the first event out of order finds one that is,
found_wrong : (least : ℕ) (events : List Event) → first_bad_tick least events < length events → Wrong least events (first_bad_tick least events)
unfolding first_bad_tick
found_wrong least [] h = absurd (omega arith)
found_wrong least (this ∷ l) h =
    by_test (ltb last_tick this.tick || ltb this.tick least)
    (λ e. rw e (either (ltb last_tick this.tick) (ltb this.tick least) e (λ f. inl (ltb-true last_tick this.tick f)) (λ f. inr (ltb-true this.tick least f))))
    (λ e.
    let inside : suc (first_bad_tick (this.tick + 1) l) < suc (length l) = rw e at h in
    rw e (one_up least this.tick this.slot this.symbol l (first_bad_tick (this.tick + 1) l) (found_wrong (this.tick + 1) l (omega arith))))

-- and none before it.
none_before : (least : ℕ) (events : List Event) (i : ℕ) → i < first_bad_tick least events → Wrong least events i → ⊥
unfolding first_bad_tick
none_before least [] i h w = omega arith
none_before least (this ∷ l) i h w =
    by_test (ltb last_tick this.tick || ltb this.tick least)
    (λ e. let none : i < 0 = rw e at h in omega arith)
    (λ e. behind i (rw e at h) (neither (ltb last_tick this.tick) (ltb this.tick least) e) w (λ j. none_before (this.tick + 1) l j))
  where
    behind : (i : ℕ) → i < suc (first_bad_tick (this.tick + 1) l) → (ltb last_tick this.tick ≡ false) × (ltb this.tick least ≡ false) → Wrong least (this ∷ l) i
        → ((j : ℕ) → j < first_bad_tick (this.tick + 1) l → Wrong (this.tick + 1) l j → ⊥) → ⊥
    behind zero h fine (inl over) later = let limit : this.tick ≤ last_tick = ltb-false last_tick this.tick fine.0 in omega arith
    behind zero h fine (inr under) later = let least_tick : least ≤ this.tick = ltb-false this.tick least fine.1 in omega arith
    behind (suc j) h fine w later = later j (omega arith) (one_down least this.tick this.slot this.symbol l j w)

-- From tick 0 on that is what row 9 says,
wrong_so : (events : List Event) (i : ℕ) → Wrong 0 events i → OutOfOrder events i
wrong_so events i (inl over) = over_limit over
wrong_so events zero (inr under) = not_above under
wrong_so events (suc i) (inr under) = not_above under

-- and what row 9 says is that.
so_wrong : (events : List Event) (i : ℕ) → OutOfOrder events i → Wrong 0 events i
so_wrong events i (over_limit over) = inl over
so_wrong events zero (not_above under) = inr under
so_wrong events (suc i) (not_above under) = inr under

-- Row 9, with the first such event.
pub order_words : (events : List Event) → Says (FirstOutOfOrder events) (first_bad_tick 0 events) (ltb (first_bad_tick 0 events) (length events))
order_words events =
    record {
      found = λ i h.
          let at_most : first_bad_tick 0 events ≤ i =
          by_test (ltb i (first_bad_tick 0 events))
          (λ e. absurd (none_before 0 events i (ltb-true i (first_bad_tick 0 events) e) (so_wrong events i h.wrong)))
          (λ e. ltb-false i (first_bad_tick 0 events) e) in
          let inside : first_bad_tick 0 events < length events = omega (arith, h.inside) in
          let at_least : i ≤ first_bad_tick 0 events =
          by_test (ltb (first_bad_tick 0 events) i)
          (λ e.
          absurd (h.first (first_bad_tick 0 events) (ltb-true (first_bad_tick 0 events) i e) (wrong_so events _ (found_wrong 0 events inside))))
          (λ e. ltb-false (first_bad_tick 0 events) i e) in
          (lt-ltb (first_bad_tick 0 events) (length events) inside, omega arith);
      so = λ e.
          let inside : first_bad_tick 0 events < length events = ltb-true (first_bad_tick 0 events) (length events) e in
          record {
            inside = inside;
            wrong = wrong_so events _ (found_wrong 0 events inside);
            first = λ j before w. none_before 0 events j before (so_wrong events j w);
          };
    }

-- ---- Row 15

-- A run that comes to the end of its draws is not late, and every other run is.
late_words : (r : Run) → Says (λ d. (d ≡ 0) × Late r) 0 (late r)
late_words (going s) =
    plainly (late (going s))
    (λ h e. h s refl (not-false (finished s.rest) e))
    (λ e s' same over. let is : s ≡ s' = cc in held_and_failed (finished s.rest) (rw is over) (not-true (finished s.rest) e))
late_words (refused n d) =
    plainly true (λ h e. held_and_failed true refl e) (λ e s same over. let z : ◌≡◌ {A = ℕ} 0 1 = cc in absurd (omega arith))

-- ---- The tables

-- A row that says that one number is below another.
pub lower_words : (a b : ℕ) → Says (λ d. (d ≡ 0) × (a < b)) 0 (ltb a b)
lower_words a b = plainly (ltb a b) (λ h. held_and_failed (ltb a b) (lt-ltb a b h)) (ltb-true a b)

-- A row that says that two numbers are not the same.
unlike_words : (a b : ℕ) → Says (λ d. (d ≡ 0) × (a ≡ b → ⊥)) 0 (not (eqb a b))
unlike_words a b = plainly (not (eqb a b)) (λ h. held_and_failed (not (eqb a b)) (is_unlike a b h)) (unlike a b)

module _ (asked : Call) where
  -- Rows 1 to 5 and 17, and what comes after them.
  with_call : (rows : List Row) (tests : List Test) → Agree rows tests → Agree (call_rows asked ++ rows) (call_tests asked ++ tests)
  unfolding job_tests call_tests bad_rounds
  with_call rows tests a =
      more (length-words asked.job)
      (more (unlike_words (get_or asked.job 4 0) 1)
      (more (limits_words (shape_of asked.job))
      (more (unlike_words (number32 asked.job 0) (6 + 2 * (shape_of asked.job).slots + 2 * (shape_of asked.job).draws))
      (more (symbols_words (starting_symbols asked.job) (drawn_symbols asked.job))
      (more (rounds_words asked.rounds (shape_of asked.job).draws) a)))))

  -- The table for a plan is the tests of the definition.
  pub plan_words : (plan room : ℕ) → Agree (plan_rows asked plan room) (late_tests asked plan room)
  unfolding job_tests call_tests short_plan
  plan_words plan room =
      with_call _ _
      (more (lower_words 3 plan)
      (more (lower_words room (head_size + event_size * length (draws_of asked)))
      (more (late_words (run_plan (job_of asked) (rule_of (job_of asked) plan))) end)))

  -- So is the table for a check, before time begins.
  pub check_words : (list : List ℕ) (ticks slots : ℕ) → Agree (check_rows asked list ticks slots) (check_tests asked list ticks slots)
  unfolding short_check
  check_words list ticks slots =
      with_call _ _
      (more (list_words list)
      (more (places_words (length (draws_of asked)) ticks slots)
      (more (order_words (events_of list)) end)))
