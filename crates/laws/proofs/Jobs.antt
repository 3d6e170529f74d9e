-- What is known of a call whose job and rounds were not refused: its limits, the lengths of its two rows, and its symbols.
use Prim.Native.Nat.{ℕ, ◌+◌, ◌*◌, ◌%◌, ◌<◌, ◌≤◌}
use native.Mathlib.Omega.{arith}
use mathlib.Core.Path.{◌≡◌, refl, sym, ap, ◌∙◌}
use mathlib.Core.Bool.{Bool, false}
use mathlib.Core.List.{List, ◌++◌}
use lib.ListN.{length, get_or, drop}
use lib.Dec.{ltb}
use borrow.Author.Tests.{ltb-false}
use Rattle.std.specs.Prelude.{Result, Ok, Err}
use Rattle.rules.specs.declared.refusal.Refusal.{Refusal}
use Rattle.rules.specs.declared.Shape.{Shape}
use Rattle.rules.specs.declared.Unrolled.{Unrolled}
use Rattle.rules.specs.Basics.{stands, number16}
use Rattle.rules.specs.Job.{Job, free, most_slots, most_load_time, most_draws, Call, call, draws_at, shape_of, drawn_symbols, draws_of}
use Rattle.rules.specs.Job.{unrolled, job_of}
use Rattle.rules.specs.Refusing.{refusal_number, refusal_detail, call_refusal}
use Rattle.rules.specs.Order.{Test, Verdict, clear, met, first_of}
use Rattle.rules.specs.Refusals.{doubled, job_tests, bad_rounds, call_tests, read_as, read_call}
use Rattle.laws.specs.Limits.{Limits}
use Rattle.laws.proofs.Cases.{neither}
use Rattle.laws.proofs.Verdicts.{test_of, clear_of, Each, met_by, Gives, gives, walked, past, inside}
use Rattle.laws.proofs.Symbols.{length_symbols, number16_drop}
use Rattle.laws.proofs.Rounds.{length-times, absent_times, times_symbol}

-- A job as the display may meet it.
pub record Proper (job : Job) : Type 0 where
  pub some_slot : 1 ≤ job.slots
  pub few_slots : job.slots ≤ most_slots
  pub some_load_time : 1 ≤ job.load_time
  pub short_load_time : job.load_time ≤ most_load_time
  pub few_draws : length job.draws ≤ most_draws
  pub row : length job.starting ≡ job.slots
  pub single : doubled job.starting ≡ false
  pub drawable : stands free job.draws ≡ false

-- What a reading says of its tests: a size comes with no test met, a number with the test of that number.
read_taken : (v : Verdict) (size size' : Unrolled) → read_as v size ≡ Ok size' → (v ≡ clear) × (size ≡ size')
read_taken clear size size' e = (refl, cc)
read_taken (met n d) size size' e = let z : ◌≡◌ {A = ℕ} 0 1 = cc in absurd (omega arith)

read_refused : (v : Verdict) (size : Unrolled) (r : Refusal) → read_as v size ≡ Err r → (n d : ℕ) × (v ≡ met n d) × (call_refusal n ≡ r)
read_refused clear size r e = let z : ◌≡◌ {A = ℕ} 0 1 = cc in absurd (omega arith)
read_refused (met n d) size r e = (n, d, refl, cc)

-- A call that is taken has the size that was read, and each of its tests fails.
taken_size : (asked : Call) (size : Unrolled) → read_call asked ≡ Ok size → unrolled asked ≡ size
taken_size asked size e = (read_taken (first_of (call_tests asked)) (unrolled asked) size e).1

taken_clear : (asked : Call) (size : Unrolled) → read_call asked ≡ Ok size → first_of (call_tests asked) ≡ clear
taken_clear asked size e = (read_taken (first_of (call_tests asked)) (unrolled asked) size e).0

taken_test : (asked : Call) (size : Unrolled) → read_call asked ≡ Ok size → (n : ℕ) → test_of n (call_tests asked) ≡ false
taken_test asked size e = clear_of (call_tests asked) (taken_clear asked size e)

-- The other way round, a call of which each test fails is taken.
pub clear_taken : (asked : Call) → first_of (call_tests asked) ≡ clear → read_call asked ≡ Ok (unrolled asked)
clear_taken asked e = ap (λ (v : Verdict). read_as v (unrolled asked)) e

-- Each test of a call has the number of its refusal, and no detail.
pub call_met : (asked : Call) (n d : ℕ) → first_of (call_tests asked) ≡ met n d
    → (refusal_number (call_refusal n) ≡ n) × (refusal_detail (call_refusal n) ≡ d) × (d ≡ 0)
call_met asked n d is =
    met_by (λ m c. (refusal_number (call_refusal m) ≡ m) × (refusal_detail (call_refusal m) ≡ c) × (c ≡ 0)) (call_tests asked) n d
    (unfold Each job_tests call_tests in search) is

refused_met : (asked : Call) (r : Refusal) → read_call asked ≡ Err r → first_of (call_tests asked) ≡ met (refusal_number r) (refusal_detail r)
refused_met asked r e =
    let (n, d, is, same) = read_refused (first_of (call_tests asked)) (unrolled asked) r e in
    let (number, detail, none) = call_met asked n d is in
    is ∙ ap (λ (m : ℕ). met m d) (sym number) ∙ ap (met (refusal_number (call_refusal n))) (sym detail)
    ∙ ap (λ (r : Refusal). met (refusal_number r) (refusal_detail r)) same

-- What a call is refused with has no detail.
pub no_detail : (asked : Call) (r : Refusal) → read_call asked ≡ Err r → refusal_detail r ≡ 0
no_detail asked r e =
    let (n, d, is, same) = read_refused (first_of (call_tests asked)) (unrolled asked) r e in
    let (number, detail, none) = call_met asked n d is in
    ap refusal_detail (sym same) ∙ detail ∙ none

-- As code meets the tests: what it answers once they are walked is what the definition reads.
pub call_refused : (asked : Call) (n : ℕ) → Gives (call_tests asked) (met n 0) → Err (call_refusal n) ≡ read_call asked
call_refused asked n g = ap (λ (v : Verdict). read_as v (unrolled asked)) (sym (gives _ _ g))

pub call_taken : (asked : Call) (size : Unrolled) → size ≡ unrolled asked → Gives (call_tests asked) clear → Ok size ≡ read_call asked
call_taken asked size same g = ap Ok same ∙ ap (λ (v : Verdict). read_as v (unrolled asked)) (sym (gives _ _ g))

-- Where 17 is not met, the draws of all rounds are few, as code has them from the shape that was read.
pub few_in_rounds : (job : List ℕ) (rounds : ℕ) (shape : Shape) (r : Bool) → shape ≡ shape_of job → r ≡ bad_rounds (call job rounds) → r ≡ false
    → rounds * shape.draws ≤ most_draws
unfolding bad_rounds
few_in_rounds job rounds shape r read e fails =
    rw read (ltb-false _ _ (neither (ltb rounds 1) (ltb most_draws (rounds * (shape_of job).draws)) (sym e ∙ fails)).1)

-- Once code has read the call, the tests after those of a call are left, or a number was met.
pub past_call : (asked : Call) (reading : Result Unrolled Refusal) (size : Unrolled) {later : List Test} {v : Verdict} → reading ≡ read_call asked
    → reading ≡ Ok size → Gives later v → Gives (call_tests asked ++ later) v
past_call asked reading size is taken g = past (walked (call_tests asked) clear (taken_clear asked size (sym is ∙ taken))) g

pub refused_call : (asked : Call) (reading : Result Unrolled Refusal) (r : Refusal) (later : List Test) → reading ≡ read_call asked → reading ≡ Err r
    → Gives (call_tests asked ++ later) (met (refusal_number r) (refusal_detail r))
refused_call asked reading r later is stops =
    inside later (walked (call_tests asked) (met (refusal_number r) (refusal_detail r)) (refused_met asked r (sym is ∙ stops)))

-- The rounds that a call was taken with are those that it asks for.
pub same_call : (asked : Call) (size : Unrolled) → read_call asked ≡ Ok size → asked ≡ call asked.job size.rounds
same_call asked size e = ap (λ (s : Unrolled). call asked.job s.rounds) (taken_size asked size e)

-- What is taken keeps to the limits and has as many draws as its size says.
pub limits : (asked : Call) (size : Unrolled) → read_call asked ≡ Ok size → Limits asked size
unfolding job_tests call_tests bad_rounds
limits asked size e =
    let job : List ℕ = asked.job in
    let (within, draws) = neither _ _ (taken_test asked size e 3) in
    let (from_one, long) = neither _ _ within in
    let (slots_within, some) = neither _ _ from_one in
    let (none, many) = neither _ _ slots_within in
    let (no_round, past_most) = neither (ltb asked.rounds 1) (ltb most_draws (unrolled asked).draws) (taken_test asked size e 17) in
    let same : unrolled asked ≡ size = taken_size asked size e in
    let row : length (drawn_symbols job) ≡ (shape_of job).draws = length_symbols (shape_of job).draws _ in
    record {
      shaped = sym same;
      some_slot = rw (← same) (ltb-false _ _ none);
      few_slots = rw (← same) (ltb-false _ _ many);
      some_load_time = rw (← same) (ltb-false _ _ some);
      short_load_time = rw (← same) (ltb-false _ _ long);
      few_draws = rw (← same) (ltb-false _ _ past_most);
      many_draws = length-times asked.rounds (drawn_symbols job) ∙ ap (λ (n : ℕ). asked.rounds * n) row ∙ ap (λ (s : Unrolled). s.draws) same;
    }

-- So it is a proper one.
pub proper : (asked : Call) (size : Unrolled) → read_call asked ≡ Ok size → Proper (job_of asked)
unfolding job_tests call_tests
proper asked size e =
    let job : List ℕ = asked.job in
    let (single, drawable) = neither _ _ (taken_test asked size e 5) in
    let l : Limits asked size = limits asked size e in
    let same : size ≡ unrolled asked = l.shaped in
    record {
      some_slot = rw same at l.some_slot;
      few_slots = rw same at l.few_slots;
      some_load_time = rw same at l.some_load_time;
      short_load_time = rw same at l.short_load_time;
      few_draws = rw l.many_draws l.few_draws;
      row = length_symbols (shape_of job).slots _;
      single = single;
      drawable = absent_times free asked.rounds (drawn_symbols job) drawable;
    }

-- The symbol of a draw is read from the job's bytes at its place in the round.
pub draw_read : {asked : Call} {size : Unrolled} → Limits asked size → (draw : ℕ) → draw < size.draws
    → get_or (draws_of asked) draw 0 ≡ number16 asked.job (draws_at size.slots + 2 * (draw % size.round))
draw_read {asked} {size} within draw h =
    let job : List ℕ = asked.job in
    times_symbol asked.rounds (shape_of job).draws (drop (draws_at (shape_of job).slots) job) draw (rw within.shaped at h)
    ∙ number16_drop (draws_at (shape_of job).slots) job (2 * (draw % (shape_of job).draws))
    ∙ sym (ap (λ (s : Unrolled). number16 job (draws_at s.slots + 2 * (draw % s.round))) within.shaped)
