-- Places for ticks: how many a check can need, and what it reports in them.
use Prim.Native.Nat.{ℕ, ◌+◌, ◌/◌, ◌≤◌, min}
use native.Mathlib.Omega.{arith}
use mathlib.Core.Path.{◌≡◌, refl, sym, ap, ◌∙◌}
use mathlib.Core.List.{List, ◌++◌, map, append_assoc}
use lib.ListN.{length, take, drop, length-map, take-append-drop}
use lib.Seq.{take_at, drop-append-le, length-take-le}
use lib.Dec.{ltb}
use borrow.Author.Tests.{lt-ltb, le-ltb, ltb-true, ltb-false}
use Rattle.std.specs.Prelude.{Ok}
use Rattle.rules.specs.Order.{Verdict, clear, met, first_of}
use Rattle.rules.specs.Job.{Call, most_draws, unrolled, draws_of, job_of}
use Rattle.rules.specs.Display.{Run, going, refused}
use Rattle.rules.specs.LoadList.{events_of}
use Rattle.rules.specs.Refusals.{call_tests, read_call, follow, most_ticks, checked, checked_for_c, answer_of, ticks_of, slots_of, tick_of, tick_bytes, lent}
use Rattle.laws.proofs.Cases.{by_test}
use Rattle.laws.proofs.Verdicts.{gives, walked, inside}
use Rattle.laws.proofs.Jobs.{Proper, proper, clear_taken}
use Rattle.laws.proofs.Checks.{checked_met, Accepted, accepted}
use Rattle.laws.proofs.Counts.{CountedState, counted, elapsed}
use Rattle.checker.specs.declared.checked.Checked.{Checked}
use Rattle.govahrin.specs.Reports.{Reports}

same_test : (ticks n : ℕ) → n ≤ most_draws → ltb (min ticks most_draws) n ≡ ltb ticks n
same_test ticks n few =
    by_test (ltb ticks n)
    (λ t. let h = ltb-true ticks n t in rw t (lt-ltb (min ticks most_draws) n (omega arith)))
    (λ t. let h = ltb-false ticks n t in rw t (le-ltb (min ticks most_draws) n (omega arith)))

module _ (asked : Call) (list : List ℕ) where
  -- A check with places for more ticks than the largest job has draws answers as one with just as many.
  enough_taken : (ticks slots : ℕ) → read_call asked ≡ Ok (unrolled asked)
      → checked asked list (min ticks most_draws) slots ≡ checked asked list ticks slots
  unfolding checked
  enough_taken ticks slots taken = rw (same_test ticks (length (draws_of asked)) (proper asked (unrolled asked) taken).few_draws)

  enough_refused : (ticks slots n d : ℕ) → first_of (call_tests asked) ≡ met n d → checked asked list ticks slots ≡ refused n d
  enough_refused ticks slots n d e =
      checked_met asked list ticks slots n d (gives _ _ (inside _ (walked (call_tests asked) (met n d) e)))

  pub enough : (ticks slots : ℕ) → checked asked list (min ticks most_draws) slots ≡ checked asked list ticks slots
  enough ticks slots = by_job (first_of (call_tests asked)) refl
    where
      by_job : (v : Verdict) → first_of (call_tests asked) ≡ v
          → checked asked list (min ticks most_draws) slots ≡ checked asked list ticks slots
      by_job clear e = enough_taken ticks slots (clear_taken asked e)
      by_job (met n d) e = enough_refused (min ticks most_draws) slots n d e ∙ sym (enough_refused ticks slots n d e)

  -- A check reports no more ticks than it has places for.
  few_reported : (ticks slots : ℕ) (run : Run) → checked asked list ticks slots ≡ run → length (ticks_of run) ≤ ticks
  few_reported ticks slots (going s) e =
      let a : Accepted asked list ticks slots s = accepted asked list ticks slots s e in
      let p : Proper (job_of asked) = proper asked (unrolled asked) a.job_taken in
      let c : CountedState (job_of asked) s = counted (job_of asked) (follow (events_of list)) p (most_ticks (job_of asked)) s a.ran in
      let all : s.tick ≡ length (draws_of asked) + s.waits =
      elapsed (job_of asked) (follow (events_of list)) p (most_ticks (job_of asked)) s a.ran a.over in
      let row : length (map tick_of s.made) ≡ length s.made = length-map s.made tick_of in
      omega (arith, a.tick_room)
  few_reported ticks slots (refused number detail) e = omega arith

-- What was handed out in the front of a row is at the front of the whole row.
lent_part : (w row : List ℕ) (places : ℕ) → length w ≤ places → places ≤ length row → lent w (take places row) ++ drop places row ≡ lent w row
lent_part w row places few fits =
    let size : length (take places row) ≡ places = length-take-le places row fits in
    append_assoc w (drop (length w) (take places row)) (drop places row)
    ∙ ap (λ (r : List ℕ). w ++ r)
    (sym (drop-append-le (length w) (take places row) (drop places row) (omega arith))
    ∙ ap (drop (length w)) (take-append-drop places row))

module _ (asked : Call) (list row row' slots slots' : List ℕ) (places : ℕ) (r : Checked) where
  abbrev run : Run
  run = checked asked list places (length slots)

  -- A check with the front of a row, said of the whole row.
  pub whole_row : places ≤ length row
      → Reports (checked asked list (length (take places row)) (length slots)) r (take places row) row' slots slots'
      → Reports run r row (row' ++ drop places row) slots slots'
  whole_row fits left =
      let size : length (take places row) ≡ places = length-take-le places row fits in
      let same : Reports run r (take places row) row' slots slots' = rw size at left in
      let few : length (ticks_of run) ≤ places = few_reported asked list places (length slots) run refl in
      record {
        answers = same.answers;
        many = same.many;
        at = rw same.at (lent_part (ticks_of run) row places few fits);
        from = same.from;
      }

  -- So it reports at most as many draws as there are places.
  pub few_draws : Reports run r row row' slots slots' → r.draws ≤ places
  few_draws left = omega (arith, left.many, few_reported asked list places (length slots) run refl)

  -- A check with places for the ticks that these bytes hold, as C sees it once its ticks are bytes.
  pub as_for_C : (bytes bytes' : List ℕ) → places ≡ min (length bytes / 4) most_draws
      → Reports run r row row' slots slots'
      → bytes' ≡ lent (tick_bytes (take r.draws row')) bytes
      → (r.answer ≡ answer_of (checked_for_c asked list (length bytes) (length slots)))
      × ((bytes' ≡ lent (tick_bytes (ticks_of (checked_for_c asked list (length bytes) (length slots)))) bytes)
      × (slots' ≡ lent (slots_of (checked_for_c asked list (length bytes) (length slots))) slots))
  as_for_C bytes bytes' e left written =
      let same : run ≡ checked_for_c asked list (length bytes) (length slots) = rw e (enough asked list (length bytes / 4) (length slots)) in
      let front : take r.draws row' ≡ ticks_of run = rw left.at (take_at (ticks_of run) _ _ (sym left.many)) in
      rw (← same) (left.answers, (rw (← front) written, left.from))
