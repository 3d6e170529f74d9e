-- What a call writes fits into what was lent, so a lent buffer keeps its length.
use Prim.Native.Nat.{ℕ, ◌+◌, ◌*◌, ◌/◌, ◌≤◌}
use native.Mathlib.Omega.{arith}
use mathlib.Core.Path.{◌≡◌, refl, ◌∙◌}
use mathlib.Core.List.{List, [], ◌∷◌, map}
use lib.ListN.{length, length-map}
use Rattle.rules.specs.Job.{Call, unrolled, draws_of, job_of}
use Rattle.rules.specs.LoadList.{head_size, event_size}
use Rattle.rules.specs.Display.{Run, going, refused}
use Rattle.rules.specs.Plans.{rule_of}
use Rattle.rules.specs.Refusals.{checked, checked_for_c, planned, ticks_of, slots_of, tick_bytes, event_of, written_by, answer_of}
use Rattle.laws.proofs.Jobs.{proper}
use Rattle.laws.proofs.Checks.{Accepted, accepted}
use Rattle.laws.proofs.RoundTrip.{length-list}
use Rattle.plan_laws.proofs.Keeping.{Done}
use Rattle.plan_laws.proofs.Plans.{Any, plan_done, planned_done}
use Rattle.demands.proofs.Witness.{sheet_right}
use Rattle.demands.proofs.Demand1.{plan_accepts}

-- An accepted plan writes a head and an event for each of its loads, of which there are no more than draws.
pub plan_size : (asked : Call) (plan room : ℕ) → (answer_of (planned asked plan room)).number ≡ 0
    → (length (written_by (planned asked plan room)) ≡ head_size + event_size * (answer_of (planned asked plan room)).loads)
    × ((answer_of (planned asked plan room)).loads ≤ length (draws_of asked))
plan_size asked plan room accepted =
    let (taken, known, enough) = (plan_accepts asked plan room).0 accepted in
    let d : Done (job_of asked) (rule_of (job_of asked) plan) Any = plan_done (job_of asked) (proper asked _ taken) plan in
    let begun : length (map event_of d.last.begun) ≡ d.last.loads = length-map d.last.begun event_of ∙ d.listed in
    rw (planned_done asked (unrolled asked) plan room taken known enough d)
    (omega (arith, length-list (map event_of d.last.begun)), d.few)

-- What a plan writes fits into the room.
pub plan_fits : (asked : Call) (plan room : ℕ) → length (written_by (planned asked plan room)) ≤ room
plan_fits asked plan room = by_run (planned asked plan room) refl
  where
    by_run : (r : Run) → planned asked plan room ≡ r → length (written_by r) ≤ room
    by_run (refused n d) e = omega arith
    by_run (going s) e =
        let accepted : (answer_of (planned asked plan room)).number ≡ 0 = rw e in
        let (taken, known, enough) = (plan_accepts asked plan room).0 accepted in
        let (size, few) = rw e at (plan_size asked plan room accepted) in
        omega arith

-- What a check writes fits into the places for ticks and into those for slots.
pub check_fits : (asked : Call) (list : List ℕ) (ticks slots : ℕ)
    → (length (ticks_of (checked asked list ticks slots)) ≤ ticks) × (length (slots_of (checked asked list ticks slots)) ≤ slots)
check_fits asked list ticks slots = by_run (checked asked list ticks slots) refl
  where
    by_run : (r : Run) → checked asked list ticks slots ≡ r → (length (ticks_of r) ≤ ticks) × (length (slots_of r) ≤ slots)
    by_run (refused n d) e = (omega arith, omega arith)
    by_run (going s) e =
        let a : Accepted asked list ticks slots s = accepted asked list ticks slots s e in
        let sheet = rw e at (sheet_right asked list ticks slots s e) in
        (omega (arith, sheet.a_tick_each, a.tick_room), omega (arith, sheet.a_slot_each, a.slot_room))

-- Each tick takes four bytes.
ticks_size : (l : List ℕ) → length (tick_bytes l) ≡ 4 * length l
unfolding tick_bytes
ticks_size [] = refl
ticks_size (t ∷ l) = omega (arith, ticks_size l)

-- What a check for a host in C writes fits into the bytes lent for ticks.
pub check_for_C_fits : (asked : Call) (list : List ℕ) (ticks slots : ℕ) → length (tick_bytes (ticks_of (checked_for_c asked list ticks slots))) ≤ ticks
check_for_C_fits asked list ticks slots =
    omega (arith, ticks_size (ticks_of (checked_for_c asked list ticks slots)), (check_fits asked list (ticks / 4) slots).0)
