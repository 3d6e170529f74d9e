-- What demand 3 forbids: a display whose opt gives up the nearest symbol instead of the furthest. Everything else is as the rules have it,
-- and on one small sheet the plan made from it is worse than a list that a check accepts.
use Prim.Native.Nat.{ℕ, ◌*◌, ◌≤◌, min}
use native.Mathlib.Omega.{arith}
use mathlib.Core.Path.{◌≡◌, refl}
use mathlib.Core.List.{List, [], ◌∷◌, map}
use Rattle.rules.specs.Basics.{place}
use Rattle.rules.specs.Job.{Call, call, symbols, times_over, job_of}
use Rattle.rules.specs.LoadList.{event, events_in, events_bytes, list_bytes}
use Rattle.rules.specs.Display.{Run, Rule, run, tick, beginning, happened}
use Rattle.rules.specs.Plans.{rank, ranks_from, greatest, ahead, on_demand, opt, conservative, run_plan, begun_in}
use Rattle.rules.specs.Refusals.{checked, due, first_bad_tick, doubled, in_time, answer_of}
use Rattle.rules.specs.Worked.{symbol_bytes, job_bytes, numbers, accepts}
use Rattle.demands.proofs.Demand3.{NoWorse}

-- The smallest of some numbers.
unfoldable least : List ℕ → ℕ
least [] = 0
least (r ∷ []) = r
least (r ∷ q ∷ l) = min r (least (q ∷ l))

-- The slot whose content comes up soonest along a row.
abbrev nearest : List ℕ → List ℕ → ℕ
nearest row slots = place (least (map (rank row) slots)) (map (rank row) slots)

-- Opt with that slot given up.
abbrev nearest_opt : Rule
nearest_opt = on_demand (λ s. nearest (ahead s) s.slots)

-- Two slots, four ticks to a load, and two symbols drawn by turns, of which one is in a slot.
abbrev sheet : Call
sheet = call (job_bytes 4 (1 ∷ 2 ∷ []) (3 ∷ 1 ∷ 3 ∷ 1 ∷ [])) 1

-- Conservative, made from some opt.
abbrev plan_of : Rule → Run
plan_of some_opt = in_time (run_plan (job_of sheet) (conservative (begun_in (run_plan (job_of sheet) some_opt))))

-- A list that puts the missing symbol into the slot that is not needed.
abbrev listed : Run
listed = checked sheet (list_bytes (event 0 1 3 ∷ [])) 4 4

-- The list is accepted, with eight ticks and one load, and from the furthest choice conservative is as good.
one_load : (numbers (answer_of listed) ≡ accepts 8 4 1 4) × (numbers (answer_of (plan_of (opt (job_of sheet)))) ≡ accepts 8 4 1 4)
unfolding checked symbol_bytes run tick beginning happened place symbols times_over doubled ranks_from greatest events_in events_bytes due first_bad_tick
one_load = (refl, refl)

-- From the nearest choice it loads at every draw.
four_loads : numbers (answer_of (plan_of nearest_opt)) ≡ accepts 20 16 4 4
unfolding least symbol_bytes run tick beginning happened place symbols times_over
four_loads = refl

-- So neither half of demand 3 holds of it: it makes four times the list's loads, and takes more than twice the list's ticks.
nearest_is_worse : ((answer_of (plan_of nearest_opt)).loads ≤ (answer_of listed).loads → ⊥)
    × ((answer_of (plan_of nearest_opt)).elapsed ≤ 2 * (answer_of listed).elapsed → ⊥)
unfolding least checked symbol_bytes run tick beginning happened place symbols times_over doubled events_in events_bytes due first_bad_tick
nearest_is_worse = (
  λ h. let more : 4 ≤ 1 = h in omega arith,
  λ h. let longer : 20 ≤ 16 = h in omega arith,
)

-- Demand 3 as it is stated refuses it.
nearest_is_refused : NoWorse (answer_of (plan_of nearest_opt)) (answer_of listed) → ⊥
nearest_is_refused better = nearest_is_worse.0 better.loads
