-- Plans that load on demand, opt and lru: what they keep, whichever slot they take.
use Prim.Native.Nat.{ℕ, ◌<◌}
use native.Mathlib.Omega.{arith}
use mathlib.Core.Path.{◌≡◌, ap}
use mathlib.Core.Bool.{Bool, true, false, not, ◌&&◌}
use lib.ListN.{length, set}
use borrow.Author.Tests.{not-true, not-false}
use Rattle.std.specs.Prelude.{Some}
use Rattle.rules.specs.Basics.{stands}
use Rattle.rules.specs.Job.{Job}
use Rattle.rules.specs.Display.{load, State, idle, awaited}
use Rattle.rules.specs.Plans.{missing, furthest, behind, both_ways, on_demand, opt_slot, opt, lru}
use Rattle.laws.proofs.Moves.{Begins, load_free}
use Rattle.laws.proofs.Jobs.{Proper}
use Rattle.laws.proofs.Sane.{SaneState, SaneMoves, awaited_symbol}
use Rattle.plan_laws.proofs.States.{chosen_slot}
use Rattle.plan_laws.proofs.Asking.{asked_load, asked_none, both_true, other_false}
use Rattle.plan_laws.proofs.Going.{Ready}
use Rattle.plan_laws.proofs.Keeping.{Done, done}
use Rattle.plan_laws.proofs.Rising.{Rising, rising_moves, rising_few, missing_now, missing_later}

abbrev wanting : State → Bool
wanting s = idle s.loading && not (stands (awaited s) s.slots)

-- A load on demand is the draw's own, missing with no load under way.
pub record Demanded (slot : State → ℕ) (q x : ℕ) (s : State) : Type 0 where
  pub quiet : idle s.loading ≡ true
  pub missed : stands (awaited s) s.slots ≡ false
  pub to : slot s ≡ q
  pub symbol : awaited s ≡ x

-- What such a plan asks for is a load on demand.
pub demanded : (slot : State → ℕ) (q x : ℕ) (s : State) → (on_demand slot).asks s ≡ Some (load q x) → Demanded slot q x s
demanded slot q x s e =
    let (test, to, symbol) = asked_load (wanting s) (slot s) (awaited s) q x e in
    let (quiet, missed) = both_true (idle s.loading) (not (stands (awaited s) s.slots)) test in
    record { quiet = quiet; missed = not-true (stands (awaited s) s.slots) missed; to = to; symbol = symbol }

module _ (job : Job) (proper : Proper job) (slot : State → ℕ) (below : (s : State) → SaneState job s → slot s < job.slots) where
  -- In every sane state such a plan is ready.
  demand_ready : (s : State) → 0 < length s.rest → SaneState job s → Ready job (on_demand slot).asks s
  demand_ready s more g =
      record {
        permitted = λ q x e.
            let d : Demanded slot q x s = demanded slot q x s e in
            rw (← d.to, ← d.symbol)
            (load_free job (slot s) (awaited s) s d.quiet (below s g)
            (awaited_symbol job s.next s.rest s.slots s.loading proper g more)
            d.missed);
        served = λ e quiet.
            let test : wanting s ≡ false = asked_none (wanting s) (slot s) (awaited s) e in
            not-false _ (other_false (idle s.loading) (not (stands (awaited s) s.slots)) test (ap idle quiet));
      }

  -- Its load is for the draw itself, which is missing before it and not after it.
  demand_raises : (q x : ℕ) (s : State) → Begins job (on_demand slot) q x s → SaneState job s
      → missing s.slots s.rest < missing (set s.slots q x) s.rest
  demand_raises q x s b g =
      let d : Demanded slot q x s = demanded slot q x s b.asks in
      let now : missing s.slots s.rest ≡ 0 = missing_now s.slots s.rest b.more d.missed in
      missing_later s.slots s.rest q x (rw g.row b.slot) (omega arith) (omega arith) (rw now d.symbol)

  demand_moves : SaneMoves job (on_demand slot) Rising Rising Rising
  demand_moves = rising_moves job (on_demand slot) proper demand_raises

  -- So it is done in time.
  pub demand_done : Done job (on_demand slot) Rising
  demand_done =
      done job proper (on_demand slot).asks Rising demand_moves (omega arith) (λ s more g h. demand_ready s more g) (rising_few job)

-- Opt takes the furthest slot both ways, lru along the draws made. Opt is done in time.
pub opt_done : (job : Job) → Proper job → Done job (opt job) Rising
opt_done job proper = demand_done job proper (opt_slot job) (chosen_slot job proper (both_ways job))

-- Lru is done in time.
pub lru_done : (job : Job) → Proper job → Done job (lru job) Rising
lru_done job proper = demand_done job proper (λ s. furthest job (behind job s) s.slots) (chosen_slot job proper (behind job))
