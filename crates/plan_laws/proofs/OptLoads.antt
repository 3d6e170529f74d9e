-- The loads that the run of a plan on demand begins are its misses draw by draw, in their order; and so it is with opt.
use Prim.Native.Nat.{ℕ, ◌<◌}
use native.Mathlib.Omega.{arith}
use mathlib.Core.Path.{◌≡◌, refl, ap}
use mathlib.Core.Bool.{true}
use mathlib.Core.List.{List, [], ◌∷◌, ◌++◌, map, append_assoc, append-nil}
use lib.ListN.{length, set}
use lib.Seq.{set-set}
use Rattle.rules.specs.declared.Loading.{Loading}
use Rattle.rules.specs.Basics.{stands}
use Rattle.rules.specs.Job.{Job, free}
use Rattle.rules.specs.Display.{State, Loaded, loaded, awaited}
use Rattle.rules.specs.Plans.{on_demand, opt_slot, opt, run_plan, begun_in}
use Rattle.laws.proofs.Rows.{map_snoc}
use Rattle.laws.proofs.Jobs.{Proper}
use Rattle.laws.proofs.Sane.{SaneMoves, settled, awaited_symbol, reached_sanely}
use Rattle.plan_laws.proofs.Choice.{choice, choice_is, choice_below}
use Rattle.plan_laws.proofs.Misses.{Miss, miss, Choosing, Below, misses_by, by_over, by_drawn, by_now}
use Rattle.plan_laws.proofs.States.{settled_landed, settled_holds}
use Rattle.plan_laws.proofs.Keeping.{Done}
use Rattle.plan_laws.proofs.Rising.{Rising}
use Rattle.plan_laws.proofs.OnDemand.{Demanded, demanded, opt_done}

-- A load begun as a miss: the draw that it was begun for, its slot and its symbol.
abbrev pub miss_of : Loaded → Miss
miss_of (loaded t d q x) = miss d q x

-- All misses of a job, from the start.
abbrev pub all_by : Choosing → Job → List Miss
all_by pick job = misses_by pick 0 job.starting job.draws

abbrev pub misses_of : Job → List Miss
misses_of job = all_by (choice job) job

module _ (job : Job) (proper : Proper job) (slot : State → ℕ) (pick : Choosing) (below : Below pick)
    (is : (s : State) → slot s ≡ pick s.next s.rest s.slots) where
  -- The loads begun so far and the misses to come are all misses.
  abbrev Worked : State → Type 0
  Worked s = map miss_of s.begun ++ misses_by pick s.next (settled s.loading s.slots) s.rest ≡ all_by pick job

  worked_moves : SaneMoves job (on_demand slot) Worked Worked Worked
  worked_moves =
      record {
        lands = λ s more g h. rw (settled_landed s.loading s.slots) h;
        passes = λ s more a g h. h;
        begins = λ q x s b g h.
            let d : Demanded slot q x s = demanded slot q x s b.asks in
            let still : settled s.loading s.slots ≡ s.slots = ap (λ (l : Loading). settled l s.slots) b.quiet in
            let some : 0 < length s.slots = omega (arith, proper.some_slot, g.row) in
            let before : map miss_of s.begun ++ misses_by pick s.next s.slots s.rest ≡ all_by pick job = rw still at h in
            let first : misses_by pick s.next s.slots s.rest ≡ miss s.next q x ∷ misses_by pick s.next (set s.slots q x) s.rest =
            rw (← d.to, ← d.symbol, is s) (by_now pick below s.next s.slots s.rest some b.more d.missed) in
            rw (set-set, map_snoc, append_assoc) (rw first at before);
        draws = λ q s d g h.
            let symbol : awaited s ≡ free → ⊥ = awaited_symbol job s.next s.rest s.slots s.loading proper g d.more in
            let held : stands (awaited s) (settled s.loading s.slots) ≡ true =
            settled_holds job s.next s.rest s.slots s.loading (awaited s) g symbol d.held in
            rw (by_drawn pick s.next (settled s.loading s.slots) s.rest d.more held) at h;
        waits = λ s w g h. h;
      }

  -- The loads that it begins are the misses of the job, each at its draw, in their order.
  pub demand_loads : Done job (on_demand slot) Rising → map miss_of (begun_in (run_plan job (on_demand slot))) ≡ all_by pick job
  demand_loads d =
      let last : State = d.last in
      let worked : Worked last = reached_sanely job (on_demand slot) Worked Worked Worked proper worked_moves refl _ last d.ran in
      let none : misses_by pick last.next (settled last.loading last.slots) last.rest ≡ [] = by_over pick _ _ last.rest d.over in
      rw d.ran (rw (none, append-nil) at worked)

pub opt_loads : (job : Job) → Proper job → map miss_of (begun_in (run_plan job (opt job))) ≡ misses_of job
opt_loads job proper = demand_loads job proper (opt_slot job) (choice job) (choice_below job) (choice_is job) (opt_done job proper)
