-- What a plan reads off a sane state: the draws that remain, the slot that it takes, and the slots with the load under way counted as landed.
use Prim.Native.Nat.{ℕ, zero, suc, ◌+◌, ◌-◌, ◌<◌}
use native.Mathlib.Omega.{arith}
use mathlib.Core.Path.{◌≡◌, refl, sym, ap, ◌∙◌}
use mathlib.Core.Bool.{true, false}
use mathlib.Core.List.{List}
use lib.ListN.{length, get_or, length-drop}
use lib.Seq.{get_or-drop}
use Rattle.rules.specs.declared.Loading.{Loading}
use Rattle.rules.specs.declared.Loading.TheVariants.{Idle, Under}
use Rattle.rules.specs.Basics.{stands}
use Rattle.rules.specs.Job.{Job, free}
use Rattle.rules.specs.Display.{State, landed_slots, landed_loading}
use Rattle.rules.specs.Plans.{furthest}
use Rattle.laws.proofs.Jobs.{Proper}
use Rattle.laws.proofs.Search.{absent, absent_at}
use Rattle.laws.proofs.Sane.{Sane, SaneState, settled}
use Rattle.plan_laws.proofs.Search.{stands_kept}
use Rattle.plan_laws.proofs.Choice.{chosen_below}

-- Every draw that remains is a symbol.
pub rest_drawable : (job : Job) (next : ℕ) (rest slots : List ℕ) (loading : Loading) → Proper job → Sane job next rest slots loading
    → stands free rest ≡ false
rest_drawable job next rest slots loading proper g =
    absent free rest (λ i less e.
    let size : length rest ≡ length job.draws - next = ap length g.ahead ∙ length-drop next job.draws in
    let there : get_or rest i 0 ≡ get_or job.draws (next + i) 0 = rw g.ahead (get_or-drop next job.draws i 0) in
    absent_at free job.draws proper.drawable (next + i) (omega arith) (sym there ∙ e))

-- The furthest slot along any row is one of the job's.
pub chosen_slot : (job : Job) → Proper job → (row : State → List ℕ) (s : State) → SaneState job s → furthest job (row s) s.slots < job.slots
chosen_slot job proper row s g = rw g.row at (chosen_below job (row s) s.slots (omega (arith, proper.some_slot, g.row)))

-- A load that lands was counted as landed before.
pub settled_landed : (loading : Loading) (slots : List ℕ) → settled (landed_loading loading) (landed_slots loading slots) ≡ settled loading slots
settled_landed Idle slots = refl
settled_landed (Under zero q x) slots = refl
settled_landed (Under (suc left) q x) slots = refl

-- A symbol that a slot holds is among them too.
pub settled_holds : (job : Job) (next : ℕ) (rest slots : List ℕ) (loading : Loading) (x : ℕ) → Sane job next rest slots loading → (x ≡ free → ⊥)
    → stands x slots ≡ true → stands x (settled loading slots) ≡ true
settled_holds job next rest slots Idle x h symbol held = held
settled_holds job next rest slots (Under left q y) x h symbol held =
    stands_kept slots q y x held (λ e. symbol (sym e ∙ (h.under left q y refl).empty))
