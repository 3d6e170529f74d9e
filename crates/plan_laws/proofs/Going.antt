-- What keeps a tick from being refused: a load that the display takes, and a wait that will end.
use Prim.Native.Nat.{ℕ}
use native.Mathlib.Omega.{arith}
use mathlib.Core.Path.{◌≡◌, refl, sym, ap, ◌∙◌}
use mathlib.Core.Bool.{true}
use Rattle.std.specs.Prelude.{Option, Some, None}
use Rattle.rules.specs.declared.Load.{Load}
use Rattle.rules.specs.declared.Loading.TheVariants.{Idle}
use Rattle.rules.specs.Basics.{stands}
use Rattle.rules.specs.Job.{Job}
use Rattle.rules.specs.Order.{Verdict, clear, first_of}
use Rattle.rules.specs.Display.{load, State, going, unless, land, begin, load_tests, beginning, awaited, happening_of, moved, happened, then, tick}
use Rattle.rules.specs.Plans.{asking}
use Rattle.laws.proofs.Goes.{unstuck}

-- A plan that is ready in a state asks only for a load that the display takes, and for one where the draw would wait with none under way.
pub record Ready (job : Job) (asks : State → Option Load) (s : State) : Type 0 where
  pub permitted : (q x : ℕ) → asks s ≡ Some (load q x) → first_of (load_tests job q x s) ≡ clear
  pub served : asks s ≡ None → s.loading ≡ Idle → stands (awaited s) s.slots ≡ true

goes_through : (s : State) → (s.loading ≡ Idle → stands (awaited s) s.slots ≡ true)
    → (s' : State) × (happened (happening_of s) true s ≡ going s')
unfolding happened
goes_through s h =
    (moved (happening_of s) s, rw (unstuck s.loading (awaited s) s.slots true (λ quiet unheld. sym (h quiet) ∙ unheld)))

-- Where a plan is ready, the tick is not refused, whether a load begins in it or not.
module _ (job : Job) (asks : State → Option Load) (s : State) (ready : Ready job asks (land s)) where
  begins_or_not : (b : Option Load) → asks (land s) ≡ b
      → (s' : State) × (then (beginning job b (land s)) (λ z. happened (happening_of z) true z) ≡ going s')
  unfolding beginning
  begins_or_not None e = goes_through (land s) (ready.served e)
  begins_or_not (Some this) e =
      let (s', h) = goes_through (begin job this.slot this.symbol (land s)) (λ i. let z : ◌≡◌ {A = ℕ} 0 1 = cc in absurd (omega arith)) in
      let begun : State = begin job this.slot this.symbol (land s) in
      let permitted = ready.permitted this.slot this.symbol e in
      (s', ap (λ (v : Verdict). then (unless v (going begun)) (λ z. happened (happening_of z) true z)) permitted ∙ h)

  -- The tick goes on to a next state.
  pub goes_on : (s' : State) × (tick job (asking asks) s ≡ going s')
  unfolding tick
  goes_on = begins_or_not (asks (land s)) refl
