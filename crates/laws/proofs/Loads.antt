-- What equal loads and equal events have in common.
use Prim.Native.Nat.{ℕ}
use mathlib.Core.Path.{◌≡◌, ap}
use Rattle.std.specs.Prelude.{Option, Some, None}
use Rattle.rules.specs.declared.Event.{Event}
use Rattle.rules.specs.declared.Load.{Load}
use Rattle.rules.specs.LoadList.{event}
use Rattle.rules.specs.Display.{load}

load_or : Load → Option Load → Load
load_or none None = none
load_or none (Some l) = l

pub same_load : (q x r y : ℕ) → Some (load q x) ≡ Some (load r y) → (q ≡ r) × (x ≡ y)
unfolding load_or
same_load q x r y e = (ap (λ (o : Option Load). (load_or (load 0 0) o).slot) e, ap (λ (o : Option Load). (load_or (load 0 0) o).symbol) e)

pub same_event : (t q x u r y : ℕ) → event t q x ≡ event u r y → (t ≡ u) × (q ≡ r) × (x ≡ y)
same_event t q x u r y e = (ap (λ (e : Event). e.tick) e, ap (λ (e : Event). e.slot) e, ap (λ (e : Event). e.symbol) e)
