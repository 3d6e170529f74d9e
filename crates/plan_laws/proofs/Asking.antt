-- What a plan asks for is a load under a test, or nothing: what it tells that a load was asked for, and that none was.
use Rattle.std.specs.Prelude.{Some, None}
use Prim.Native.Nat.{ℕ}
use native.Mathlib.Omega.{arith}
use mathlib.Core.Path.{◌≡◌, refl}
use mathlib.Core.Bool.{Bool, true, false, cond, ◌&&◌}
use Rattle.rules.specs.Display.{load}
use Rattle.laws.proofs.Loads.{same_load}

-- A load that was asked for is the one under the test, and the test held.
pub asked_load : (test : Bool) (q x q' x' : ℕ) → cond test (Some (load q x)) None ≡ Some (load q' x') → (test ≡ true) × (q ≡ q') × (x ≡ x')
asked_load true q x q' x' e = let (slots, symbols) = same_load q x q' x' e in (refl, slots, symbols)
asked_load false q x q' x' e = let impossible : ◌≡◌ {A = ℕ} 0 1 = cc in absurd (omega arith)

-- Where none was asked for, the test failed.
pub asked_none : (test : Bool) (q x : ℕ) → cond test (Some (load q x)) None ≡ None → test ≡ false
asked_none true q x e = let impossible : ◌≡◌ {A = ℕ} 0 1 = cc in absurd (omega arith)
asked_none false q x e = refl

-- Where two tests held together, each held.
pub both_true : (a b : Bool) → (a && b) ≡ true → (a ≡ true) × (b ≡ true)
both_true true b e = (refl, e)
both_true false b e = let impossible : ◌≡◌ {A = ℕ} 0 1 = cc in absurd (omega arith)

-- Of two tests of which one held, the other failed where they did not both hold.
pub other_false : (a b : Bool) → (a && b) ≡ false → a ≡ true → b ≡ false
other_false true b e held = e
other_false false b e held = let impossible : ◌≡◌ {A = ℕ} 0 1 = cc in absurd (omega arith)
