-- Which symbols are in the slots after one of them was written.
use Prim.Native.Nat.{ℕ, ◌<◌}
use mathlib.Core.Path.{◌≡◌, ◌∙◌}
use mathlib.Core.Logic.{◌≢◌}
use mathlib.Core.Bool.{true}
use mathlib.Core.List.{List}
use lib.ListN.{length, get_or, set, length-set}
use lib.Seq.{get_or-set_same, get_or-set_other}
use borrow.Author.Tests.{ltb-true}
use Rattle.rules.specs.Basics.{place, stands}
use Rattle.laws.proofs.Search.{place_holds, present}

-- After slot q was written it holds what was written.
pub stands_new : (l : List ℕ) (q x : ℕ) → q < length l → stands x (set l q x) ≡ true
stands_new l q x h = present x (set l q x) q (rw length-set h) (get_or-set_same l q x 0 h)

-- Every symbol that the slot did not hold is still there.
pub stands_kept : (l : List ℕ) (q x y : ℕ) → stands y l ≡ true → (get_or l q 0 ≡ y → ⊥) → stands y (set l q x) ≡ true
stands_kept l q x y h other =
    let less : place y l < length l = ltb-true (place y l) (length l) h in
    let held : get_or l (place y l) 0 ≡ y = place_holds y l less in
    let elsewhere : place y l ≢ q = λ e. other (rw e at held) in
    present y (set l q x) (place y l) (rw length-set less) (get_or-set_other l q (place y l) x 0 elsewhere ∙ held)
