-- The one search walked along a list: what the element at a place says of the first place of x from there on.
use Prim.Native.Nat.{ℕ, suc, ◌+◌, ◌<◌, ◌≤◌}
use native.Mathlib.Omega.{arith}
use native.Mathlib.Numerals.{add-one}
use mathlib.Core.Path.{◌≡◌, sym, ap, ◌∙◌}
use mathlib.Core.Bool.{true, false}
use mathlib.Core.List.{List}
use lib.ListN.{length, get_or, drop, drop_of_length-le}
use lib.Seq.{drop-cons}
use borrow.Author.Tests.{lt-ltb, le-ltb}
use Rattle.rules.specs.Basics.{place, stands}
use Rattle.laws.proofs.Search.{place_cons_here, place_cons_further}

module _ (x : ℕ) (l : List ℕ) (i : ℕ) (within : i < length l) where
  pub place_here : get_or l i 0 ≡ x → place x (drop i l) ≡ 0
  place_here e = ap (place x) (drop-cons l i 0 within) ∙ place_cons_here x (get_or l i 0) _ (sym e)

  pub place_further : (get_or l i 0 ≡ x → ⊥) → place x (drop i l) ≡ suc (place x (drop (i + 1) l))
  place_further f = ap (place x) (drop-cons l i 0 within) ∙ rw add-one (place_cons_further x (get_or l i 0) _ (λ e. f (sym e)))

pub place_past : (x : ℕ) (l : List ℕ) (i : ℕ) → length l ≤ i → place x (drop i l) ≡ 0
unfolding place
place_past x l i h = ap (place x) (drop_of_length-le l h)

-- What a place found says of whether x is in the list at all.
pub found_stands : (x : ℕ) (l : List ℕ) (r k : ℕ) → r ≡ place x l → length l ≡ k → r < k → stands x l ≡ true
found_stands x l r k at size h = lt-ltb (place x l) (length l) (omega arith)

pub missed_stands : (x : ℕ) (l : List ℕ) (r k : ℕ) → r ≡ place x l → length l ≡ k → k ≤ r → stands x l ≡ false
missed_stands x l r k at size h = le-ltb (place x l) (length l) (omega arith)
