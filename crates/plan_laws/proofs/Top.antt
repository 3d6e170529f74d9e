-- The greatest of the first numbers of a row, one number at a time.
use Prim.Native.Nat.{ℕ, zero, suc, ◌+◌, ◌≤◌, max}
use native.Mathlib.Omega.{arith}
use mathlib.Core.Path.{◌≡◌, refl, ap}
use mathlib.Core.List.{List, [], ◌∷◌}
use lib.ListN.{get_or, drop}

-- The greatest of a number and the first j of a row.
unfoldable pub top : ℕ → ℕ → List ℕ → ℕ
top most zero l = most
top most (suc j) [] = most
top most (suc j) (r ∷ l) = top (max most r) j l

-- Of no numbers it is the one that they begin with.
pub top_none : (most j : ℕ) → top most j [] ≡ most
unfolding top
top_none most zero = refl
top_none most (suc j) = refl

-- One number more in two rows.
pub top_both : (most most' a b : ℕ) (l m : List ℕ) → most ≤ most' → ((j : ℕ) → top (max most a) j l ≤ top (max most' b) j m)
    → (j : ℕ) → top most j (a ∷ l) ≤ top most' j (b ∷ m)
unfolding top
top_both most most' a b l m upto later zero = upto
top_both most most' a b l m upto later (suc j) = later j

-- The greatest of one number more.
pub top_more : (most j r : ℕ) (l m : List ℕ) → drop j l ≡ r ∷ m → top most (j + 1) l ≡ max (top most j l) r
unfolding top
top_more most zero r [] m e = let z : ◌≡◌ {A = ℕ} 0 1 = cc in absurd (omega arith)
top_more most zero r (y ∷ l) m e = let is : y ≡ r = cc in ap (max most) is
top_more most (suc j) r [] m e = let z : ◌≡◌ {A = ℕ} 0 1 = cc in absurd (omega arith)
top_more most (suc j) r (y ∷ l) m e = let z : suc j + 1 ≡ suc (j + 1) = omega arith in rw z (top_more (max most y) j r l m e)

-- Each of them is at most that.
pub top_least : (most j : ℕ) (l : List ℕ) → get_or l j 0 ≤ top most (j + 1) l
unfolding top
top_least most zero [] = omega arith
top_least most zero (r ∷ l) = omega arith
top_least most (suc j) [] = omega arith
top_least most (suc j) (r ∷ l) = let z : suc j + 1 ≡ suc (j + 1) = omega arith in rw z (top_least (max most r) j l)
