-- Counting over the slots: a sum of one number for each slot, and two such numbers, whether a symbol is drawn soon and whether it
-- is a given one.
use Prim.Native.Nat.{ℕ, zero, suc, ◌+◌, ◌-◌, ◌<◌, ◌≤◌, min}
use native.Mathlib.Omega.{arith}
use mathlib.Core.Path.{◌≡◌, refl, sym, ◌∙◌}
use mathlib.Core.Bool.{true, false, cond}
use mathlib.Core.List.{List, [], ◌∷◌}
use lib.ListN.{length, get_or, set}
use lib.Dec.{eqb, ltb}
use borrow.Author.Tests.{ltb-true, ltb-false, eqb-true, eqb-false}
use Rattle.rules.specs.Basics.{place, stands}
use Rattle.laws.proofs.Search.{place_cons_here, place_cons_further}
use Rattle.laws.proofs.Cases.{by_test}
use Rattle.laws.proofs.Symbols.{stands_cons}

-- The sum of a number for each slot.
unfoldable pub total : (ℕ → ℕ) → List ℕ → ℕ
total f [] = 0
total f (x ∷ l) = f x + total f l

-- 1 where a symbol is among the next j draws, else 0. It is used for j up to the number of draws that remain.
unfoldable pub soon : List ℕ → ℕ → ℕ → ℕ
soon rest j x = min 1 (j - place x rest)

-- How many slots hold a symbol that is among the next j draws.
abbrev pub useful : List ℕ → List ℕ → ℕ → ℕ
useful slots rest j = total (soon rest j) slots

-- 1 for a given symbol, else 0.
abbrev pub same : ℕ → ℕ → ℕ
same x y = cond (eqb x y) 1 0

-- How many slots hold a given symbol.
abbrev pub holders : ℕ → List ℕ → ℕ
holders x slots = total (same x) slots

-- Writing a slot: what it held goes, what it holds now comes.
pub total_set : (f : ℕ → ℕ) (l : List ℕ) (q y : ℕ) → q < length l → total f (set l q y) + f (get_or l q 0) ≡ total f l + f y
unfolding total
total_set f [] q y h = absurd (omega arith)
total_set f (x ∷ l) zero y h = omega arith
total_set f (x ∷ l) (suc q) y h =
    let more : total f (set l q y) + f (get_or l q 0) ≡ total f l + f y = total_set f l q y (omega arith) in omega arith

-- Writing a slot brings at most what it holds now.
pub total_set_most : (f : ℕ → ℕ) (l : List ℕ) (q y : ℕ) → total f (set l q y) ≤ total f l + f y
unfolding total
total_set_most f [] q y = omega arith
total_set_most f (x ∷ l) zero y = omega arith
total_set_most f (x ∷ l) (suc q) y =
    let more : total f (set l q y) ≤ total f l + f y = total_set_most f l q y in omega arith

-- A sum of numbers that are 0 or 1 is at most the number of slots.
pub total_most : (f : ℕ → ℕ) (l : List ℕ) → ((x : ℕ) → f x ≤ 1) → total f l ≤ length l
unfolding total
total_most f [] h = omega arith
total_most f (x ∷ l) h =
    let more : total f l ≤ length l = total_most f l h in
    let first : f x ≤ 1 = h x in
    omega arith

-- It is that number where each is 1.
pub total_full : (f : ℕ → ℕ) (l : List ℕ) → ((i : ℕ) → i < length l → f (get_or l i 0) ≡ 1) → total f l ≡ length l
unfolding total
total_full f [] h = refl
total_full f (x ∷ l) h =
    let more : total f l ≡ length l = total_full f l (λ i less. h (suc i) (omega arith)) in
    let first : f x ≡ 1 = h 0 (omega arith) in
    omega arith

-- A symbol counts whose place is before the j-th draw from now.
pub soon_yes : (rest : List ℕ) (j x : ℕ) → place x rest < j → soon rest j x ≡ 1
unfolding soon
soon_yes rest j x h = omega arith

-- A symbol whose place is not before the j-th draw does not count.
pub soon_not : (rest : List ℕ) (j x : ℕ) → j ≤ place x rest → soon rest j x ≡ 0
unfolding soon
soon_not rest j x h = omega arith

-- A symbol that counts has its place before the j-th draw.
pub soon_place : (rest : List ℕ) (j x : ℕ) → 0 < soon rest j x → place x rest < j
unfolding soon
soon_place rest j x h = omega arith

-- A symbol counts at most once.
pub soon_most : (rest : List ℕ) (j x : ℕ) → soon rest j x ≤ 1
unfolding soon
soon_most rest j x = omega arith

-- No more slots are useful than there are.
pub useful_most : (slots rest : List ℕ) (j : ℕ) → useful slots rest j ≤ length slots
useful_most slots rest j = total_most (soon rest j) slots (soon_most rest j)

-- With no draws to look at, no slot is useful.
pub useful_none : (slots rest : List ℕ) → useful slots rest 0 ≡ 0
unfolding total
useful_none [] rest = refl
useful_none (x ∷ slots) rest =
    let more : useful slots rest 0 ≡ 0 = useful_none slots rest in
    let first : soon rest 0 x ≡ 0 = soon_not rest 0 x (omega arith) in
    omega arith

-- A draw of x, for one slot: before it the slot counts if it holds x or counts after it.
soon_step : (x : ℕ) (rest : List ℕ) (j y : ℕ) → soon (x ∷ rest) (suc j) y ≡ cond (eqb x y) 1 (soon rest j y)
unfolding soon
soon_step x rest j y =
    by_test (eqb x y)
    (λ e. rw (e, place_cons_here y x rest (sym (eqb-true x y e))) (omega arith))
    (λ e. rw (e, place_cons_further y x rest (λ g. eqb-false x y e (sym g))) (omega arith))

soon_again : (x : ℕ) (rest : List ℕ) (j y : ℕ) → soon rest j x ≡ 1 → soon (x ∷ rest) (suc j) y ≡ soon rest j y
soon_again x rest j y h =
    rw soon_step (by_test (eqb x y) (λ e. rw e (rw (eqb-true x y e) at (sym h))) (λ e. rw e))

soon_last : (x : ℕ) (rest : List ℕ) (j y : ℕ) → soon rest j x ≡ 0 → soon (x ∷ rest) (suc j) y ≡ soon rest j y + same x y
soon_last x rest j y h =
    rw soon_step (by_test (eqb x y) (λ e. rw (e, rw (eqb-true x y e) at h)) (λ e. rw e (omega arith)))

-- Where x is drawn soon again, a draw of x changes no count; where it is not, each slot that holds x counts no more.
draw_again : (x : ℕ) (rest : List ℕ) (j : ℕ) (slots : List ℕ) → soon rest j x ≡ 1
    → useful slots (x ∷ rest) (suc j) ≡ useful slots rest j
unfolding total
draw_again x rest j [] h = refl
draw_again x rest j (y ∷ slots) h = rw (soon_again x rest j y h, draw_again x rest j slots h)

draw_last : (x : ℕ) (rest : List ℕ) (j : ℕ) (slots : List ℕ) → soon rest j x ≡ 0
    → useful slots (x ∷ rest) (suc j) ≡ useful slots rest j + holders x slots
unfolding total
draw_last x rest j [] h = refl
draw_last x rest j (y ∷ slots) h = rw (soon_last x rest j y h, draw_last x rest j slots h) (omega arith)

-- A draw of x, by the slots that hold it.
module _ (x : ℕ) (rest : List ℕ) (j : ℕ) (slots : List ℕ) where
  either : {P : Type 0} → (soon rest j x ≡ 1 → P) → (soon rest j x ≡ 0 → P) → P
  either again last =
      by_test (ltb (place x rest) j)
      (λ e. again (soon_yes rest j x (ltb-true _ _ e)))
      (λ e. last (soon_not rest j x (ltb-false _ _ e)))

  -- Where some slot holds x, a useful slot is lost unless x is drawn soon again.
  pub drawn_held : 0 < holders x slots → useful slots rest j + 1 ≤ useful slots (x ∷ rest) (suc j) + soon rest j x
  drawn_held h = either (λ e. omega (arith, draw_again x rest j slots e)) (λ e. omega (arith, draw_last x rest j slots e))

  -- Where at most one does, no more than that one is lost.
  pub drawn_once : holders x slots ≤ 1 → useful slots (x ∷ rest) (suc j) + soon rest j x ≤ useful slots rest j + 1
  drawn_once h = either (λ e. omega (arith, draw_again x rest j slots e)) (λ e. omega (arith, draw_last x rest j slots e))

  -- Where none does, nothing changes.
  pub drawn_unheld : holders x slots ≡ 0 → useful slots (x ∷ rest) (suc j) ≡ useful slots rest j
  drawn_unheld h = either (λ e. omega (arith, draw_again x rest j slots e)) (λ e. omega (arith, draw_last x rest j slots e))

-- Some slot holds x where the search finds it.
pub holders_found : (x : ℕ) (slots : List ℕ) → stands x slots ≡ true → 0 < holders x slots
unfolding total
holders_found x [] h = absurd (omega (arith, ltb-true (place x []) 0 h))
holders_found x (y ∷ slots) h =
    by_test (eqb x y) (λ e. rw e (omega arith))
    (λ e. omega (arith, holders_found x slots (rw e at (sym (stands_cons x y slots) ∙ h))))

-- And none does where it is not found.
pub holders_unfound : (x : ℕ) (slots : List ℕ) → stands x slots ≡ false → holders x slots ≡ 0
unfolding total
holders_unfound x [] h = refl
holders_unfound x (y ∷ slots) h =
    by_test (eqb x y) (λ e. let z : true ≡ false = rw e at (sym (stands_cons x y slots) ∙ h) in
    let impossible : ◌≡◌ {A = ℕ} 0 1 = cc in omega arith)
    (λ e. rw e (omega (arith, holders_unfound x slots (rw e at (sym (stands_cons x y slots) ∙ h)))))
