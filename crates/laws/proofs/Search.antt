-- The one search: a step of it, what is at the place it finds, and that nothing before that place is what was looked for.
use Prim.Native.Nat.{ℕ, zero, suc, ◌+◌, ◌<◌, ◌≤◌}
use native.Mathlib.Omega.{arith}
use mathlib.Core.Path.{◌≡◌, sym, ◌∙◌}
use mathlib.Core.Bool.{true, false}
use mathlib.Core.List.{List, [], ◌∷◌, ◌++◌}
use lib.ListN.{length, get_or, set, length-set}
use lib.Seq.{get_or-set_same, get_or-set_other}
use lib.Dec.{eqb}
use borrow.Author.Tests.{ltb-true, ltb-false, lt-ltb, eqb-true, eqb-false, eq-eqb, ne_eqb}
use Rattle.rules.specs.Basics.{place, stands}
use Rattle.laws.proofs.Cases.{by_test}

-- It ends at the first element where it can, and goes one further where it does not end.
pub place_cons_here : (x y : ℕ) (l : List ℕ) → x ≡ y → place x (y ∷ l) ≡ 0
unfolding place
place_cons_here x y l e = rw (eq-eqb x y e)

pub place_cons_further : (x y : ℕ) (l : List ℕ) → (x ≡ y → ⊥) → place x (y ∷ l) ≡ suc (place x l)
unfolding place
place_cons_further x y l e = rw (ne_eqb x y e)

-- One more element in front moves a place by at most one.
pub place_cons_most : (x y : ℕ) (l : List ℕ) → place x (y ∷ l) ≤ suc (place x l)
unfolding place
place_cons_most x y l = by_test (eqb x y) (λ e. rw e (omega arith)) (λ e. rw e (omega arith))

-- It finds a place, or goes to the row's end.
pub place_within : (x : ℕ) (l : List ℕ) → place x l ≤ length l
unfolding place
place_within x [] = omega arith
place_within x (y ∷ l) =
    let more : place x l ≤ length l = place_within x l in
    by_test (eqb x y) (λ e. rw e (omega arith)) (λ e. rw e (omega arith))

-- The place that the search finds holds what was looked for.
pub place_holds : (x : ℕ) (l : List ℕ) → place x l < length l → get_or l (place x l) 0 ≡ x
unfolding place
place_holds x [] h = absurd (omega arith)
place_holds x (y ∷ l) h =
    by_test (eqb x y) (λ e. rw e (sym (eqb-true x y e)))
    (λ e. let g : suc (place x l) < suc (length l) = rw e at h in rw e (place_holds x l (omega arith)))

-- No place before it does: the search finds the first.
pub place_first : (x : ℕ) (l : List ℕ) (i : ℕ) → i < length l → get_or l i 0 ≡ x → place x l ≤ i
unfolding place
place_first x [] i h e = absurd (omega arith)
place_first x (y ∷ l) zero h e = rw (eq-eqb x y (sym e)) (omega arith)
place_first x (y ∷ l) (suc i) h e =
    let more : place x l ≤ i = place_first x l i (omega arith) e in
    by_test (eqb x y) (λ t. rw t (omega arith)) (λ t. rw t (omega arith))

-- Along one row and then another: what the first has is found in it, and what it has not is found in the second.
pub place_near : (x : ℕ) (l m : List ℕ) → place x l < length l → place x (l ++ m) ≡ place x l
unfolding place
place_near x [] m h = absurd (omega arith)
place_near x (y ∷ l) m h =
    by_test (eqb x y) (λ e. rw e)
    (λ e. let g : suc (place x l) < suc (length l) = rw e at h in rw (e, place_near x l m (omega arith)))

pub place_beyond : (x : ℕ) (l m : List ℕ) → length l ≤ place x l → place x (l ++ m) ≡ length l + place x m
unfolding place
place_beyond x [] m h = omega arith
place_beyond x (y ∷ l) m h =
    by_test (eqb x y) (λ e. absurd (let g : suc (length l) ≤ 0 = rw e at h in omega arith))
    (λ e.
    let g : suc (length l) ≤ suc (place x l) = rw e at h in
    let more : place x (l ++ m) ≡ length l + place x m = place_beyond x l m (omega arith) in
    rw e (omega arith))

-- What is not in a row is held by none of its places.
pub absent_at : (x : ℕ) (l : List ℕ) → stands x l ≡ false → (i : ℕ) → i < length l → get_or l i 0 ≡ x → ⊥
absent_at x l e i h f =
    let far : length l ≤ place x l = ltb-false (place x l) (length l) e in
    let near : place x l ≤ i = place_first x l i h f in
    omega arith

-- What none of its places holds is not in it, and what one of them holds does.
pub absent : (x : ℕ) (l : List ℕ) → ((i : ℕ) → i < length l → get_or l i 0 ≡ x → ⊥) → stands x l ≡ false
absent x l none =
    by_test (stands x l)
    (λ e. let found : place x l < length l = ltb-true (place x l) (length l) e in absurd (none (place x l) found (place_holds x l found)))
    (λ e. e)

pub present : (x : ℕ) (l : List ℕ) (i : ℕ) → i < length l → get_or l i 0 ≡ x → stands x l ≡ true
present x l i h e = let near : place x l ≤ i = place_first x l i h e in lt-ltb (place x l) (length l) (omega arith)

-- Where a slot takes another symbol, whatever is neither that symbol nor in the row before is not in the row after.
pub absent_set : (x : ℕ) (l : List ℕ) (q y : ℕ) → stands x l ≡ false → (x ≡ y → ⊥) → stands x (set l q y) ≡ false
absent_set x l q y e other =
    absent x (set l q y)
    (λ i h f.
    let within : i < length l = rw length-set at h in
    by_test (eqb i q)
    (λ t.
    let here : i ≡ q = eqb-true i q t in
    let inside : q < length l = omega arith in
    other (sym f ∙ rw here (get_or-set_same l q y 0 inside)))
    (λ t. absent_at x l e i within (sym (get_or-set_other l q i y 0 (eqb-false i q t)) ∙ f)))
