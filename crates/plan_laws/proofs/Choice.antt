-- The slot choice. All that later proofs take from it are two laws: the chosen slot is one of the slots, and if what it holds is drawn
-- soon, so is what every other slot holds.
use Prim.Native.Nat.{ℕ, suc, ◌+◌, ◌<◌, ◌≤◌}
use native.Mathlib.Omega.{arith}
use mathlib.Core.Path.{◌≡◌, refl, ap, ◌∙◌}
use mathlib.Core.Bool.{true, false}
use mathlib.Core.List.{List, [], ◌∷◌, ◌++◌, reverse}
use lib.ListN.{length, get_or, take, length-append}
use lib.Dec.{eqb, ltb}
use borrow.Author.Tests.{ltb-true, ltb-false, lt-ltb, eqb-true, ne_eqb}
use Rattle.rules.specs.Basics.{place, stands}
use Rattle.rules.specs.Job.{Job, free}
use Rattle.rules.specs.Display.{State, loadable}
use Rattle.rules.specs.Plans.{rank, ranks_from, greatest, furthest, opt_slot}
use Rattle.laws.proofs.Cases.{by_test}
use Rattle.laws.proofs.Search.{place_holds, place_within, place_near, place_beyond}
use Rattle.laws.proofs.Ranks.{greatest_least, greatest_stands, length-ranks, rank_at}
use Rattle.plan_laws.proofs.Counting.{total_full, soon, soon_yes, soon_place, useful}

-- A load may go into each slot below k.
below_loadable : (job : Job) (q : ℕ) → q < job.slots → loadable job q ≡ true
below_loadable job q h = lt-ltb q job.slots h

-- The chosen slot is one of the slots.
pub chosen_below : (job : Job) (row slots : List ℕ) → 0 < length slots → furthest job row slots < length slots
unfolding ranks_from
chosen_below job row [] h = absurd (omega arith)
chosen_below job row (x ∷ slots) h =
    rw (length-ranks job row 1 slots) at (greatest_stands (get_or (ranks_from job row 0 (x ∷ slots)) 0 0) (ranks_from job row 1 slots))

-- Where a load may go into every slot, no slot's content comes up further than that of the chosen slot.
pub chosen_furthest : (job : Job) (row slots : List ℕ) → length slots ≤ job.slots → (i : ℕ) → i < length slots
    → rank row (get_or slots i 0) ≤ rank row (get_or slots (furthest job row slots) 0)
chosen_furthest job row slots all i h =
    let ranks : List ℕ = ranks_from job row 0 slots in
    let size : length ranks ≡ length slots = length-ranks job row 0 slots in
    let q : ℕ = furthest job row slots in
    let less : q < length slots = chosen_below job row slots (omega arith) in
    let ranked : (j : ℕ) → j < length slots → get_or ranks j 0 ≡ suc (rank row (get_or slots j 0)) =
    λ j within. rank_at job row 0 slots j within ∙ rw (below_loadable job (0 + j) (omega arith)) in
    let held : get_or ranks q 0 ≡ greatest ranks = place_holds (greatest ranks) ranks (rw size less) in
    let upto : get_or ranks i 0 ≤ greatest ranks = greatest_least ranks i (rw size h) in
    omega (arith, ranked i h, ranked q less)

-- The rank of a symbol is its place, and what has its rank within the row is a symbol.
pub rank_symbol : (row : List ℕ) (x : ℕ) → (x ≡ free → ⊥) → rank row x ≡ place x row
rank_symbol row x h = rw (ne_eqb x free h)

rank_least : (row : List ℕ) (x : ℕ) → rank row x ≤ length row → place x row ≤ rank row x
rank_least row x h = by_test (eqb x free) (λ e. absurd (omega (arith, rw e at h))) (λ e. rw e (omega arith))

-- A rank is no lower than the place.
pub place_rank : (row : List ℕ) (x : ℕ) → place x row ≤ rank row x
place_rank row x =
    let upto : place x row ≤ length row = place_within x row in by_test (eqb x free) (λ t. rw t (omega arith)) (λ t. rw t (omega arith))

-- What comes up at p or later comes up no earlier by its place, whether it is a symbol or marks a free slot.
pub rank_place : (row : List ℕ) (x p : ℕ) → stands free row ≡ false → p ≤ length row → p ≤ rank row x → p ≤ place x row
rank_place row x p none few far =
    by_test (eqb x free)
    (λ e.
    let same : place x row ≡ place free row = ap (λ (y : ℕ). place y row) (eqb-true x free e) in
    omega (arith, ltb-false (place free row) (length row) none))
    (λ e. rw e at far)

-- A symbol that is drawn is not the mark of a free slot.
pub drawn_symbol : (row : List ℕ) (x : ℕ) → stands free row ≡ false → place x row < length row → x ≡ free → ⊥
drawn_symbol row x none less e =
    let same : place x row ≡ place free row = ap (λ (y : ℕ). place y row) e in
    omega (arith, ltb-false (place free row) (length row) none)

-- If what the chosen slot holds is among the next j draws, so is what every slot holds; so no slot is free. Whatever the row goes on with
-- beyond the draws to come, it does not matter here.
pub chosen_soon : (job : Job) (rest beyond slots : List ℕ) (j : ℕ) → length slots ≤ job.slots → stands free rest ≡ false → j ≤ length rest
    → place (get_or slots (furthest job (rest ++ beyond) slots) 0) rest < j
    → (i : ℕ) → i < length slots → place (get_or slots i 0) rest < j
chosen_soon job rest beyond slots j all none few h i less =
    let row : List ℕ = rest ++ beyond in
    let z : ℕ = get_or slots (furthest job row slots) 0 in
    let x : ℕ = get_or slots i 0 in
    let size : length row ≡ length rest + length beyond = length-append rest beyond in
    let near : place z row ≡ place z rest = place_near z rest beyond (omega arith) in
    let symbol : rank row z ≡ place z row = rank_symbol row z (drawn_symbol rest z none (omega arith)) in
    let upto : rank row x ≤ rank row z = chosen_furthest job row slots all i less in
    let soon_too : place x row < j = omega (arith, rank_least row x (omega arith)) in
    by_test (ltb (place x rest) (length rest))
    (λ e. omega (arith, place_near x rest beyond (ltb-true (place x rest) (length rest) e)))
    (λ e. absurd (omega (arith, place_beyond x rest beyond (ltb-false (place x rest) (length rest) e))))

-- The same as a count: then every slot is useful.
pub chosen_useful : (job : Job) (rest beyond slots : List ℕ) (j : ℕ) → length slots ≤ job.slots → stands free rest ≡ false → j ≤ length rest
    → 0 < soon rest j (get_or slots (furthest job (rest ++ beyond) slots) 0) → useful slots rest j ≡ length slots
chosen_useful job rest beyond slots j all none few h =
    total_full (soon rest j) slots (λ i less.
    soon_yes rest j (get_or slots i 0) (chosen_soon job rest beyond slots j all none few (soon_place rest j _ h) i less))

-- The slot that opt takes for a miss at draw number d, with these draws to come and these contents of the slots. Opt draw by draw goes by
-- this and its three laws alone.
unfoldable pub choice : Job → ℕ → List ℕ → List ℕ → ℕ
choice job d rest slots = furthest job (rest ++ reverse (take d job.draws)) slots

-- It is the slot that opt takes in a state.
pub choice_is : (job : Job) (s : State) → opt_slot job s ≡ choice job s.next s.rest s.slots
unfolding choice
choice_is job s = refl

-- It is one of the slots.
pub choice_below : (job : Job) (d : ℕ) (rest slots : List ℕ) → 0 < length slots → choice job d rest slots < length slots
unfolding choice
choice_below job d rest slots h = chosen_below job _ slots h

-- If what it holds is among the next j draws, every slot is useful.
pub choice_useful : (job : Job) (d : ℕ) (rest slots : List ℕ) (j : ℕ) → length slots ≤ job.slots → stands free rest ≡ false
    → j ≤ length rest → 0 < soon rest j (get_or slots (choice job d rest slots) 0) → useful slots rest j ≡ length slots
unfolding choice
choice_useful job d rest slots j all none few h = chosen_useful job rest _ slots j all none few h

-- What it holds comes up furthest both ways.
pub choice_furthest : (job : Job) (d : ℕ) (rest slots : List ℕ) → length slots ≤ job.slots → (i : ℕ) → i < length slots
    → rank (rest ++ reverse (take d job.draws)) (get_or slots i 0)
    ≤ rank (rest ++ reverse (take d job.draws)) (get_or slots (choice job d rest slots) 0)
unfolding choice
choice_furthest job d rest slots all i h = chosen_furthest job (rest ++ reverse (take d job.draws)) slots all i h
