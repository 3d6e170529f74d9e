-- The ranks that a slot is chosen by: the greatest of some numbers, the first place that has it, and the ranks of the slots by place.
use Prim.Native.Nat.{ℕ, zero, suc, ◌+◌, ◌<◌, ◌≤◌, max}
use native.Mathlib.Omega.{arith}
use mathlib.Core.Path.{◌≡◌, refl, ap}
use mathlib.Core.Bool.{cond}
use mathlib.Core.List.{List, [], ◌∷◌}
use lib.ListN.{length, get_or}
use lib.Dec.{ltb}
use borrow.Author.Tests.{ltb-true, ltb-false}
use Rattle.rules.specs.Basics.{place}
use Rattle.rules.specs.Job.{Job}
use Rattle.rules.specs.Display.{loadable}
use Rattle.rules.specs.Plans.{rank, ranks_from, greatest}
use Rattle.laws.proofs.Cases.{by_test}
use Rattle.laws.proofs.Search.{place_holds, place_first, place_cons_here, place_cons_further}

-- The greatest of some numbers is at least each, and one of them.
pub greatest_least : (l : List ℕ) (i : ℕ) → i < length l → get_or l i 0 ≤ greatest l
unfolding greatest
greatest_least [] i h = absurd (omega arith)
greatest_least (r ∷ l) zero h = omega arith
greatest_least (r ∷ l) (suc i) h = omega (arith, greatest_least l i (omega arith))

greatest_first : (r : ℕ) (l : List ℕ) → greatest l ≤ r → place (greatest (r ∷ l)) (r ∷ l) < length (r ∷ l)
unfolding greatest
greatest_first r l h = rw (place_cons_here (greatest (r ∷ l)) r l (omega arith)) (omega arith)

pub greatest_stands : (r : ℕ) (l : List ℕ) → place (greatest (r ∷ l)) (r ∷ l) < length (r ∷ l)
unfolding greatest
greatest_stands r [] = greatest_first r [] (omega arith)
greatest_stands r (x ∷ l) =
    let g : ℕ = greatest (x ∷ l) in
    let more : place g (x ∷ l) < length (x ∷ l) = greatest_stands x l in
    by_test (ltb r g)
    (λ e.
    let less : r < g = ltb-true r g e in
    let later : max r g ≡ g = omega arith in
    rw (later, place_cons_further g r (x ∷ l) (λ same. omega arith)) (omega arith))
    (λ e. greatest_first r (x ∷ l) (ltb-false r g e))

-- The first of the greatest, number by number: of those at the places before `upto`, the one at q leads. `most` is above all that are before
-- it, below none, and not above it.
pub record Leads (f : ℕ → ℕ) (q most upto : ℕ) : Type 0 where
  pub above : (i : ℕ) → i < q → f i < most
  pub below_none : (i : ℕ) → i < upto → f i ≤ most
  pub own : most ≤ f q

module _ (f : ℕ → ℕ) where
  pub leads_none : Leads f 0 0 0
  leads_none = record { above = λ i h. absurd (omega arith); below_none = λ i h. absurd (omega arith); own = omega arith }

  -- One number more: it is above the greatest so far and leads from now on, or it is not.
  pub leads_more : (q most at : ℕ) → most < f at → Leads f q most at → Leads f at (f at) (at + 1)
  leads_more q most at more l =
      record {
        above = λ i h. omega (arith, l.below_none i h);
        below_none = λ i h.
            by_test (ltb i at) (λ t. omega (arith, l.below_none i (ltb-true i at t)))
            (λ t. let here : i ≡ at = omega (arith, ltb-false i at t) in rw here (omega arith));
        own = omega arith;
      }

  pub leads_same : (q most at : ℕ) → f at ≤ most → Leads f q most at → Leads f q most (at + 1)
  leads_same q most at less l =
      record {
        above = l.above;
        below_none = λ i h.
            by_test (ltb i at) (λ t. l.below_none i (ltb-true i at t))
            (λ t. let here : i ≡ at = omega (arith, ltb-false i at t) in rw here less);
        own = l.own;
      }

-- The search for the greatest of a list finds the place that leads,
pub search_leads : (l : List ℕ) (q : ℕ) → q ≡ place (greatest l) l → q < length l → Leads (λ i. get_or l i 0) q (get_or l q 0) (length l)
search_leads l q e less =
    let held : get_or l q 0 ≡ greatest l = rw e (place_holds (greatest l) l (rw e at less)) in
    record {
      above = λ i before.
          let other : get_or l i 0 ≡ greatest l → ⊥ = λ same. omega (arith, place_first (greatest l) l i (omega arith) same) in
          omega (arith, greatest_least l i (omega arith));
      below_none = λ i inside. omega (arith, greatest_least l i inside);
      own = omega arith;
    }

-- and no other place leads.
pub leads_search : (l : List ℕ) (q most : ℕ) → q < length l → Leads (λ i. get_or l i 0) q most (length l) → q ≡ place (greatest l) l
leads_search [] q most less f = absurd (omega arith)
leads_search (r ∷ l) q most less f =
    let all : List ℕ = r ∷ l in
    let p : ℕ = place (greatest all) all in
    let inside : p < length all = greatest_stands r l in
    let held : get_or all p 0 ≡ greatest all = place_holds (greatest all) all inside in
    let same : get_or all q 0 ≡ greatest all = omega (arith, f.own, f.below_none p inside, greatest_least all q less) in
    let upto : p ≤ q = place_first (greatest all) all q less same in
    by_test (ltb p q) (λ t. absurd (omega (arith, f.own, f.above p (ltb-true p q t)))) (λ t. omega (arith, ltb-false p q t))

-- The ranks of the slots by place.
module _ (job : Job) (row : List ℕ) where
  pub length-ranks : (q : ℕ) (slots : List ℕ) → length (ranks_from job row q slots) ≡ length slots
  unfolding ranks_from
  length-ranks q [] = refl
  length-ranks q (x ∷ slots) = ap suc (length-ranks (suc q) slots)

  pub rank_at : (q : ℕ) (slots : List ℕ) (i : ℕ) → i < length slots
      → get_or (ranks_from job row q slots) i 0 ≡ cond (loadable job (q + i)) (suc (rank row (get_or slots i 0))) 0
  unfolding ranks_from
  rank_at q [] i h = absurd (omega arith)
  rank_at q (x ∷ slots) zero h = let e : q + 0 ≡ q = omega arith in rw e
  rank_at q (x ∷ slots) (suc i) h = let e : q + suc i ≡ suc q + i = omega arith in rw e (rank_at (suc q) slots i (omega arith))
