-- Which slot a plan chooses, in words: at most one slot fits them, and the slot that `furthest` finds does.
use Prim.Native.Nat.{ℕ, suc, ◌+◌, ◌<◌, ◌≤◌}
use native.Mathlib.Omega.{arith}
use mathlib.Core.Path.{◌≡◌, sym, ap, ◌∙◌}
use mathlib.Core.Bool.{true}
use mathlib.Core.List.{List}
use lib.ListN.{length, get_or}
use lib.Dec.{eqb, ltb}
use borrow.Author.Tests.{ltb-true, ltb-false, eqb-true, eqb-false, eq-eqb, ne_eqb}
use Rattle.rules.specs.Basics.{place}
use Rattle.rules.specs.Job.{Job, free}
use Rattle.rules.specs.Display.{loadable}
use Rattle.rules.specs.Plans.{rank, ranks_from, greatest, furthest}
use Rattle.laws.proofs.Cases.{by_test}
use Rattle.laws.proofs.Search.{place_holds, place_first, place_within}
use Rattle.laws.proofs.Sane.{Apart}
use Rattle.laws.proofs.Ranks.{greatest_least, length-ranks, rank_at}
use Rattle.plan_laws.proofs.Choice.{chosen_below}
use Rattle.demands.specs.InWords.{Open, NoSlot, Lowest, Chosen, free_slot, never_slot, further_slot}

-- ---- One slot at most

-- Two lowest slots of a kind are one.
lowest_one : (job : Job) (slots : List ℕ) (Kind : ℕ → Type 0) (q r : ℕ) → Lowest job slots Kind q → Lowest job slots Kind r → q ≡ r
lowest_one job slots Kind q r a b =
    omega (arith, a.lowest r b.may b.holds, b.lowest q a.may a.holds)

module _ (job : Job) (Never : ℕ → Type 0) (Further : ℕ → ℕ → Type 0) (one_way : (x y : ℕ) → Further x y → Further y x → ⊥)
    (slots : List ℕ) where
  -- Two slots that fit are one.
  pub chosen_one : (q r : ℕ) → Chosen job Never Further slots q → Chosen job Never Further slots r → q ≡ r
  chosen_one q r (free_slot a) (free_slot b) = lowest_one job slots _ q r a b
  chosen_one q r (free_slot a) (never_slot none b) = absurd (none q a.may a.holds)
  chosen_one q r (free_slot a) (further_slot none never may far) = absurd (none q a.may a.holds)
  chosen_one q r (never_slot none a) (free_slot b) = absurd (none r b.may b.holds)
  chosen_one q r (never_slot none a) (never_slot none' b) = lowest_one job slots _ q r a b
  chosen_one q r (never_slot none a) (further_slot none' never may far) = absurd (never q a.may a.holds)
  chosen_one q r (further_slot none never may far) (free_slot b) = absurd (none r b.may b.holds)
  chosen_one q r (further_slot none never may far) (never_slot none' b) = absurd (never r b.may b.holds)
  chosen_one q r (further_slot none never may far) (further_slot none' never' may' far') =
      by_test (eqb q r) (eqb-true q r)
      (λ t. let other = eqb-false q r t in absurd (one_way _ _ (far r may' (λ e. other (sym e))) (far' q may other)))

-- ---- The furthest slot fits

-- What the choice by rank comes to: a slot that a load may go into, none of which ranks higher, and none below it as high.
record First (job : Job) (row slots : List ℕ) (q : ℕ) : Type 0 where
  may : Open job slots q
  most : (r : ℕ) → Open job slots r → rank row (get_or slots r 0) ≤ rank row (get_or slots q 0)
  first : (r : ℕ) → Open job slots r → rank row (get_or slots q 0) ≤ rank row (get_or slots r 0) → q ≤ r

-- The choice by rank is such a slot.
first_chosen : (job : Job) (row slots : List ℕ) (i : ℕ) → Open job slots i → First job row slots (furthest job row slots)
first_chosen job row slots i some =
    let ranks : List ℕ = ranks_from job row 0 slots in
    let q : ℕ = furthest job row slots in
    let size : length ranks ≡ length slots = length-ranks job row 0 slots in
    let within : q < length slots = chosen_below job row slots (omega arith) in
    let held : get_or ranks q 0 ≡ greatest ranks = place_holds (greatest ranks) ranks (omega arith) in
    let ranked : (r : ℕ) → Open job slots r → get_or ranks r 0 ≡ suc (rank row (get_or slots r 0)) =
    λ r may. let e : 0 + r ≡ r = omega arith in rank_at job row 0 slots r may.0 ∙ rw (e, may.1) in
    let upto : (r : ℕ) → Open job slots r → suc (rank row (get_or slots r 0)) ≤ greatest ranks =
    λ r may. rw (ranked r may) at (greatest_least ranks r (rw size may.0)) in
    let may : loadable job q ≡ true =
    by_test (loadable job q) (λ t. t)
    (λ t.
    let e : 0 + q ≡ q = omega arith in
    let none : get_or ranks q 0 ≡ 0 = rank_at job row 0 slots q within ∙ rw (e, t) in
    absurd (omega (arith, upto i some))) in
    let top : suc (rank row (get_or slots q 0)) ≡ greatest ranks = sym (ranked q (within, may)) ∙ held in
    record {
      may = (within, may);
      most = λ r m. omega (arith, upto r m);
      first = λ r m high.
          let e : suc (rank row (get_or slots r 0)) ≡ greatest ranks = omega (arith, upto r m) in
          place_first (greatest ranks) ranks r (rw size m.0) (ranked r m ∙ e);
    }

-- What a row of draws tells in words: which symbols it never has, and which of two that it has comes up further along.
pub record Tells (row : List ℕ) (Never : ℕ → Type 0) (Further : ℕ → ℕ → Type 0) : Type 0 where
  pub never : (x : ℕ) → length row ≤ place x row → Never x
  pub absent : (x : ℕ) → Never x → length row ≤ place x row
  pub further : (x y : ℕ) → place y row < place x row → place x row < length row → Further x y

-- The rank of a free slot, and of one that holds a symbol.
rank_free : (row : List ℕ) (x : ℕ) → x ≡ free → rank row x ≡ length row + 1
rank_free row x e = rw (eq-eqb x free e)

rank_held : (row : List ℕ) (x : ℕ) → (x ≡ free → ⊥) → rank row x ≡ place x row
rank_held row x e = rw (ne_eqb x free e)

-- Two symbols that come up at the same place are one.
same_place : (row : List ℕ) (x y : ℕ) → place x row ≡ place y row → place x row < length row → x ≡ y
same_place row x y e less = sym (place_holds x row less) ∙ ap (λ (i : ℕ). get_or row i 0) e ∙ place_holds y row (omega arith)

module _ (job : Job) (row slots : List ℕ) (Never : ℕ → Type 0) (Further : ℕ → ℕ → Type 0) (tells : Tells row Never Further)
    (apart : Apart slots) (q : ℕ) (f : First job row slots q) where
  abbrev content : ℕ → ℕ
  content r = get_or slots r 0

  -- Where that slot is free, it fits the words.
  fits_free : content q ≡ free → Chosen job Never Further slots q
  fits_free e =
      free_slot
      (record { may = f.may; holds = e; lowest = λ r m g. f.first r m (omega (arith, rank_free row (content q) e, rank_free row (content r) g)) })

  module _ (held : content q ≡ free → ⊥) where
    -- Where it holds a symbol, no slot is free, and ranks are places.
    rank_out : rank row (content q) ≡ place (content q) row
    rank_out = rank_held row (content q) held

    none_free : NoSlot job slots (λ x. x ≡ free)
    none_free r m g = omega (arith, f.most r m, rank_free row (content r) g, rank_out, place_within (content q) row)

    rank_of : (r : ℕ) → Open job slots r → rank row (content r) ≡ place (content r) row
    rank_of r m = rank_held row (content r) (none_free r m)

    -- Where the row never has that symbol, the slot fits.
    fits_never : length row ≤ place (content q) row → Chosen job Never Further slots q
    fits_never far =
        never_slot none_free
        (record {
          may = f.may;
          holds = tells.never (content q) far;
          lowest = λ r m g. f.first r m (omega (arith, rank_of r m, rank_out, tells.absent (content r) g, place_within (content q) row));
        })

    -- Where the row has it, the row has every slot's symbol, no two of them at the same place, and the slot fits.
    fits_further : place (content q) row < length row → Chosen job Never Further slots q
    fits_further near =
        further_slot none_free
        (λ r m g. omega (arith, f.most r m, rank_of r m, rank_out, tells.absent (content r) g))
        f.may
        (λ r m other.
        let upto : place (content r) row ≤ place (content q) row = omega (arith, f.most r m, rank_of r m, rank_out) in
        let apart_places : place (content r) row ≡ place (content q) row → ⊥ =
        λ e. other (apart r q m.0 f.may.0 (same_place row (content r) (content q) e (omega arith)) (none_free r m)) in
        tells.further (content q) (content r) (omega arith) near)

  fits_first : Chosen job Never Further slots q
  fits_first =
      by_test (eqb (content q) free) (λ t. fits_free (eqb-true _ _ t))
      (λ t.
      by_test (ltb (place (content q) row) (length row))
      (λ near. fits_further (eqb-false _ _ t) (ltb-true _ _ near))
      (λ far. fits_never (eqb-false _ _ t) (ltb-false _ _ far)))

-- Where a load may go into some slot, the one that is chosen by rank fits the words that the row tells.
pub furthest_fits : (job : Job) (row slots : List ℕ) (Never : ℕ → Type 0) (Further : ℕ → ℕ → Type 0) → Tells row Never Further → Apart slots
    → (i : ℕ) → Open job slots i → Chosen job Never Further slots (furthest job row slots)
furthest_fits job row slots Never Further tells apart i some =
    fits_first job row slots Never Further tells apart (furthest job row slots) (first_chosen job row slots i some)
