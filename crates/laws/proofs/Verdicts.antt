-- Laws of an order of refusals. A test is looked up by its number and never by its place, so a test that is put in, moved or taken out
-- moves only what speaks of its own number.
use Prim.Native.Nat.{ℕ}
use native.Mathlib.Omega.{arith}
use mathlib.Core.Path.{◌≡◌, refl, sym, ◌∙◌}
use mathlib.Core.Bool.{Bool, true, false, cond, not, ◌||◌}
use mathlib.Core.List.{List, [], ◌∷◌, ◌++◌}
use mathlib.Core.Logic.{◌↔◌}
use lib.Dec.{eqb}
use borrow.Author.Tests.{eqb-true, eq-eqb, not-true}
use Rattle.rules.specs.Order.{Test, test, Verdict, clear, met, first_of}
use Rattle.rules.specs.Display.{State, Run, going, refused, unless}
use Rattle.laws.proofs.Cases.{by_test, neither}

-- ---- By number

-- Whether the test with this number holds.
abbrev pub test_of : ℕ → List Test → Bool
test_of n [] = false
test_of n (test m d holds ∷ later) = cond (eqb m n) holds (test_of n later)

-- Past all tests each one is known to fail.
pub clear_of : (tests : List Test) → first_of tests ≡ clear → (n : ℕ) → test_of n tests ≡ false
unfolding first_of
clear_of [] e n = refl
clear_of (test m d true ∷ later) e n = let z : ◌≡◌ {A = ℕ} 0 1 = cc in absurd (omega arith)
clear_of (test m d false ∷ later) e n = by_test (eqb m n) (λ t. rw t) (λ t. rw t (clear_of later e n))

-- The detail that goes with a number, the tests in front of that number, and whether some test has it.
abbrev pub detail_of : ℕ → List Test → ℕ
detail_of n [] = 0
detail_of n (test m d holds ∷ later) = cond (eqb m n) d (detail_of n later)

abbrev pub before : ℕ → List Test → List Test
before n [] = []
before n (test m d holds ∷ later) = cond (eqb m n) [] (test m d holds ∷ before n later)

abbrev pub has : ℕ → List Test → Bool
has n [] = false
has n (test m d holds ∷ later) = eqb m n || has n later

-- A number that no test has is not given.
pub never_met : (tests : List Test) (n d : ℕ) → has n tests ≡ false → first_of tests ≡ met n d → ⊥
unfolding first_of
never_met [] n d lacks e = let z : ◌≡◌ {A = ℕ} 0 1 = cc in omega arith
never_met (test m c true ∷ later) n d lacks e =
    let same : m ≡ n = cc in
    let never : true ≡ false = sym (eq-eqb m n same) ∙ (neither (eqb m n) _ lacks).0 in
    let z : ◌≡◌ {A = ℕ} 0 1 = cc in
    omega arith
never_met (test m c false ∷ later) n d lacks e = never_met later n d (neither (eqb m n) _ lacks).1 e

-- Whether at most one test has this number.
abbrev pub once : ℕ → List Test → Bool
once n [] = true
once n (test m d holds ∷ later) = cond (eqb m n) (not (has n later)) (once n later)

-- This number is given exactly when its test holds and no test in front of it does; the detail is the one that goes with it.
pub record GivenBy (tests : List Test) (n d : ℕ) : Type 0 where
  pub holds : test_of n tests ≡ true
  pub detail : detail_of n tests ≡ d
  pub first : first_of (before n tests) ≡ clear

pub given_exactly : (tests : List Test) (n d : ℕ) → once n tests ≡ true → (first_of tests ≡ met n d) ↔ GivenBy tests n d
unfolding first_of
given_exactly tests n d single = (given tests single, gives tests)
  where
    given : (tests : List Test) → once n tests ≡ true → first_of tests ≡ met n d → GivenBy tests n d
    given [] single e = let z : ◌≡◌ {A = ℕ} 0 1 = cc in absurd (omega arith)
    given (test m c true ∷ later) single e =
        let here : eqb m n ≡ true = eq-eqb m n (cc) in
        let same : c ≡ d = cc in
        record { holds = rw here; detail = rw here same; first = rw here }
    given (test m c false ∷ later) single e =
        by_test (eqb m n)
        (λ t. let lacks : has n later ≡ false = not-true (has n later) (rw t at single) in absurd (never_met later n d lacks e))
        (λ t.
        let g : GivenBy later n d = given later (rw t at single) e in
        record { holds = rw t g.holds; detail = rw t g.detail; first = rw t g.first })

    gives : (tests : List Test) → GivenBy tests n d → first_of tests ≡ met n d
    gives [] g = let z : ◌≡◌ {A = ℕ} 0 1 = let w = g.holds in cc in absurd (omega arith)
    gives (test m c true ∷ later) g =
        by_test (eqb m n)
        (λ t. let same : c ≡ d = rw t at g.detail in let number : m ≡ n = eqb-true m n t in cc)
        (λ t. let w : met m c ≡ clear = rw t at g.first in let z : ◌≡◌ {A = ℕ} 0 1 = cc in absurd (omega arith))
    gives (test m c false ∷ later) g =
        by_test (eqb m n)
        (λ t. let w : false ≡ true = rw t at g.holds in let z : ◌≡◌ {A = ℕ} 0 1 = cc in absurd (omega arith))
        (λ t. gives later (record { holds = rw t at g.holds; detail = rw t at g.detail; first = rw t at g.first }))

-- ---- One order after another

-- Where no test of the first holds, the second decides.
abbrev pub otherwise : Verdict → Verdict → Verdict
otherwise clear v = v
otherwise (met n d) v = met n d

pub first_append : (tests others : List Test) → first_of (tests ++ others) ≡ otherwise (first_of tests) (first_of others)
unfolding first_of
first_append [] others = refl
first_append (test n d true ∷ later) others = refl
first_append (test n d false ∷ later) others = first_append later others

pub clear_append : (tests others : List Test) → first_of (tests ++ others) ≡ clear → (first_of tests ≡ clear) × (first_of others ≡ clear)
clear_append tests others e = by_first (first_of tests) refl (sym (first_append tests others) ∙ e)
  where
    by_first : (v : Verdict) → first_of tests ≡ v → otherwise (first_of tests) (first_of others) ≡ clear
        → (first_of tests ≡ clear) × (first_of others ≡ clear)
    by_first clear is f = (is, rw is at f)
    by_first (met n d) is f = let w : met n d ≡ clear = rw is at f in let z : ◌≡◌ {A = ℕ} 0 1 = cc in absurd (omega arith)

-- A run after two orders is a run after the first, and within that after the second.
pub unless_append : (tests others : List Test) (r : Run) → unless (first_of (tests ++ others)) r ≡ unless (first_of tests) (unless (first_of others) r)
unless_append tests others r = rw first_append (by_first (first_of tests))
  where
    by_first : (v : Verdict) → unless (otherwise v (first_of others)) r ≡ unless v (unless (first_of others) r)
    by_first clear = refl
    by_first (met n d) = refl

-- A run that goes on after an order is past all its tests.
pub unless_going : (v : Verdict) (r : Run) (s : State) → unless v r ≡ going s → (v ≡ clear) × (r ≡ going s)
unless_going clear r s e = (refl, e)
unless_going (met n d) r s e = let z : ◌≡◌ {A = ℕ} 0 1 = cc in absurd (omega arith)

-- One that is refused where it would go on has met a test.
pub unless_refused : (v : Verdict) (s : State) (n d : ℕ) → unless v (going s) ≡ refused n d → v ≡ met n d
unless_refused clear s n d e = let z : ◌≡◌ {A = ℕ} 0 1 = cc in absurd (omega arith)
unless_refused (met m c) s n d e = cc

-- ---- Test by test

-- What is shown of each test, given that it holds and that no test in front of it does, is so of the one that is met.
unfoldable pub Each : (ℕ → ℕ → Type 0) → List Test → List Test → Type 0
Each P front [] = Unit {0}
Each P front (test n d holds ∷ later) = (first_of front ≡ clear → holds ≡ true → P n d) × Each P (front ++ (test n d holds ∷ [])) later

pub met_by : (P : ℕ → ℕ → Type 0) (tests : List Test) (n d : ℕ) → Each P [] tests → first_of tests ≡ met n d → P n d
unfolding first_of Each
met_by P tests n d each e = from [] tests refl each e
  where
    from : (front later : List Test) → first_of front ≡ clear → Each P front later → first_of later ≡ met n d → P n d
    from front [] so each e = let z : ◌≡◌ {A = ℕ} 0 1 = cc in absurd (omega arith)
    from front (test m c true ∷ later) so each e =
        let number : m ≡ n = cc in
        let detail : c ≡ d = cc in
        rw (← number, ← detail) (each.0 so refl)
    from front (test m c false ∷ later) so each e = from (front ++ (test m c false ∷ [])) later (rw (first_append, so)) each.1 e

-- ---- As code meets an order

-- An order walked test by test, each test as a function answered it: the first that held stops the walk.
pub data Gives : List Test → Verdict → Type 0 where
  end : Gives [] clear
  stop : {n d : ℕ} {holds : Bool} {later : List Test} (r : Bool) → r ≡ holds → r ≡ true → Gives (test n d holds ∷ later) (met n d)
  step : {n d : ℕ} {holds : Bool} {later : List Test} {v : Verdict} (r : Bool) → r ≡ holds → r ≡ false → Gives later v
      → Gives (test n d holds ∷ later) v

pub gives : (tests : List Test) (v : Verdict) → Gives tests v → first_of tests ≡ v
unfolding first_of
gives tests v end = refl
gives tests v (stop r is held) = rw (sym is ∙ held)
gives tests v (step r is failed g) = rw (sym is ∙ failed) (gives _ v g)

-- Every order can be walked so, to what it comes to.
pub walked : (tests : List Test) (v : Verdict) → first_of tests ≡ v → Gives tests v
unfolding first_of
walked [] v e = rw (← e) end
walked (test n d true ∷ later) v e = rw (← e) (stop true refl refl)
walked (test n d false ∷ later) v e = step false refl refl (walked later v e)

-- One order after another: the walk goes on past the first, or stops in it.
pub past : {tests others : List Test} {v : Verdict} → Gives tests clear → Gives others v → Gives (tests ++ others) v
past end g = g
past (step r is failed f) g = step r is failed (past f g)

pub inside : {tests : List Test} {n d : ℕ} (others : List Test) → Gives tests (met n d) → Gives (tests ++ others) (met n d)
inside others (stop r is held) = stop r is held
inside others (step r is failed f) = step r is failed (inside others f)
