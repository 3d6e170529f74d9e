-- The last of the first m events of which a test holds: what it is in words, and how it changes with the test and with m.
use Prim.Native.Nat.{ℕ, zero, suc, ◌+◌, ◌<◌, ◌≤◌}
use native.Mathlib.Omega.{arith}
use mathlib.Core.Path.{◌≡◌, refl}
use mathlib.Core.Bool.{Bool, true, false, cond}
use lib.Dec.{ltb}
use borrow.Author.Tests.{ltb-true, ltb-false}
use Rattle.laws.proofs.Cases.{by_test}
use Rattle.demands.specs.Reasons.{last_of}

-- What is meant by the last of them.
--     such       the test holds of event e, and of none after it
--     no_such    the test holds of none
pub data LastSuch {A : Type 0} (holds : ℕ → Bool) (found : ℕ → A) (none : A) (m : ℕ) (it : A) : Type 0 where
  such : (e : ℕ) → e < m → holds e ≡ true → ((j : ℕ) → e < j → j < m → holds j ≡ false) → it ≡ found e
      → LastSuch holds found none m it
  no_such : ((j : ℕ) → j < m → holds j ≡ false) → it ≡ none → LastSuch holds found none m it

module _ {A : Type 0} (found : ℕ → A) (none : A) where
  -- Two tests that agree on the first m events have the same last one among them.
  pub same_tests : (holds other : ℕ → Bool) (m : ℕ) → ((j : ℕ) → j < m → holds j ≡ other j)
      → last_of holds found none m ≡ last_of other found none m
  unfolding last_of
  same_tests holds other zero h = refl
  same_tests holds other (suc m) h = rw (h m (omega arith), same_tests holds other m (λ j l. h j (omega arith)))

  -- Further events of which the test does not hold change nothing.
  pub none_further : (holds : ℕ → Bool) (m n : ℕ) → ((k : ℕ) → k < n → holds (m + k) ≡ false)
      → last_of holds found none (m + n) ≡ last_of holds found none m
  unfolding last_of
  none_further holds m zero h = let e : m + 0 ≡ m = omega arith in rw e
  none_further holds m (suc n) h =
      let e : m + suc n ≡ suc (m + n) = omega arith in
      rw (e, h n (omega arith)) (none_further holds m n (λ k l. h k (omega arith)))

  -- One event more.
  pub one_further : (holds : ℕ → Bool) (m : ℕ) → last_of holds found none (m + 1) ≡ cond (holds m) (found m) (last_of holds found none m)
  unfolding last_of
  one_further holds m = let e : m + 1 ≡ suc m = omega arith in rw e

  -- The definition finds the last one.
  pub last_such : (holds : ℕ → Bool) (m : ℕ) → LastSuch holds found none m (last_of holds found none m)
  unfolding last_of
  last_such holds zero = no_such (λ j h. absurd (omega arith)) refl
  last_such holds (suc m) =
      by_test (holds m)
      (λ e. such m (omega arith) e (λ j above below. absurd (omega arith)) (rw e))
      (λ e. one_less e (last_such holds m))
    where
      not_last : holds m ≡ false → (j : ℕ) → (j < m → holds j ≡ false) → j < suc m → holds j ≡ false
      not_last fails j sooner h =
          by_test (ltb j m)
          (λ t. sooner (ltb-true j m t))
          (λ t. let here : j ≡ m = let far : m ≤ j = ltb-false j m t in omega arith in rw here fails)

      one_less : holds m ≡ false → LastSuch holds found none m (last_of holds found none m)
          → LastSuch holds found none (suc m) (cond (holds m) (found m) (last_of holds found none m))
      one_less fails (such e within there none_later is) =
          such e (omega arith) there (λ j above. not_last fails j (none_later j above)) (rw fails is)
      one_less fails (no_such nowhere is) = no_such (λ j. not_last fails j (nowhere j)) (rw fails is)
