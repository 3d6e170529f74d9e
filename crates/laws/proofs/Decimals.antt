-- Numbers in decimal: one digit, or the digits of the tenth part and a last one; and how many digits a number has.
use Prim.Native.Nat.{ℕ, zero, suc, ◌+◌, ◌*◌, ◌/◌, ◌%◌, ◌^◌, ◌<◌, ◌≤◌}
use native.Mathlib.Omega.{arith}
use native.Mathlib.Nat.{pow-succ', one-le-pow}
use mathlib.Core.Path.{◌≡◌, refl, ap, ◌∙◌}
use mathlib.Core.List.{[], ◌∷◌, ◌++◌}
use lib.ListN.{length, length-append}
use lib.Dec.{ltb}
use borrow.Author.Tests.{lt-ltb, le-ltb, ltb-true, ltb-false}
use Rattle.rules.specs.Text.{digits_of, decimal}
use Rattle.laws.proofs.Cases.{by_test}

-- A number below ten is one digit, whatever the steps.
one_digit : (steps n : ℕ) → n < 10 → digits_of steps n ≡ (48 + n) ∷ []
unfolding digits_of
one_digit zero n low = refl
one_digit (suc steps) n low = rw (lt-ltb n 10 low)

-- More steps than the number needs change nothing.
steps_alike : (steps more n : ℕ) → n ≤ steps → n ≤ more → digits_of steps n ≡ digits_of more n
unfolding digits_of
steps_alike zero more n h k = let low : n < 10 = omega arith in rw (one_digit more n low)
steps_alike (suc steps) zero n h k = let low : n < 10 = omega arith in rw (lt-ltb n 10 low)
steps_alike (suc steps) (suc more) n h k =
    by_test (ltb n 10)
    (λ t. rw t)
    (λ t.
    let high : 10 ≤ n = ltb-false n 10 t in
    rw (t, steps_alike steps more (n / 10) (omega arith) (omega arith)))

pub decimal_small : (n : ℕ) → n < 10 → decimal n ≡ (48 + n) ∷ []
decimal_small n low = one_digit n n low

pub decimal_step : (n : ℕ) → 10 ≤ n → decimal n ≡ decimal (n / 10) ++ ((48 + n % 10) ∷ [])
unfolding digits_of
decimal_step zero high = absurd (omega arith)
decimal_step (suc n) high = rw (le-ltb (suc n) 10 high, steps_alike n (suc n / 10) (suc n / 10) (omega arith) (omega arith))

-- What is so of every number below ten, and of any other number where it is so of its tenth part, is so of every number.
pub by_tenth : (P : ℕ → Type 0) → ((n : ℕ) → n < 10 → P n) → ((n : ℕ) → 10 ≤ n → P (n / 10) → P n) → (n : ℕ) → P n
by_tenth P small step n = within n n (omega arith)
  where
    within : (most n : ℕ) → n ≤ most → P n
    within zero n h = small n (omega arith)
    within (suc most) n h =
        by_test (ltb n 10)
        (λ t. small n (ltb-true n 10 t))
        (λ t. let high : 10 ≤ n = ltb-false n 10 t in step n high (within most (n / 10) (omega arith)))

-- ---- How many digits

longer : (n : ℕ) → 10 ≤ n → length (decimal n) ≡ length (decimal (n / 10)) + 1
longer n high = ap length (decimal_step n high) ∙ length-append (decimal (n / 10)) _

pub decimal_some : (n : ℕ) → 1 ≤ length (decimal n)
decimal_some n =
    by_test (ltb n 10)
    (λ t. rw (decimal_small n (ltb-true n 10 t)) (omega arith))
    (λ t. omega (arith, longer n (ltb-false n 10 t)))

-- A number below a power of ten, the first or a later one, has at most as many digits as that power has zeros,
pub decimal_most : (k n : ℕ) → n < 10 ^ suc k → length (decimal n) ≤ suc k
decimal_most zero n below = rw (decimal_small n below) (omega arith)
decimal_most (suc k) n below =
    by_test (ltb n 10)
    (λ t. rw (decimal_small n (ltb-true n 10 t)) (omega arith))
    (λ t.
    let power : 10 ^ suc (suc k) ≡ 10 * 10 ^ suc k = pow-succ' 10 (suc k) in
    let tenth : n / 10 < 10 ^ suc k = omega arith in
    omega (arith, longer n (ltb-false n 10 t), decimal_most k (n / 10) tenth))

-- and from that power on it has more.
pub decimal_least : (k n : ℕ) → 10 ^ k ≤ n → suc k ≤ length (decimal n)
decimal_least zero n from = decimal_some n
decimal_least (suc k) n from =
    let power : 10 ^ suc k ≡ 10 * 10 ^ k = pow-succ' 10 k in
    let some : 1 ≤ 10 ^ k = one-le-pow k 10 (omega arith) in
    let tenth : 10 ^ k ≤ n / 10 = omega arith in
    omega (arith, longer n (omega arith), decimal_least k (n / 10) tenth)

-- So comparisons with powers of ten count the digits: `decimal_length 2 n` says that there are 3 where 100 ≤ n < 1000.
pub decimal_length : (k n : ℕ) → 10 ^ k ≤ n → n < 10 ^ suc k → length (decimal n) ≡ suc k
decimal_length k n from below = omega (arith, decimal_least k n from, decimal_most k n below)
