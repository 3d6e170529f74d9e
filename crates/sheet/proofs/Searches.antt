-- A search for a symbol over the places of a row, as an iterator's `any` answers it.
use Rattle.std.proofs.Common.{ℕ, zero, suc, ◌+◌, ◌*◌, ◌<◌, ◌≡◌, ◌≢◌, Bool, true, false, List, length, get_or, drop, sym}
use Rattle.std.proofs.Common.{◌∙◌, arith}
use Rattle.std.specs.Bool.{MatchBool}
use Rattle.std.specs.List.{range_with_len, AllWithin, HoldsAt}
use Rattle.std.proofs.lemmas.List.FromFn.{length-range_with_len, get_or-range_with_len}
use borrow.Author.Tests.{eq-eqb, ne_eqb}
use lib.Dec.{eqb}
use Rattle.rules.specs.Basics.{stands, number16}
use Rattle.rules.specs.Job.{symbols}
use Rattle.laws.proofs.Cases.{by_test}
use Rattle.laws.proofs.Symbols.{stands_cons, number16_drop, row_empty}

-- The symbol at some place of a row is in it, and one that is at no place is not.
module _ (x : ℕ) where
  stands_at : (n : ℕ) (b : List ℕ) (k : ℕ) → k < n → number16 b (2 * k) ≡ x → stands x (symbols n b) ≡ true
  unfolding symbols
  stands_at zero b k h e = absurd (omega arith)
  stands_at (suc n) b zero h e =
      stands_cons x (number16 b 0) (symbols n (drop 2 b)) ∙ rw (eq-eqb x (number16 b 0) (sym e))
  stands_at (suc n) b (suc k) h e =
      let behind : stands x (symbols n (drop 2 b)) ≡ true =
      stands_at n (drop 2 b) k (omega arith)
      (number16_drop 2 b (2 * k) ∙ (let same : 2 + 2 * k ≡ 2 * suc k = omega arith in rw same e)) in
      stands_cons x (number16 b 0) (symbols n (drop 2 b)) ∙ rw behind (by_test (eqb x (number16 b 0)) (λ t. rw t) (λ f. rw f))

  stands_nowhere : (n : ℕ) (b : List ℕ) → ((k : ℕ) → k < n → number16 b (2 * k) ≢ x) → stands x (symbols n b) ≡ false
  unfolding symbols
  stands_nowhere zero b none = (row_empty b 0 x (omega arith)).0
  stands_nowhere (suc n) b none =
      let behind : stands x (symbols n (drop 2 b)) ≡ false =
      stands_nowhere n (drop 2 b)
      (λ k h e. none (suc k) (omega arith) (let same : 2 + 2 * k ≡ 2 * suc k = omega arith in rw (← same) (sym (number16_drop 2 b (2 * k)) ∙ e))) in
      stands_cons x (number16 b 0) (symbols n (drop 2 b))
      ∙ rw (ne_eqb x (number16 b 0) (λ e. none 0 (omega arith) (sym e)), behind)

  -- So `any` over the places of a row that begins at `from` answers whether the symbol stands in it.
  pub stands_searched : (n from : ℕ) (s : List ℕ) (r : Bool)
      → MatchBool r
      ((k : ℕ) × (k < length (range_with_len 0 n)) × HoldsAt (λ (i : ℕ). number16 s (from + 2 * i) ≡ x) (range_with_len 0 n) k)
      (AllWithin (λ (i : ℕ). number16 s (from + 2 * i) ≢ x) (range_with_len 0 n) 0 (length (range_with_len 0 n)))
      → r ≡ stands x (symbols n (drop from s))
  stands_searched n from s true (k, inside, holds) =
      let low : k < n = omega (arith, length-range_with_len 0 n) in
      let place : get_or (range_with_len 0 n) k 0 ≡ k = get_or-range_with_len 0 n k 0 low ∙ omega arith in
      let there : number16 s (from + 2 * k) ≡ x = rw place at (holds 0) in
      sym (stands_at n (drop from s) k low (number16_drop from s (2 * k) ∙ there))
  stands_searched n from s false none =
      sym
      (stands_nowhere n (drop from s)
      (λ k h e.
      let place : get_or (range_with_len 0 n) k 0 ≡ k = get_or-range_with_len 0 n k 0 h ∙ omega arith in
      let here = none k 0 (omega arith) (omega (arith, length-range_with_len 0 n)) in
      (rw place at here) (sym (number16_drop from s (2 * k)) ∙ e)))
