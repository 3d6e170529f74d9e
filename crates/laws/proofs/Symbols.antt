-- Rows of symbols in bytes, and the search in them: a step at a time, and by place.
use Prim.Native.Nat.{ℕ, zero, suc, ◌+◌, ◌*◌, ◌-◌, ◌<◌, ◌≤◌}
use native.Mathlib.Omega.{arith}
use native.Mathlib.Nat.{add_assoc}
use mathlib.Core.Path.{◌≡◌, refl, sym, ap, ◌∙◌}
use mathlib.Core.Bool.{true, false, not, ◌&&◌, ◌||◌}
use mathlib.Core.List.{List, ◌∷◌}
use lib.ListN.{length, get_or, drop, get_or-eq_default}
use lib.Seq.{drop-drop, get_or-drop}
use borrow.Author.Tests.{lt-ltb, eq-eqb, ne_eqb}
use lib.Dec.{eqb, leb-suc-suc}
use Rattle.rules.specs.Basics.{place, stands, number16, number32}
use Rattle.rules.specs.Job.{symbols, free}
use Rattle.rules.specs.Refusals.{doubled}
use Rattle.laws.proofs.Cases.{by_test}

-- The first symbol of a row, and the rest of the row.
pub symbols_step : (n : ℕ) (b : List ℕ) → 0 < n → symbols n b ≡ number16 b 0 ∷ symbols (n - 1) (drop 2 b)
unfolding symbols
symbols_step zero b h = absurd (omega arith)
symbols_step (suc n) b h = let e : suc n - 1 ≡ n = omega arith in rw e

pub stands_cons : (x y : ℕ) (l : List ℕ) → stands x (y ∷ l) ≡ (eqb x y || stands x l)
unfolding place
stands_cons x y l = by_test (eqb x y) (λ e. rw e (lt-ltb 0 (suc (length l)) (omega arith))) (λ e. rw e (leb-suc-suc (suc (place x l)) (length l)))

pub length_symbols : (n : ℕ) (b : List ℕ) → length (symbols n b) ≡ n
unfolding symbols
length_symbols zero b = refl
length_symbols (suc n) b = ap suc (length_symbols n (drop 2 b))

-- A number read after some bytes is that much further on in the whole.
pub number16_drop : (n : ℕ) (b : List ℕ) (i : ℕ) → number16 (drop n b) i ≡ number16 b (n + i)
number16_drop n b i = simp (get_or-drop, ← add_assoc)

-- Past the end there are only zeros.
pub number16_past : (b : List ℕ) (i : ℕ) → length b ≤ i → number16 b i ≡ 0
number16_past b i h =
    let further : length b ≤ i + 1 = omega arith in
    rw (get_or-eq_default b 0 {n = i} h, get_or-eq_default b 0 {n = i + 1} further)

pub number32_past : (b : List ℕ) (i : ℕ) → length b ≤ i → number32 b i ≡ 0
number32_past b i h =
    let first : number16 b i ≡ 0 = number16_past b i h in
    let second : number16 b (i + 2) ≡ 0 = number16_past b (i + 2) (omega arith) in
    omega arith

-- The symbol at a place of a row, read from the bytes.
pub symbol_at : (n : ℕ) (b : List ℕ) (i : ℕ) → i < n → get_or (symbols n b) i 0 ≡ number16 b (2 * i)
unfolding symbols
symbol_at zero b i h = absurd (omega arith)
symbol_at (suc n) b zero h = refl
symbol_at (suc n) b (suc i) h =
    let e : 2 + 2 * i ≡ 2 * suc i = omega arith in
    symbol_at n (drop 2 b) i (omega arith) ∙ number16_drop 2 b (2 * i) ∙ ap (number16 b) e

-- A walk along a row whose first symbol is at a place of the bytes.
module _ (b : List ℕ) (at left : ℕ) (more : 0 < left) where
  row_step : symbols left (drop at b) ≡ number16 b at ∷ symbols (left - 1) (drop (at + 2) b)
  row_step =
      symbols_step left (drop at b) more
      ∙ (let e : at + 0 ≡ at = omega arith in rw (number16_drop at b 0, e, drop-drop 2 at b))

  pub row_found : (x : ℕ) → number16 b at ≡ x → stands x (symbols left (drop at b)) ≡ true
  row_found x h = ap (stands x) row_step ∙ stands_cons x (number16 b at) _ ∙ rw (h, eq-eqb x x refl)

  pub row_further : (x : ℕ) → (number16 b at ≡ x → ⊥)
      → stands x (symbols left (drop at b)) ≡ stands x (symbols (left - 1) (drop (at + 2) b))
  row_further x h =
      ap (stands x) row_step ∙ stands_cons x (number16 b at) _ ∙ rw (ne_eqb x (number16 b at) (λ e. h (sym e)))

  -- What the first symbol of a row says of doubles: nothing where it is the mark of a free slot, or comes in the row no more.
  behind : List ℕ
  behind = symbols (left - 1) (drop (at + 2) b)

  doubled_step : doubled (symbols left (drop at b)) ≡ (not (eqb (number16 b at) free) && stands (number16 b at) behind || doubled behind)
  unfolding doubled behind
  doubled_step = ap doubled row_step

  pub doubled_found : (y : ℕ) → y ≡ number16 b at → (y ≡ free → ⊥) → stands y (symbols (left - 1) (drop (at + 2) b)) ≡ true
      → doubled (symbols left (drop at b)) ≡ true
  unfolding behind
  doubled_found y e f h = doubled_step ∙ rw (← e, ne_eqb y free f, h)

  pub doubled_mark : (y : ℕ) → y ≡ number16 b at → y ≡ free → doubled (symbols left (drop at b)) ≡ doubled (symbols (left - 1) (drop (at + 2) b))
  unfolding behind
  doubled_mark y e f = doubled_step ∙ rw (← e, eq-eqb y free f)

  pub doubled_further : (y : ℕ) → y ≡ number16 b at → (y ≡ free → ⊥) → stands y (symbols (left - 1) (drop (at + 2) b)) ≡ false
      → doubled (symbols left (drop at b)) ≡ doubled (symbols (left - 1) (drop (at + 2) b))
  unfolding behind
  doubled_further y e f h = doubled_step ∙ rw (← e, ne_eqb y free f, h)

-- An empty row.
pub row_empty : (b : List ℕ) (left x : ℕ) → left ≤ 0 → (stands x (symbols left b) ≡ false) × (doubled (symbols left b) ≡ false)
unfolding symbols place doubled
row_empty b zero x h = (refl, refl)
row_empty b (suc left) x h = absurd (omega arith)
