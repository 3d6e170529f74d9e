-- A row of draws several times over: one round more, its length, the draw at a place, and what is never drawn.
use Prim.Native.Nat.{ℕ, zero, suc, ◌+◌, ◌*◌, ◌-◌, ◌%◌, ◌<◌, ◌≤◌}
use native.Mathlib.Omega.{arith}
use native.Mathlib.Nat.{mod-lt, mod-eq_of_lt, mod-eq-sub-mod, suc-mul}
use mathlib.Core.Path.{◌≡◌, refl, sym, ap, ◌∙◌}
use mathlib.Core.Bool.{false}
use mathlib.Core.List.{List, [], ◌∷◌, ◌++◌, append-nil}
use lib.ListN.{length, get_or, length-append, get_or-append}
use lib.Seq.{get_or-append-add}
use lib.Dec.{ltb}
use borrow.Author.Tests.{ltb-true, ltb-false}
use Rattle.rules.specs.Basics.{stands, number16}
use Rattle.rules.specs.Job.{times_over, symbols}
use Rattle.laws.proofs.Cases.{by_test}
use Rattle.laws.proofs.Search.{absent, absent_at}
use Rattle.laws.proofs.Symbols.{length_symbols, symbol_at}

-- No round, one round more, and one round.
pub times_none : (row : List ℕ) → times_over 0 row ≡ []
unfolding times_over
times_none [] = refl
times_none (x ∷ row) = refl

pub times_more : (r : ℕ) (row : List ℕ) → times_over (suc r) row ≡ row ++ times_over r row
unfolding times_over
times_more r [] = refl
times_more r (x ∷ row) = refl

pub times_one : (row : List ℕ) → times_over 1 row ≡ row
times_one row = times_more 0 row ∙ ap (λ (l : List ℕ). row ++ l) (times_none row) ∙ append-nil row

pub length-times : (r : ℕ) (row : List ℕ) → length (times_over r row) ≡ r * length row
length-times zero row = ap length (times_none row) ∙ omega arith
length-times (suc r) row =
    let later : length (times_over r row) ≡ r * length row = length-times r row in
    let more : suc r * length row ≡ r * length row + length row = suc-mul r (length row) in
    rw times_more (length-append row (times_over r row) ∙ omega arith)

-- The draw at a place is the one at its place in the round.
pub times_at : (r : ℕ) (row : List ℕ) (i : ℕ) → i < r * length row → get_or (times_over r row) i 0 ≡ get_or row (i % length row) 0
times_at zero row i h = absurd (omega arith)
times_at (suc r) row i h =
    let more : suc r * length row ≡ r * length row + length row = suc-mul r (length row) in
    rw times_more
    (by_test (ltb i (length row))
    (λ t.
    let first : i < length row = ltb-true i (length row) t in
    rw (get_or-append row (times_over r row) 0 i first, mod-eq_of_lt first))
    (λ t.
    let past : length row ≤ i = ltb-false i (length row) t in
    let far : length row + (i - length row) ≡ i = omega arith in
    let later : get_or (times_over r row) (i - length row) 0 ≡ get_or row ((i - length row) % length row) 0 =
    times_at r row (i - length row) (omega arith) in
    ap (λ (j : ℕ). get_or (row ++ times_over r row) j 0) (sym far)
    ∙ get_or-append-add row (times_over r row) (i - length row) 0
    ∙ later
    ∙ ap (λ (j : ℕ). get_or row j 0) (sym (mod-eq-sub-mod past))))

-- What one round does not draw no round does.
pub absent_times : (x r : ℕ) (row : List ℕ) → stands x row ≡ false → stands x (times_over r row) ≡ false
absent_times x r row none =
    absent x (times_over r row)
    (λ i h e.
    let within : i < r * length row = rw length-times at h in
    let some : 0 < length row = positive r (length row) i within in
    absent_at x row none (i % length row) (mod-lt i some) (sym (times_at r row i within) ∙ e))
  where
    positive : (r n i : ℕ) → i < r * n → 0 < n
    positive r zero i h = absurd (omega arith)
    positive r (suc n) i h = omega arith

-- The draw at a place of rounds of symbols, read from the bytes of one round.
pub times_symbol : (r n : ℕ) (b : List ℕ) (i : ℕ) → i < r * n → get_or (times_over r (symbols n b)) i 0 ≡ number16 b (2 * (i % n))
times_symbol r zero b i h = absurd (omega arith)
times_symbol r (suc n) b i h =
    let size : length (symbols (suc n) b) ≡ suc n = length_symbols (suc n) b in
    times_at r (symbols (suc n) b) i (rw size h)
    ∙ ap (λ (m : ℕ). get_or (symbols (suc n) b) (i % m) 0) size
    ∙ symbol_at (suc n) b (i % suc n) (mod-lt i (omega arith))
