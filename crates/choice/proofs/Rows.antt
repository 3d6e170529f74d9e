-- Rows of numbers: filled from the front place by place, and the other way round.
use Prim.Native.Nat.{ℕ, suc, ◌+◌, ◌-◌, ◌<◌, ◌≤◌}
use native.Mathlib.Numerals.{add-one}
use native.Mathlib.Omega.{arith}
use mathlib.Core.Path.{◌≡◌, sym, ap, ◌∙◌}
use mathlib.Core.List.{List, [], ◌∷◌, ◌++◌}
use lib.ListN.{length, get_or, take, set, replicate}
use lib.Seq.{take_at, take_all, take-suc, length-take-le, set_at, append_snoc}
use Rattle.rules.specs.Job.{Call, draws_of, most_draws}
use Rattle.choice.specs.Rows.{row_of}

-- One number more is put after the others, in the place of the first zero.
pub filled_more : (front : List ℕ) (size i x : ℕ) → length front ≡ i → i < size
    → set (front ++ replicate (size - i) 0) i x ≡ front ++ (x ∷ []) ++ replicate (size - (i + 1)) 0
filled_more front size i x many less =
    let one : size - i ≡ suc (size - (i + 1)) = omega arith in
    rw one
    (set_at front 0 (replicate (size - (i + 1)) 0) x i many ∙ sym (append_snoc front x (replicate (size - (i + 1)) 0)))

-- The first draws of a row, with zeros after them, as far as it is filled.
abbrev pub filled_to : ℕ → List ℕ → List ℕ
filled_to n draws = take n draws ++ replicate (most_draws - n) 0

-- One draw more is copied.
pub row_more : (draws row : List ℕ) (n x : ℕ) → n < length draws → length draws ≤ most_draws → row ≡ filled_to n draws → x ≡ get_or draws n 0
    → set row n x ≡ filled_to (n + 1) draws
row_more draws row n x less few before read =
    let some : n < most_draws = omega arith in
    let more : take (n + 1) draws ≡ take n draws ++ (get_or draws n 0 ∷ []) = rw add-one (take-suc draws n 0 less) in
    let size : length (take n draws) ≡ n = length-take-le n draws (omega arith) in
    ap (λ (l : List ℕ). set l n x) before
    ∙ filled_more (take n draws) most_draws n x size some
    ∙ ap (λ (y : ℕ). take n draws ++ (y ∷ []) ++ replicate (most_draws - (n + 1)) 0) read
    ∙ ap (λ (l : List ℕ). l ++ replicate (most_draws - (n + 1)) 0) (sym more)

-- Once all are copied it is the whole row.
pub row_whole : (asked : Call) (n : ℕ) → length (draws_of asked) ≡ n → filled_to n (draws_of asked) ≡ row_of asked
row_whole asked n many =
    let all : length (draws_of asked) ≤ n = omega arith in
    rw (take_all n (draws_of asked) all, many)

-- Its front is the draws.
pub row_front : (asked : Call) (n : ℕ) → length (draws_of asked) ≡ n → take n (row_of asked) ≡ draws_of asked
row_front asked n many = take_at (draws_of asked) (replicate (most_draws - length (draws_of asked)) 0) n many
