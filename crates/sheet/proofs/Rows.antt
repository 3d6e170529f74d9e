-- The 64 slots of a display, filled from the front with the starting symbols of a job.
use Prim.Native.Nat.{ℕ, zero, suc, ◌+◌, ◌*◌, ◌-◌, ◌<◌, ◌≤◌, min}
use native.Mathlib.Omega.{arith}
use mathlib.Core.Path.{◌≡◌, refl, sym, ap, ◌∙◌}
use mathlib.Core.List.{List, [], ◌∷◌, ◌++◌}
use lib.ListN.{length, take, drop, set, replicate, length-replicate, length-append}
use lib.Seq.{take_at, set_at, append_snoc}
use Rattle.rules.specs.Basics.{number16}
use Rattle.rules.specs.declared.Unrolled.{Unrolled}
use Rattle.rules.specs.Job.{Call, symbols, starting_at, free, starting_symbols}
use Rattle.laws.specs.Limits.{Limits}
use Rattle.laws.proofs.Symbols.{length_symbols, number16_drop}
use Rattle.sheet.specs.Row.{row64}

-- One symbol more of a row is the symbol at the next place.
pub symbols_more : (n : ℕ) (b : List ℕ) → symbols (n + 1) b ≡ symbols n b ++ (number16 b (2 * n) ∷ [])
unfolding symbols
symbols_more zero b = refl
symbols_more (suc n) b =
    let more : suc n + 1 ≡ suc (n + 1) = omega arith in
    let there : 2 + 2 * n ≡ 2 * suc n = omega arith in
    rw (more, symbols_more n (drop 2 b), number16_drop 2 b (2 * n), there)

-- A slot more is filled.
pub row_more : (slot : ℕ) (job : List ℕ) → slot < 64 → set (row64 slot job) slot (number16 job (starting_at + 2 * slot)) ≡ row64 (slot + 1) job
row_more slot job h =
    let few : min slot 64 ≡ slot = omega arith in
    let few' : min (slot + 1) 64 ≡ slot + 1 = omega arith in
    let one : 64 - slot ≡ suc (64 - (slot + 1)) = omega arith in
    rw (few, few', one, symbols_more slot (drop 10 job), number16_drop 10 job (2 * slot))
    (set_at (symbols slot (drop 10 job)) free (replicate (64 - (slot + 1)) free) (number16 job (10 + 2 * slot)) slot (length_symbols slot (drop 10 job))
    ∙ sym (append_snoc (symbols slot (drop 10 job)) (number16 job (10 + 2 * slot)) (replicate (64 - (slot + 1)) free)))

pub row_none : (job : List ℕ) → row64 0 job ≡ replicate 64 free
unfolding symbols
row_none job = refl

pub length-row : (slot : ℕ) (job : List ℕ) → slot ≤ 64 → length (row64 slot job) ≡ 64
length-row slot job h =
    let few : min slot 64 ≡ slot = omega arith in
    rw few
    (length-append (symbols slot (drop 10 job)) (replicate (64 - slot) free)
    ∙ rw (length_symbols slot (drop 10 job), length-replicate (64 - slot) free) (omega arith))

-- The first k of the 64 slots are the starting symbols.
pub take_row : (k : ℕ) (job : List ℕ) → k ≤ 64 → take k (row64 k job) ≡ symbols k (drop starting_at job)
take_row k job h =
    let few : min k 64 ≡ k = omega arith in
    rw few (take_at (symbols k (drop 10 job)) (replicate (64 - k) free) k (length_symbols k (drop 10 job)))

-- The slots that a call of this size uses hold its starting symbols.
pub row_starts : (asked : Call) (shape : Unrolled) (row : List ℕ) → Limits asked shape → row ≡ row64 shape.slots asked.job
    → take shape.slots row ≡ starting_symbols asked.job
row_starts asked shape row limits filled =
    ap (λ (l : List ℕ). take shape.slots l) filled
    ∙ take_row shape.slots asked.job limits.few_slots
    ∙ ap (λ (s : Unrolled). symbols s.slots (drop starting_at asked.job)) limits.shaped
