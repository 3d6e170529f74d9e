-- Rows of numbers that grow at their end, as the ticks and slots of a run do.
use Prim.Native.Nat.{ℕ, ◌+◌, ◌<◌, ◌≤◌, suc, ◌-◌}
use native.Mathlib.Omega.{arith}
use mathlib.Core.Path.{◌≡◌, refl, ap, ◌∙◌}
use mathlib.Core.List.{List, [], ◌∷◌, ◌++◌, map, reverse, reverse-cons}
use lib.ListN.{length, get_or, length-append, get_or-append, length-reverse}
use lib.Seq.{get_or_at}
use lib.Dec.{ltb}
use borrow.Author.Tests.{ltb-true, ltb-false}
use Rattle.laws.proofs.Cases.{by_test}

-- One more at the end.
pub map_snoc : {A B : Type 0} (f : A → B) (l : List A) (a : A) → map f (l ++ (a ∷ [])) ≡ map f l ++ (f a ∷ [])
map_snoc f [] a = refl
map_snoc {A} {B} f (x ∷ l) a = ap {B = List B} (λ (r : List B). f x ∷ r) (map_snoc f l a)

pub length-snoc : {A : Type 0} (l : List A) (a : A) → length (l ++ (a ∷ [])) ≡ length l + 1
length-snoc l a = length-append l (a ∷ [])

-- Every number of a row is as said.
abbrev pub Each : (ℕ → Type 0) → List ℕ → Type 0
Each P l = (i : ℕ) → i < length l → P (get_or l i 0)

-- So it is where one more is.
pub each_snoc : (P : ℕ → Type 0) (l : List ℕ) (x : ℕ) → Each P l → P x → Each P (l ++ (x ∷ []))
each_snoc P l x all new i h =
    let h' : i < length l + 1 = rw length-snoc at h in
    by_test (ltb i (length l))
    (λ t. rw (get_or-append l (x ∷ []) 0 i (ltb-true i (length l) t)) (all i (ltb-true i (length l) t)))
    (λ t. let here : length l ≡ i = let far : length l ≤ i = ltb-false i (length l) t in omega arith in rw (get_or_at l x [] 0 i here) new)

-- Each number of a row is at least so much below every later one.
abbrev pub Spaced : ℕ → List ℕ → Type 0
Spaced gap l = (i j : ℕ) → i < j → j < length l → get_or l i 0 + gap ≤ get_or l j 0

-- So it is where one more is as far above them all.
pub spaced_snoc : (gap : ℕ) (l : List ℕ) (x : ℕ) → Spaced gap l → Each (λ y. y + gap ≤ x) l → Spaced gap (l ++ (x ∷ []))
spaced_snoc gap l x spaced below i j before h =
    let h' : j < length l + 1 = rw length-snoc at h in
    let inside : i < length l = omega arith in
    rw (get_or-append l (x ∷ []) 0 i inside)
    (by_test (ltb j (length l))
    (λ t. rw (get_or-append l (x ∷ []) 0 j (ltb-true j (length l) t)) (spaced i j before (ltb-true j (length l) t)))
    (λ t.
    let here : length l ≡ j = let far : length l ≤ j = ltb-false j (length l) t in omega arith in
    rw (get_or_at l x [] 0 j here) (below i inside)))

-- The number at a place of a row the other way round.
pub get_d_reverse : (l : List ℕ) (i : ℕ) → i < length l → get_or (reverse l) i 0 ≡ get_or l (length l - 1 - i) 0
get_d_reverse [] i h = absurd (omega arith)
get_d_reverse (x ∷ l) i h =
    rw (reverse-cons x l)
    (by_test (ltb i (length l))
    (λ t.
    let within : i < length l = ltb-true i (length l) t in
    let inside : i < length (reverse l) = rw (length-reverse l) within in
    let further : suc (length l) - 1 - i ≡ suc (length l - 1 - i) = omega arith in
    rw further (get_or-append (reverse l) (x ∷ []) 0 i inside ∙ get_d_reverse l i within))
    (λ t.
    let last : length l ≡ i = let over : length l ≤ i = ltb-false i (length l) t in omega arith in
    let first : suc (length l) - 1 - i ≡ 0 = omega arith in
    rw first (get_or_at (reverse l) x [] 0 i (length-reverse l ∙ last))))
