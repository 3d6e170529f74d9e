-- From which draw on a symbol may go out: the draws of a job parted at a draw number, and the last draw of a symbol before it.
use Prim.Native.Nat.{ℕ, zero, suc, ◌+◌, ◌-◌, ◌<◌, ◌≤◌}
use native.Mathlib.Omega.{arith}
use native.Mathlib.Numerals.{add-one}
use mathlib.Core.Path.{◌≡◌, refl, sym, ap, ◌∙◌}
use mathlib.Core.Bool.{false}
use mathlib.Core.List.{List, [], ◌∷◌, map, reverse, reverse-append}
use lib.ListN.{length, get_or, take, drop, set, length-drop, length-reverse}
use lib.Seq.{take-suc, drop-drop, get_or-drop, get_or-take, length-take-le}
use lib.Dec.{ltb}
use borrow.Author.Tests.{ltb-true, ltb-false}
use Rattle.rules.specs.Basics.{place, stands}
use Rattle.laws.proofs.Cases.{by_test}
use Rattle.laws.proofs.Rows.{get_d_reverse}
use Rattle.laws.proofs.Search.{place_holds, place_first, absent, absent_at}
use Rattle.plan_laws.proofs.Misses.{Miss, miss, Choosing, misses_by, by_over, by_hit, by_miss}

-- ---- The draws parted at draw number d

-- Those that remain, and those made, the latest first.
pub record Parted (draws : List ℕ) (d : ℕ) (rest made : List ℕ) : Type 0 where
  pub ahead : rest ≡ drop d draws
  pub behind : made ≡ reverse (take d draws)
  pub within : d ≤ length draws

module _ (draws : List ℕ) where
  pub parted_start : Parted draws 0 draws []
  parted_start = record { ahead = refl; behind = refl; within = omega arith }

  module _ (d : ℕ) (rest made : List ℕ) (p : Parted draws d rest made) where
    pub made_size : length made ≡ d
    made_size = ap length p.behind ∙ length-reverse (take d draws) ∙ length-take-le d draws p.within

    pub rest_size : d + length rest ≡ length draws
    rest_size = omega (arith, ap length p.ahead, length-drop d draws, p.within)

    -- Their draws, by their places.
    pub rest_at : (i : ℕ) → get_or rest i 0 ≡ get_or draws (d + i) 0
    rest_at i = ap (λ (l : List ℕ). get_or l i 0) p.ahead ∙ get_or-drop d draws i 0

    pub made_at : (i : ℕ) → i < d → get_or made i 0 ≡ get_or draws (d - 1 - i) 0
    made_at i less =
        let size : length (take d draws) ≡ d = length-take-le d draws p.within in
        ap (λ (l : List ℕ). get_or l i 0) p.behind
        ∙ get_d_reverse (take d draws) i (omega arith)
        ∙ rw size (get_or-take d draws (d - 1 - i) 0 (omega arith))

    -- A symbol that is never drawn is in neither.
    module _ (x : ℕ) (none : stands x draws ≡ false) where
      pub not_ahead : stands x rest ≡ false
      not_ahead = absent x rest (λ i h e. absent_at x draws none (d + i) (omega (arith, rest_size)) (sym (rest_at i) ∙ e))

      pub not_behind : stands x made ≡ false
      not_behind =
          absent x made (λ i h e.
          let less : i < d = omega (arith, made_size) in
          absent_at x draws none (d - 1 - i) (omega (arith, p.within)) (sym (made_at i less) ∙ e))

  -- One draw further.
  pub parted_next : (d x : ℕ) (rest made : List ℕ) → Parted draws d (x ∷ rest) made → Parted draws (d + 1) rest (x ∷ made)
  parted_next d x rest made p =
      let less : d < length draws = omega (arith, rest_size d (x ∷ rest) made p) in
      let e : d + 0 ≡ d = omega arith in
      let here : get_or draws d 0 ≡ x = sym (rest_at d (x ∷ rest) made p 0 ∙ rw e) in
      record {
        ahead = ap (drop 1) p.ahead ∙ drop-drop 1 d draws;
        behind =
            sym (rw (add-one, take-suc draws d 0 less, reverse-append (take d draws) (get_or draws d 0 ∷ []), here, p.behind));
        within = omega arith;
      }

-- ---- From which draw on

-- The draw number from which on x may go out, with these draws made: one more than that of its last draw, or 0 where it was not drawn.
abbrev pub came_free : List ℕ → ℕ → ℕ
came_free made x = length made - place x made

-- For each of some misses, from these contents of the slots on: from which draw on what goes out for it could go out.
unfoldable pub free_from : List ℕ → List ℕ → List Miss → List ℕ
free_from draws slots [] = []
free_from draws slots (miss m q x ∷ later) = came_free (reverse (take m draws)) (get_or slots q 0) ∷ free_from draws (set slots q x) later

-- The draw that a miss is for.
abbrev pub miss_draw : Miss → ℕ
miss_draw (miss m q x) = m

-- ---- What goes out for a miss at draw m may go out from draw number d on exactly where it is not drawn from there to the miss

module _ (draws : List ℕ) (d m : ℕ) (rest : List ℕ) (ahead : rest ≡ drop d draws) (before : d ≤ m) (within : m ≤ length draws) (z : ℕ) where
  abbrev to_miss : List ℕ
  to_miss = reverse (take m draws)

  at_miss : Parted draws m (drop m draws) to_miss
  at_miss = record { ahead = refl; behind = refl; within = within }

  here : Parted draws d rest (reverse (take d draws))
  here = record { ahead = ahead; behind = refl; within = omega arith }

  size : length to_miss ≡ m
  size = made_size draws m (drop m draws) to_miss at_miss

  pub undrawn_free : m ≤ d + place z rest → came_free to_miss z ≤ d
  undrawn_free far =
      by_test (ltb (place z to_miss + d) m)
      (λ t.
      let near : place z to_miss + d < m = ltb-true _ _ t in
      let e : ℕ = m - 1 - place z to_miss in
      let back : d + (e - d) ≡ e = omega arith in
      let held : get_or to_miss (place z to_miss) 0 ≡ z = place_holds z to_miss (omega (arith, size)) in
      let drawn : get_or draws e 0 ≡ z = sym (made_at draws m (drop m draws) to_miss at_miss (place z to_miss) (omega arith)) ∙ held in
      let there : get_or rest (e - d) 0 ≡ z = rest_at draws d rest (reverse (take d draws)) here (e - d) ∙ rw back drawn in
      let left : d + length rest ≡ length draws = rest_size draws d rest (reverse (take d draws)) here in
      absurd (omega (arith, place_first z rest (e - d) (omega arith) there)))
      (λ t. omega (arith, size, ltb-false (place z to_miss + d) m t))

  pub free_undrawn : came_free to_miss z ≤ d → m ≤ d + place z rest
  free_undrawn soon =
      by_test (ltb (d + place z rest) m)
      (λ t.
      let near : d + place z rest < m = ltb-true _ _ t in
      let left : d + length rest ≡ length draws = rest_size draws d rest (reverse (take d draws)) here in
      let i : ℕ = m - 1 - (d + place z rest) in
      let back : m - 1 - i ≡ d + place z rest = omega arith in
      let held : get_or rest (place z rest) 0 ≡ z = place_holds z rest (omega arith) in
      let drawn : get_or draws (d + place z rest) 0 ≡ z = sym (rest_at draws d rest (reverse (take d draws)) here (place z rest)) ∙ held in
      let there : get_or to_miss i 0 ≡ z = made_at draws m (drop m draws) to_miss at_miss i (omega arith) ∙ rw back drawn in
      absurd (omega (arith, size, place_first z to_miss i (omega (arith, size)) there)))
      (λ t. ltb-false _ _ t)

-- ---- The draws that are missed rise

-- From a draw number on, each below n and above the one before.
pub data Rises : ℕ → ℕ → List ℕ → Type 0 where
  none : {d n : ℕ} → d ≤ n → Rises d n []
  one : {d n m : ℕ} {l : List ℕ} → d ≤ m → m < n → Rises (m + 1) n l → Rises d n (m ∷ l)

pub rises_from : (d e n : ℕ) (l : List ℕ) → d ≤ e → Rises e n l → Rises d n l
rises_from d e n [] h (none upto) = let sooner : d ≤ n = omega arith in none sooner
rises_from d e n (m ∷ l) h (one from less later) = let sooner : d ≤ m = omega arith in one sooner less later

-- With n for what is past the end, each is at least d, and they rise.
pub rises_least : (d n : ℕ) (l : List ℕ) (i : ℕ) → Rises d n l → d ≤ get_or l i n
rises_least d n [] i (none upto) = upto
rises_least d n (m ∷ l) zero (one from less later) = from
rises_least d n (m ∷ l) (suc i) (one from less later) = omega (arith, rises_least (m + 1) n l i later)

pub rises_order : (d n : ℕ) (l : List ℕ) (i j : ℕ) → i ≤ j → Rises d n l → get_or l i n ≤ get_or l j n
rises_order d n [] i j h (none upto) = omega arith
rises_order d n (m ∷ l) zero zero h (one from less later) = omega arith
rises_order d n (m ∷ l) zero (suc j) h (one from less later) = omega (arith, rises_least (m + 1) n l j later)
rises_order d n (m ∷ l) (suc i) zero h (one from less later) = absurd (omega arith)
rises_order d n (m ∷ l) (suc i) (suc j) h (one from less later) = rises_order (m + 1) n l i j (omega arith) later

-- So it is with the draws that a plan on demand misses.
pub misses_rise : (pick : Choosing) (d n : ℕ) (slots rest : List ℕ) → d + length rest ≡ n → Rises d n (map miss_draw (misses_by pick d slots rest))
misses_rise pick d n slots [] e = let upto : d ≤ n = omega arith in rw (by_over pick d slots [] refl) (none upto)
misses_rise pick d n slots (x ∷ rest) e =
    by_test (stands x slots)
    (λ t. rw (by_hit pick d slots x rest t) (rises_from d (d + 1) n _ (omega arith) (misses_rise pick (d + 1) n slots rest (omega arith))))
    (λ t.
    let from : d ≤ d = omega arith in
    let less : d < n = omega arith in
    rw (by_miss pick d slots x rest t) (one from less (misses_rise pick (d + 1) n _ rest (omega arith))))
