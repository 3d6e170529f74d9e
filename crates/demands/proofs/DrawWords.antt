-- Next draws and last draws in words, and the rows that the plans look along: what a search along a row finds is what the words say.
use Prim.Native.Nat.{ℕ, ◌+◌, ◌-◌, ◌<◌, ◌≤◌}
use native.Mathlib.Omega.{arith}
use mathlib.Core.Path.{◌≡◌, sym, ◌∙◌}
use mathlib.Core.List.{List, ◌++◌, reverse}
use lib.ListN.{length, get_or, take, drop, length-append, length-drop, length-reverse}
use lib.Seq.{get_or-drop, get_or-take, length-take-le}
use lib.Dec.{ltb}
use borrow.Author.Tests.{ltb-true, ltb-false}
use Rattle.laws.proofs.Rows.{get_d_reverse}
use Rattle.rules.specs.Basics.{place}
use Rattle.laws.proofs.Cases.{by_test}
use Rattle.laws.proofs.Search.{place_holds, place_first, place_near, place_beyond}
use Rattle.demands.specs.InWords.{Undrawn, NextDraw, NeverAgain, Later, LastDraw, NotYet, Older}
use Rattle.demands.specs.InWords.{FreeFirst, done_for, done_first, drawn_later}
use Rattle.demands.proofs.SlotWords.{Tells}

-- ---- One next draw and one last draw

module _ (draws : List ℕ) (next : ℕ) where
  -- A symbol has one next draw at most.
  next_most : (x i j : ℕ) → NextDraw draws next x i → NextDraw draws next x j → i ≤ j
  next_most x i j a b = by_test (ltb j i) (λ t. absurd (a.first j b.from (ltb-true j i t) b.here)) (ltb-false j i)

  next_one : (x i j : ℕ) → NextDraw draws next x i → NextDraw draws next x j → i ≡ j
  next_one x i j a b = omega (arith, next_most x i j a b, next_most x j i b a)

  -- It has one last draw at most.
  last_least : (x i j : ℕ) → LastDraw draws next x i → LastDraw draws next x j → j ≤ i
  last_least x i j a b = by_test (ltb i j) (λ t. absurd (a.last j (omega (arith, ltb-true i j t)) b.past b.here)) (ltb-false i j)

  last_one : (x i j : ℕ) → LastDraw draws next x i → LastDraw draws next x j → i ≡ j
  last_one x i j a b = omega (arith, last_least x i j a b, last_least x j i b a)

  -- So of two symbols only one is later, and only one older.
  pub later_one_way : (x y : ℕ) → Later draws next x y → Later draws next y x → ⊥
  later_one_way x y a b =
      omega (arith, a.larger, b.larger, next_one x a.i b.j a.one b.other, next_one y b.i a.j b.one a.other)

  pub older_one_way : (x y : ℕ) → Older draws next x y → Older draws next y x → ⊥
  older_one_way x y a b =
      omega (arith, a.longer_ago, b.longer_ago, last_one x a.i b.j a.one b.other, last_one y b.i a.j b.one a.other)

  -- A symbol that is never drawn again has no next draw.
  no_next : (x i : ℕ) → NeverAgain draws next x → NextDraw draws next x i → ⊥
  no_next x i never n = never i n.from n.here.0 n.here

  -- So of two symbols only one came free first.
  pub free_first_one_way : (x y : ℕ) → FreeFirst draws next x y → FreeFirst draws next y x → ⊥
  free_first_one_way x y (done_for i never n) (done_for j never' n') = no_next x j never n'
  free_first_one_way x y (done_for i never n) (done_first never' never'' older) = no_next y i never' n
  free_first_one_way x y (done_for i never n) (drawn_later l) = no_next x l.j never l.other
  free_first_one_way x y (done_first never never' older) (done_for i never'' n) = no_next x i never n
  free_first_one_way x y (done_first never never' older) (done_first never'' never''' older') = older_one_way x y older older'
  free_first_one_way x y (done_first never never' older) (drawn_later l) = no_next y l.i never' l.one
  free_first_one_way x y (drawn_later l) (done_for i never n) = no_next y l.j never l.other
  free_first_one_way x y (drawn_later l) (done_first never never' older) = no_next x l.i never' l.one
  free_first_one_way x y (drawn_later l) (drawn_later l') = later_one_way x y l l'

  -- ---- The draws that remain

  module _ (within : next ≤ length draws) where
    size_ahead : length (drop next draws) ≡ length draws - next
    size_ahead = length-drop next draws

    -- A symbol that comes up along them at a place or later is undrawn before that place.
    pub far_undrawn : (x to : ℕ) → to ≤ next + place x (drop next draws) → Undrawn draws next to x
    far_undrawn x to far i from less (inside, here) =
        let back : next + (i - next) ≡ i = omega arith in
        let there : get_or (drop next draws) (i - next) 0 ≡ x = get_or-drop next draws (i - next) 0 ∙ rw back here in
        omega (arith, size_ahead, place_first x (drop next draws) (i - next) (omega (arith, size_ahead)) there)

    -- A symbol that comes up along them has its next draw there.
    pub next_found : (x : ℕ) → place x (drop next draws) < length (drop next draws)
        → NextDraw draws next x (next + place x (drop next draws))
    next_found x found =
        record {
          from = omega arith;
          here = (omega (arith, size_ahead), sym (get_or-drop next draws (place x (drop next draws)) 0) ∙ place_holds x (drop next draws) found);
          first = far_undrawn x (next + place x (drop next draws)) (omega arith);
        }

    -- A symbol that is undrawn before a place comes up there or later.
    pub undrawn_far : (x to : ℕ) → to ≤ length draws → Undrawn draws next to x → to ≤ next + place x (drop next draws)
    undrawn_far x to most none =
        by_test (ltb (next + place x (drop next draws)) to)
        (λ t.
        let less : next + place x (drop next draws) < to = ltb-true _ _ t in
        let n : NextDraw draws next x (next + place x (drop next draws)) = next_found x (omega (arith, size_ahead)) in
        absurd (none (next + place x (drop next draws)) (omega arith) less n.here))
        (ltb-false _ _)

    -- So they tell what is never drawn again, and which of two next draws is larger.
    pub ahead_tells : Tells (drop next draws) (NeverAgain draws next) (Later draws next)
    ahead_tells =
        record {
          never = λ x far. far_undrawn x (length draws) (omega (arith, size_ahead));
          absent = λ x none. omega (arith, size_ahead, undrawn_far x (length draws) (omega arith) none);
          further = λ x y more found.
              record { i = _; j = _; one = next_found x found; other = next_found y (omega arith); larger = omega arith };
        }

-- ---- The draws made, the latest first

module _ (draws : List ℕ) (next : ℕ) (within : next ≤ length draws) where
  abbrev made : List ℕ
  made = reverse (take next draws)

  size_made : length made ≡ next
  size_made = length-reverse (take next draws) ∙ length-take-le next draws within

  -- The draw made i draws before the latest.
  made_at : (i : ℕ) → i < next → get_or made i 0 ≡ get_or draws (next - 1 - i) 0
  made_at i less =
      let size : length (take next draws) ≡ next = length-take-le next draws within in
      get_d_reverse (take next draws) i (omega arith) ∙ rw size (get_or-take next draws (next - 1 - i) 0 (omega arith))

  -- A symbol that comes up along them at a place or later is undrawn since.
  back_undrawn : (x from : ℕ) → next ≤ from + place x made → Undrawn draws from next x
  back_undrawn x from far i after less (inside, here) =
      let back : next - 1 - (next - 1 - i) ≡ i = omega arith in
      let there : get_or made (next - 1 - i) 0 ≡ x = made_at (next - 1 - i) (omega arith) ∙ rw back here in
      omega (arith, size_made, place_first x made (next - 1 - i) (omega (arith, size_made)) there)

  -- A symbol that comes up along them has its last draw there.
  last_found : (x : ℕ) → place x made < length made → LastDraw draws next x (next - 1 - place x made)
  last_found x found =
      let less : place x made < next = omega (arith, size_made) in
      record {
        past = omega arith;
        here = (omega arith, sym (made_at (place x made) less) ∙ place_holds x made found);
        last = back_undrawn x (next - 1 - place x made + 1) (omega arith);
      }

  -- So they tell what is not yet drawn, and which of two last draws is longer ago.
  pub behind_tells : Tells made (NotYet draws next) (Older draws next)
  behind_tells =
      record {
        never = λ x far. back_undrawn x 0 (omega (arith, size_made));
        absent = λ x none.
            by_test (ltb (place x made) (length made))
            (λ t.
            let found : place x made < length made = ltb-true _ _ t in
            let l : LastDraw draws next x (next - 1 - place x made) = last_found x found in
            absurd (none (next - 1 - place x made) (omega arith) l.past l.here))
            (ltb-false _ _);
        further = λ x y more found.
            record { i = _; j = _; one = last_found x found; other = last_found y (omega arith); longer_ago = omega (arith, size_made) };
      }

-- ---- Both ways: the draws that remain, and beyond them those made

module _ (draws : List ℕ) (next : ℕ) (within : next ≤ length draws) where
  abbrev to_come : List ℕ
  to_come = drop next draws

  abbrev both : List ℕ
  both = to_come ++ made draws next within

  -- A symbol comes up among the draws that remain, or is never drawn again and comes up beyond them.
  found_where : {P : Type 0} (x : ℕ) → (place x both ≡ place x to_come → place x to_come < length to_come → P)
      → (place x both ≡ length to_come + place x (made draws next within) → NeverAgain draws next x → P) → P
  found_where x near far =
      by_test (ltb (place x to_come) (length to_come))
      (λ t. let found = ltb-true _ _ t in near (place_near x to_come (made draws next within) found) found)
      (λ t.
      let past = ltb-false _ _ t in
      far (place_beyond x to_come (made draws next within) past) ((ahead_tells draws next within).never x past))

  -- So they tell what is neither drawn again nor yet drawn, and which of two symbols came free first.
  pub both_tell : Tells both (λ x. NeverAgain draws next x × NotYet draws next x) (FreeFirst draws next)
  both_tell =
      record {
        never = λ x far.
            found_where x
            (λ e found. absurd (omega (arith, length-append to_come (made draws next within))))
            (λ e again.
            (again, (behind_tells draws next within).never x (omega (arith, length-append to_come (made draws next within)))));
        absent = λ x none.
            let past : length to_come ≤ place x to_come = (ahead_tells draws next within).absent x none.0 in
            let unmet : length (made draws next within) ≤ place x (made draws next within) = (behind_tells draws next within).absent x none.1 in
            omega (arith, length-append to_come (made draws next within), place_beyond x to_come (made draws next within) past);
        further = λ x y more found.
            found_where x
            (λ e near.
            found_where y
            (λ f near'. drawn_later ((ahead_tells draws next within).further x y (omega arith) near))
            (λ f again. absurd (omega arith)))
            (λ e again.
            found_where y
            (λ f near'. done_for _ again (next_found draws next within y near'))
            (λ f again'.
            done_first again again'
            ((behind_tells draws next within).further x y (omega arith) (omega (arith, length-append to_come (made draws next within))))));
      }
