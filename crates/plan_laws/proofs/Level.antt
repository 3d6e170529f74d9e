-- Two plans on demand side by side, draw by draw. Both give up what is furthest; of what is never drawn again one gives up what came free
-- first, the other whatever it likes. They miss the same draws, and what the first gives up never came free later, taken over all so far.
use Prim.Native.Nat.{ℕ, zero, suc, ◌+◌, ◌<◌, ◌≤◌, max}
use native.Mathlib.Omega.{arith}
use mathlib.Core.Path.{◌≡◌, refl, sym, ap, ◌∙◌}
use mathlib.Core.Bool.{false, cond}
use mathlib.Core.List.{List, [], ◌∷◌, ◌++◌}
use lib.ListN.{length, get_or, set}
use lib.Dec.{eqb, ltb, leb}
use borrow.Author.Tests.{ltb-true, ltb-false, lt-ltb, le-ltb, leb-true, leb-false, le-leb, eqb-true, eqb-false, eq-eqb, ne_eqb}
use Rattle.rules.specs.Basics.{place, stands}
use Rattle.rules.specs.Job.{free}
use Rattle.rules.specs.Plans.{rank}
use Rattle.laws.proofs.Cases.{by_test}
use Rattle.laws.proofs.Search.{place_cons_here, place_cons_further, place_cons_most, place_holds, place_near, place_beyond}
use Rattle.plan_laws.proofs.Counting.{total, total_set, same, holders}
use Rattle.plan_laws.proofs.Choice.{rank_symbol, rank_place, place_rank, drawn_symbol}
use Rattle.plan_laws.proofs.CameFree.{came_free}

-- ---- Sums over the slots

-- A sum is at least each of its numbers, and where it is not 0 one of them is not.
total_least : (f : ℕ → ℕ) (l : List ℕ) (i : ℕ) → i < length l → f (get_or l i 0) ≤ total f l
unfolding total
total_least f [] i h = absurd (omega arith)
total_least f (x ∷ l) zero h = omega arith
total_least f (x ∷ l) (suc i) h = omega (arith, total_least f l i (omega arith))

total_some : (f : ℕ → ℕ) (l : List ℕ) → 0 < total f l → (i : ℕ) × (i < length l) × (0 < f (get_or l i 0))
unfolding total
total_some f [] h = absurd (omega arith)
total_some f (x ∷ l) h =
    by_test (ltb 0 (f x)) (λ t. (0, omega arith, ltb-true 0 (f x) t))
    (λ t. let (i, inside, some) = total_some f l (omega (arith, ltb-false 0 (f x) t)) in (suc i, omega arith, some))

-- A sum of sums, a number at a time.
total_plus : (f g h : ℕ → ℕ) (l : List ℕ) → ((x : ℕ) → f x ≡ g x + h x) → total f l ≡ total g l + total h l
unfolding total
total_plus f g h [] each = refl
total_plus f g h (x ∷ l) each = omega (arith, each x, total_plus f g h l each)

total_like : (f g : ℕ → ℕ) (l : List ℕ) → ((x : ℕ) → f x ≡ g x) → total f l ≡ total g l
unfolding total
total_like f g [] each = refl
total_like f g (x ∷ l) each = omega (arith, each x, total_like f g l each)

total_none : (l : List ℕ) → total (λ x. 0) l ≡ 0
unfolding total
total_none [] = refl
total_none (x ∷ l) = omega (arith, total_none l)

-- ---- What may go out

-- 1 for what is not drawn any more and may go out from draw number v on, else 0. The mark of a free slot is never drawn.
unfoldable pub gone : List ℕ → List ℕ → ℕ → ℕ → ℕ
gone rest made v x = cond (ltb (place x rest) (length rest)) 0 (cond (leb (came_free made x) v) 1 0)

module _ (rest made : List ℕ) (v x : ℕ) where
  gone_drawn : place x rest < length rest → gone rest made v x ≡ 0
  unfolding gone
  gone_drawn h = rw (lt-ltb (place x rest) (length rest) h)

  gone_yes : length rest ≤ place x rest → came_free made x ≤ v → gone rest made v x ≡ 1
  unfolding gone
  gone_yes h late = rw (le-ltb (place x rest) (length rest) h, le-leb (came_free made x) v late)

  gone_some : 0 < gone rest made v x → (length rest ≤ place x rest) × (came_free made x ≤ v)
  unfolding gone
  gone_some h =
      by_test (ltb (place x rest) (length rest))
      (λ t. absurd (omega (arith, rw t at h)))
      (λ t.
      by_test (leb (came_free made x) v)
      (λ u. (ltb-false _ _ t, leb-true _ _ u))
      (λ u. absurd (omega (arith, rw (t, u) at h))))

  gone_most : gone rest made v x ≤ 1
  gone_most =
      by_test (ltb (place x rest) (length rest))
      (λ t. omega (arith, gone_drawn (ltb-true _ _ t)))
      (λ t.
      by_test (leb (came_free made x) v)
      (λ u. omega (arith, gone_yes (ltb-false _ _ t) (leb-true _ _ u)))
      (λ u.
      by_test (ltb 0 (gone rest made v x))
      (λ w. absurd (omega (arith, leb-false (came_free made x) v u, (gone_some (ltb-true 0 _ w)).1)))
      (λ w. omega (arith, ltb-false 0 (gone rest made v x) w))))

-- How many slots hold such a content.
abbrev pub pool : List ℕ → List ℕ → ℕ → List ℕ → ℕ
pool rest made v slots = total (gone rest made v) slots

-- A draw of x makes no other content go, and x itself only where it is not drawn again.
module _ (rest made : List ℕ) (x v : ℕ) where
  gone_other : (y : ℕ) → (y ≡ x → ⊥) → gone rest (x ∷ made) v y ≡ gone (x ∷ rest) made v y
  unfolding gone
  gone_other y other =
      let ahead : place y (x ∷ rest) ≡ suc (place y rest) = place_cons_further y x rest other in
      let behind : place y (x ∷ made) ≡ suc (place y made) = place_cons_further y x made other in
      let same_free : came_free (x ∷ made) y ≡ came_free made y = omega arith in
      by_test (ltb (place y rest) (length rest))
      (λ t.
      let found : place y rest < length rest = ltb-true _ _ t in
      rw (t, lt-ltb (place y (x ∷ rest)) (length (x ∷ rest)) (omega arith)))
      (λ t.
      let past : length rest ≤ place y rest = ltb-false _ _ t in
      rw (t, le-ltb (place y (x ∷ rest)) (length (x ∷ rest)) (omega arith), same_free))

  own : ℕ → ℕ
  own y = cond (eqb x y) (gone rest (x ∷ made) v x) 0

  gone_step : (y : ℕ) → gone rest (x ∷ made) v y ≡ gone (x ∷ rest) made v y + own y
  unfolding own
  gone_step y =
      by_test (eqb x y)
      (λ t.
      let is : x ≡ y = eqb-true x y t in
      let now : gone (x ∷ rest) made v y ≡ 0 = gone_drawn (x ∷ rest) made v y (omega (arith, place_cons_here y x rest (sym is))) in
      rw (t, now, is) (omega arith))
      (λ t. rw (t, gone_other y (λ e. eqb-false x y t (sym e))) (omega arith))

  own_like : (X Y : List ℕ) → holders x X ≡ holders x Y → total own X ≡ total own Y
  unfolding own
  own_like X Y e =
      let most : gone rest (x ∷ made) v x ≤ 1 = gone_most rest (x ∷ made) v x in
      by_test (ltb 0 (gone rest (x ∷ made) v x))
      (λ t.
      let one : gone rest (x ∷ made) v x ≡ 1 = omega (arith, ltb-true 0 (gone rest (x ∷ made) v x) t) in
      let like : (l : List ℕ) → total own l ≡ holders x l = λ l. total_like own (same x) l (λ y. rw one) in
      like X ∙ e ∙ sym (like Y))
      (λ t.
      let zero_own : gone rest (x ∷ made) v x ≡ 0 = omega (arith, ltb-false 0 (gone rest (x ∷ made) v x) t) in
      let like : (l : List ℕ) → total own l ≡ 0 =
      λ l. total_like own (λ y. 0) l (λ y. rw zero_own (by_test (eqb x y) (λ u. rw u) (λ u. rw u))) ∙ total_none l in
      like X ∙ sym (like Y))

  -- So two rows of slots that hold x equally often, and of which equally many may go out, are so after the draw.
  pool_drawn : (X Y : List ℕ) → holders x X ≡ holders x Y → pool (x ∷ rest) made v X ≡ pool (x ∷ rest) made v Y
      → pool rest (x ∷ made) v X ≡ pool rest (x ∷ made) v Y
  pool_drawn X Y held before =
      omega (arith, total_plus _ _ own X gone_step, total_plus _ _ own Y gone_step, own_like X Y held)

-- ---- A miss

-- What the chosen slot holds comes up furthest along a row.
abbrev pub Furthest : List ℕ → List ℕ → ℕ → Type 0
Furthest row slots q = (i : ℕ) → i < length slots → rank row (get_or slots i 0) ≤ rank row (get_or slots q 0)

-- Two rows of slots at the same draw, with the greatest draw number from which on what they gave up could go out, so far.
--     drawn    what is drawn again they hold equally often
--     upto     as far as the second is bound, the first is, and equally many of their contents may go out
--     past     the second is bound by a draw that was made
pub record Level (rest made X Y : List ℕ) (top_x top_y : ℕ) : Type 0 where
  pub drawn : (x : ℕ) → place x rest < length rest → holders x X ≡ holders x Y
  pub upto : (v : ℕ) → top_y ≤ v → (top_x ≤ v) × (pool rest made v X ≡ pool rest made v Y)
  pub past : top_y ≤ length made

module _ (rest made : List ℕ) (free_ahead : stands free rest ≡ false) (free_behind : stands free made ≡ false) where
  abbrev pub both : List ℕ
  both = rest ++ made

  -- What ranks as far as something that is never drawn again is never drawn again itself.
  gone_too : (u z : ℕ) → length rest ≤ place u rest → rank rest u ≤ rank rest z → length rest ≤ place z rest
  gone_too u z past upto = rank_place rest z (length rest) free_ahead (omega arith) (omega (arith, place_rank rest u))

  gone_too_both : (u z : ℕ) → length rest ≤ place u rest → rank both u ≤ rank both z → length rest ≤ place z rest
  gone_too_both u z past upto =
      by_test (ltb (place z rest) (length rest))
      (λ t.
      let near : place z rest < length rest = ltb-true _ _ t in
      let is : rank both z ≡ place z both = rank_symbol both z (drawn_symbol rest z free_ahead near) in
      absurd (omega (arith, place_near z rest made near, place_rank both u, place_beyond u rest made past)))
      (λ t. ltb-false _ _ t)

  -- Of two such contents the one that ranks as far may go out as early.
  free_first : (u z : ℕ) → length rest ≤ place u rest → length rest ≤ place z rest → rank both u ≤ rank both z
      → came_free made z ≤ came_free made u
  free_first u z past past' upto =
      by_test (eqb z free)
      (λ t.
      let all : length made ≤ place z made =
      rw (eqb-true z free t) (ltb-false (place free made) (length made) free_behind) in
      omega arith)
      (λ t.
      let is : rank both z ≡ place z both = rank_symbol both z (eqb-false z free t) in
      omega (arith, place_rank both u, place_beyond u rest made past, place_beyond z rest made past'))

  -- Of two that are drawn again the one that ranks as far is drawn as late.
  drawn_late : (u z : ℕ) → place u rest < length rest → place z rest < length rest → rank rest u ≤ rank rest z → place u rest ≤ place z rest
  drawn_late u z near near' upto =
      omega (arith, place_rank rest u, rank_symbol rest z (drawn_symbol rest z free_ahead near'))

  drawn_late_both : (u z : ℕ) → place u rest < length rest → place z rest < length rest → rank both u ≤ rank both z
      → place u rest ≤ place z rest
  drawn_late_both u z near near' upto =
      omega (
        arith,
        place_rank both u,
        place_near u rest made near,
        place_near z rest made near',
        rank_symbol both z (drawn_symbol rest z free_ahead near'),
      )

  module _ (X Y : List ℕ) (top_x top_y : ℕ) (level : Level rest made X Y top_x top_y) (q r x : ℕ) (in_x : q < length X) (in_y : r < length Y)
      (first : Furthest both X q) (other : Furthest rest Y r) (now : place x rest < length rest) where
    abbrev pub out_x : ℕ
    out_x = get_or X q 0

    abbrev pub out_y : ℕ
    out_y = get_or Y r 0

    -- The slots with x in place of what goes out.
    pool_set : (Z : List ℕ) (p v : ℕ) → p < length Z → pool rest made v (set Z p x) + gone rest made v (get_or Z p 0) ≡ pool rest made v Z
    pool_set Z p v inside = omega (arith, total_set (gone rest made v) Z p x inside, gone_drawn rest made v x now)

    -- Where something may go out, the first takes what may go out earliest, and the second something.
    module _ (some : 0 < pool rest made (length made) X) where
      as_many : pool rest made (length made) X ≡ pool rest made (length made) Y
      as_many = (level.upto (length made) level.past).1

      gone_x : length rest ≤ place out_x rest
      gone_x =
          let (i, inside, counts) = total_some _ X some in
          gone_too_both (get_or X i 0) out_x (gone_some rest made (length made) (get_or X i 0) counts).0 (first i inside)

      gone_y : length rest ≤ place out_y rest
      gone_y =
          let (i, inside, counts) = total_some (gone rest made (length made)) Y (rw as_many at some) in
          gone_too (get_or Y i 0) out_y (gone_some rest made (length made) (get_or Y i 0) counts).0 (other i inside)

      -- As far as what the second gives up may go out, the first has something that may.
      soon_too : (v : ℕ) → top_y ≤ v → came_free made out_y ≤ v → came_free made out_x ≤ v
      soon_too v bound late =
          let one : gone rest made v out_y ≡ 1 = gone_yes rest made v out_y gone_y late in
          let least : gone rest made v out_y ≤ pool rest made v Y = total_least (gone rest made v) Y r in_y in
          let even : pool rest made v X ≡ pool rest made v Y = (level.upto v bound).1 in
          let (i, inside, counts) = total_some (gone rest made v) X (omega arith) in
          let (past, upto) = gone_some rest made v (get_or X i 0) counts in
          omega (arith, free_first (get_or X i 0) out_x past gone_x (first i inside))

      level_some : Level rest made (set X q x) (set Y r x) (max top_x (came_free made out_x)) (max top_y (came_free made out_y))
      level_some =
          record {
            drawn = λ u near.
                let other_x : same u out_x ≡ 0 = rw (ne_eqb u out_x (λ e. absurd (omega (arith, ap (λ (n : ℕ). place n rest) e, gone_x)))) in
                let other_y : same u out_y ≡ 0 = rw (ne_eqb u out_y (λ e. absurd (omega (arith, ap (λ (n : ℕ). place n rest) e, gone_y)))) in
                omega (arith, total_set (same u) X q x in_x, total_set (same u) Y r x in_y, level.drawn u near);
            upto = λ v bound.
                let (upto, even) = level.upto v (omega arith) in
                let soon : came_free made out_x ≤ v = soon_too v (omega arith) (omega arith) in (
                  omega arith,
                  omega (
                    arith,
                    pool_set X q v in_x,
                    pool_set Y r v in_y,
                    gone_yes rest made v out_x gone_x soon,
                    gone_yes rest made v out_y gone_y (omega arith),
                  ),
                );
            past = omega (arith, level.past);
          }

    -- Where nothing may go out, both give up the same symbol.
    module _ (none : pool rest made (length made) X ≡ 0) where
      all_drawn : (Z : List ℕ) → pool rest made (length made) Z ≡ 0 → (i : ℕ) → i < length Z → place (get_or Z i 0) rest < length rest
      all_drawn Z e i inside =
          by_test (ltb (place (get_or Z i 0) rest) (length rest)) (λ t. ltb-true _ _ t)
          (λ t.
          absurd
          (omega (
            arith,
            total_least (gone rest made (length made)) Z i inside,
            gone_yes rest made (length made) (get_or Z i 0) (ltb-false _ _ t) (omega arith),
          )))

      drawn_x : place out_x rest < length rest
      drawn_x = all_drawn X none q in_x

      drawn_y : place out_y rest < length rest
      drawn_y = all_drawn Y (sym (level.upto (length made) level.past).1 ∙ none) r in_y

      -- A symbol that is held equally often in both is somewhere in the other.
      somewhere : (u : ℕ) (Z W : List ℕ) (p : ℕ) → p < length Z → get_or Z p 0 ≡ u → holders u Z ≡ holders u W
          → (i : ℕ) × (i < length W) × (get_or W i 0 ≡ u)
      somewhere u Z W p inside is even =
          let one : same u (get_or Z p 0) ≡ 1 = rw (eq-eqb u (get_or Z p 0) (sym is)) in
          let (i, within, counts) = total_some (same u) W (omega (arith, total_least (same u) Z p inside)) in
          (i, within, by_test (eqb u (get_or W i 0)) (λ t. sym (eqb-true _ _ t)) (λ t. absurd (omega (arith, rw t at counts))))

      same_out : out_x ≡ out_y
      same_out =
          let (i, in_y', is_x) = somewhere out_x X Y q in_x refl (level.drawn out_x drawn_x) in
          let (j, in_x', is_y) = somewhere out_y Y X r in_y refl (sym (level.drawn out_y drawn_y)) in
          let late : place out_x rest ≤ place out_y rest = drawn_late out_x out_y drawn_x drawn_y (rw is_x at (other i in_y')) in
          let late' : place out_y rest ≤ place out_x rest = drawn_late_both out_y out_x drawn_y drawn_x (rw is_y at (first j in_x')) in
          let even : place out_x rest ≡ place out_y rest = omega arith in
          sym (place_holds out_x rest drawn_x) ∙ ap (λ (n : ℕ). get_or rest n 0) even ∙ place_holds out_y rest drawn_y

      level_none : Level rest made (set X q x) (set Y r x) (max top_x (came_free made out_x)) (max top_y (came_free made out_y))
      level_none =
          let alike : came_free made out_x ≡ came_free made out_y = ap (came_free made) same_out in
          record {
            drawn = λ u near.
                omega (
                  arith,
                  total_set (same u) X q x in_x,
                  total_set (same u) Y r x in_y,
                  ap (same u) same_out,
                  level.drawn u near,
                );
            upto = λ v bound.
                let (upto, even) = level.upto v (omega arith) in (
                  omega arith,
                  omega (
                    arith,
                    pool_set X q v in_x,
                    pool_set Y r v in_y,
                    gone_drawn rest made v out_x drawn_x,
                    gone_drawn rest made v out_y drawn_y,
                  ),
                );
            past = omega (arith, level.past);
          }

    -- So they are level once x is in a slot of each.
    pub level_miss : Level rest made (set X q x) (set Y r x) (max top_x (came_free made out_x)) (max top_y (came_free made out_y))
    level_miss =
        by_test (ltb 0 (pool rest made (length made) X))
        (λ t. level_some (ltb-true 0 _ t))
        (λ t. level_none (omega (arith, ltb-false 0 (pool rest made (length made) X) t)))

-- A draw of x keeps them level.
pub level_draw : (x : ℕ) (rest made X Y : List ℕ) (top_x top_y : ℕ) → Level (x ∷ rest) made X Y top_x top_y → Level rest (x ∷ made) X Y top_x top_y
level_draw x rest made X Y top_x top_y level =
    record {
      drawn = λ u near. level.drawn u (omega (arith, place_cons_most u x rest));
      upto = λ v bound.
          let (upto, even) = level.upto v bound in
          let held : holders x X ≡ holders x Y = level.drawn x (omega (arith, place_cons_here x x rest refl)) in
          (upto, pool_drawn rest made x v X Y held even);
      past = omega (arith, level.past);
    }
