-- Two plans on demand that both give up what is furthest miss the same draws. Where one of them gives up first what came free first, what it
-- gives up could go out no later than what the other does, if one takes the latest so far in both.
use Prim.Native.Nat.{ℕ, ◌+◌, ◌<◌, ◌≤◌}
use native.Mathlib.Omega.{arith}
use mathlib.Core.Path.{◌≡◌, refl, ap, ◌∙◌}
use mathlib.Core.Bool.{true, false}
use mathlib.Core.List.{List, [], ◌∷◌, ◌++◌, map, reverse}
use lib.ListN.{length, take, set, length-set}
use Rattle.rules.specs.Basics.{place, stands}
use Rattle.rules.specs.Job.{free}
use Rattle.laws.proofs.Cases.{by_test}
use Rattle.laws.proofs.Search.{place_cons_here}
use Rattle.plan_laws.proofs.Counting.{holders, holders_found, holders_unfound}
use Rattle.plan_laws.proofs.Misses.{Miss, Choosing, Below, misses_by, by_hit, by_miss, by_over}
use Rattle.plan_laws.proofs.Top.{top, top_none, top_both}
use Rattle.plan_laws.proofs.CameFree.{Parted, parted_next, parted_start, not_ahead, not_behind, free_from, miss_draw}
use Rattle.plan_laws.proofs.Level.{Furthest, Level, level_miss, level_draw}

-- A draw that slots of one row hold equally often as those of another is a hit in both or a miss in both.
hit_too : (x : ℕ) (X Y : List ℕ) → holders x X ≡ holders x Y → stands x X ≡ true → stands x Y ≡ true
hit_too x X Y even hit =
    by_test (stands x Y) (λ t. t) (λ t. absurd (omega (arith, holders_found x X hit, holders_unfound x Y t)))

miss_too : (x : ℕ) (X Y : List ℕ) → holders x X ≡ holders x Y → stands x X ≡ false → stands x Y ≡ false
miss_too x X Y even missed =
    by_test (stands x Y) (λ t. absurd (omega (arith, holders_found x Y t, holders_unfound x X missed))) (λ t. t)

-- The same draws are missed, and the latest draw from which on what was given up could go out is no later.
pub record Alike (draws X Y : List ℕ) (top_x top_y : ℕ) (misses_x misses_y : List Miss) : Type 0 where
  pub same_draws : map miss_draw misses_x ≡ map miss_draw misses_y
  pub no_later : (j : ℕ) → top top_x j (free_from draws X misses_x) ≤ top top_y j (free_from draws Y misses_y)

module _ (draws : List ℕ) (drawable : stands free draws ≡ false) (k : ℕ) (pick_x pick_y : Choosing) (below_x : Below pick_x) (below_y : Below pick_y)
    (first : (d : ℕ) (rest slots : List ℕ) → length slots ≡ k → Furthest (rest ++ reverse (take d draws)) slots (pick_x d rest slots))
    (other : (d : ℕ) (rest slots : List ℕ) → length slots ≡ k → Furthest rest slots (pick_y d rest slots)) (some : 0 < k) where
  alike_over : (d : ℕ) (made X Y : List ℕ) (top_x top_y : ℕ) → Level [] made X Y top_x top_y
      → Alike draws X Y top_x top_y (misses_by pick_x d X []) (misses_by pick_y d Y [])
  unfolding free_from
  alike_over d made X Y top_x top_y level =
      rw (by_over pick_x d X [] refl, by_over pick_y d Y [] refl)
      (record {
        same_draws = refl;
        no_later = λ j. omega (arith, top_none top_x j, top_none top_y j, (level.upto top_y (omega arith)).0);
      })

  alike : (rest : List ℕ) (d : ℕ) (made X Y : List ℕ) (top_x top_y : ℕ) → Parted draws d rest made → length X ≡ k → length Y ≡ k
      → Level rest made X Y top_x top_y → Alike draws X Y top_x top_y (misses_by pick_x d X rest) (misses_by pick_y d Y rest)
  unfolding free_from
  alike [] d made X Y top_x top_y p size_x size_y level = alike_over d made X Y top_x top_y level
  alike (x ∷ rest) d made X Y top_x top_y p size_x size_y level =
      let now : place x (x ∷ rest) < length (x ∷ rest) = omega (arith, place_cons_here x x rest refl) in
      let even : holders x X ≡ holders x Y = level.drawn x now in
      by_test (stands x X)
      (λ hit.
      rw (by_hit pick_x d X x rest hit, by_hit pick_y d Y x rest (hit_too x X Y even hit))
      (alike rest (d + 1) (x ∷ made) X Y top_x top_y (parted_next draws d x rest made p) size_x size_y
      (level_draw x rest made X Y top_x top_y level)))
      (λ missed.
      let q : ℕ = pick_x d (x ∷ rest) X in
      let r : ℕ = pick_y d (x ∷ rest) Y in
      let in_x : q < length X = below_x d (x ∷ rest) X (omega arith) in
      let in_y : r < length Y = below_y d (x ∷ rest) Y (omega arith) in
      let loaded =
      level_miss (x ∷ rest) made (not_ahead draws d (x ∷ rest) made p free drawable) (not_behind draws d (x ∷ rest) made p free drawable)
      X Y top_x top_y level q r x in_x in_y (rw p.behind (first d (x ∷ rest) X size_x)) (other d (x ∷ rest) Y size_y) now in
      let later =
      alike rest (d + 1) (x ∷ made) (set X q x) (set Y r x) _ _ (parted_next draws d x rest made p) (length-set X q x ∙ size_x) (length-set Y r x ∙ size_y)
      (level_draw x rest made (set X q x) (set Y r x) _ _ loaded) in
      rw (by_miss pick_x d X x rest missed, by_miss pick_y d Y x rest (miss_too x X Y even missed))
      (record {
        same_draws = ap (λ (l : List ℕ). d ∷ l) later.same_draws;
        no_later = top_both top_x top_y _ _ _ _ (level.upto top_y (omega arith)).0 (rw p.behind at later.no_later);
      }))

  -- From the same contents on they miss the same draws, and so on.
  pub alike_start : (starting : List ℕ) → length starting ≡ k
      → Alike draws starting starting 0 0 (misses_by pick_x 0 starting draws) (misses_by pick_y 0 starting draws)
  alike_start starting size =
      alike draws 0 [] starting starting 0 0 (parted_start draws) size size
      (record { drawn = λ x near. refl; upto = λ v bound. (omega arith, refl); past = omega arith })
