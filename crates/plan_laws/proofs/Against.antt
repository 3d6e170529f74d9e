-- Opt against any other run, by counting useful slots. Opt is taken draw by draw; of the other run only its slots and the number of its
-- loads that have ended are looked at, so any list is in it, whatever it loads and whenever.
use Prim.Native.Nat.{ℕ, suc, ◌+◌, ◌<◌, ◌≤◌}
use native.Mathlib.Omega.{arith}
use mathlib.Core.Path.{◌≡◌, refl, sym, ap, ◌∙◌}
use mathlib.Core.Bool.{true, false, not, ◌&&◌}
use mathlib.Core.List.{List, [], ◌∷◌}
use lib.ListN.{length, get_or, drop, set, length-set}
use lib.Dec.{eqb, ltb}
use borrow.Author.Tests.{ltb-true, ltb-false, eqb-true, ne_eqb}
use Rattle.rules.specs.Basics.{place, stands}
use Rattle.rules.specs.Job.{Job, free}
use Rattle.rules.specs.Refusals.{doubled}
use Rattle.laws.proofs.Search.{place_cons_here, place_cons_most}
use Rattle.laws.proofs.Cases.{by_test, neither}
use Rattle.plan_laws.proofs.Counting.{total, total_set, total_set_most, soon, soon_yes, soon_not, soon_place, soon_most, useful, useful_most}
use Rattle.plan_laws.proofs.Counting.{useful_none, same, holders, holders_found, holders_unfound, drawn_held, drawn_once, drawn_unheld}
use Rattle.plan_laws.proofs.Choice.{choice, choice_below, choice_useful, drawn_symbol}
use Rattle.plan_laws.proofs.Misses.{misses, misses_over, misses_hit, misses_miss}

-- No symbol is in two slots.
abbrev pub Once : List ℕ → Type 0
Once slots = (x : ℕ) → (x ≡ free → ⊥) → holders x slots ≤ 1

same_most : (x y : ℕ) → same x y ≤ 1
same_most x y = by_test (eqb x y) (λ e. rw e (omega arith)) (λ e. rw e (omega arith))

-- That stays so where a slot takes a symbol that no slot held.
once_set : (slots : List ℕ) (q y : ℕ) → Once slots → stands y slots ≡ false → Once (set slots q y)
once_set slots q y once missing x symbol =
    by_test (eqb x y)
    (λ e.
    let none : holders x slots ≡ 0 = rw (eqb-true x y e) (holders_unfound y slots missing) in
    omega (arith, total_set_most (same x) slots q y, same_most x y))
    (λ e. omega (arith, rw e at (total_set_most (same x) slots q y), once x symbol))

-- A row that refusal 5 takes is such a one.
pub once_start : (l : List ℕ) → doubled l ≡ false → Once l
unfolding doubled total
once_start [] single x symbol = omega arith
once_start (y ∷ l) single x symbol =
    let (alone, later) = neither (not (eqb y free) && stands y l) (doubled l) single in
    by_test (eqb x y)
    (λ e.
    let same_symbol : x ≡ y = eqb-true x y e in
    let absent : stands x l ≡ false = rw (← same_symbol, ne_eqb x free symbol) at alone in
    omega (arith, same_most x y, holders_unfound x l absent))
    (λ e. rw e (omega (arith, once_start l later x symbol)))

module _ (job : Job) where
  -- Opt against a run with these draws to come, these slots and a number of loads ended: opt, taken to the same draw, has made some loads,
  -- and however many draws one looks ahead, its loads and the other's useful slots are no more than the other's ended loads and its own.
  pub record Covered (whole next : ℕ) (rest slots : List ℕ) (ended : ℕ) : Type 0 where
    pub contents : List ℕ
    pub made : ℕ
    pub size : length contents ≡ length slots
    pub once : Once contents
    pub all : made + length (misses job next contents rest) ≡ whole
    pub count : (j : ℕ) → j ≤ length rest → made + useful slots rest j ≤ ended + useful contents rest j

  -- At the start the slots are the same.
  pub covered_start : (rest slots : List ℕ) → Once slots → Covered (length (misses job 0 slots rest)) 0 rest slots 0
  covered_start rest slots once =
      record { contents = slots; made = 0; size = refl; once = once; all = omega arith; count = λ j few. omega arith }

  module _ (whole next : ℕ) (rest slots : List ℕ) (ended : ℕ) (before : Covered whole next rest slots ended) where
    -- A load that ends puts one symbol into a slot and is one more that has ended.
    pub covered_lands : (q x : ℕ) → Covered whole next rest (set slots q x) (ended + 1)
    covered_lands q x =
        record {
          contents = before.contents;
          made = before.made;
          size = before.size ∙ sym (length-set slots q x);
          once = before.once;
          all = before.all;
          count = λ j few.
              omega (arith, before.count j few, total_set_most (soon rest j) slots q x, soon_most rest j x);
        }

    -- A load that begins leaves its slot free, and a free slot is not useful.
    pub covered_begins : (q : ℕ) → stands free rest ≡ false → Covered whole next rest (set slots q free) ended
    covered_begins q drawable =
        record {
          contents = before.contents;
          made = before.made;
          size = before.size ∙ sym (length-set slots q free);
          once = before.once;
          all = before.all;
          count = λ j few.
              let far : length rest ≤ place free rest = ltb-false (place free rest) (length rest) drawable in
              omega (arith, before.count j few, total_set_most (soon rest j) slots q free, soon_not rest j free (omega arith));
        }

  -- At the end opt has made no more loads than have ended.
  pub covered_over : (whole next : ℕ) (rest slots : List ℕ) (ended : ℕ) → rest ≡ [] → Covered whole next rest slots ended → whole ≤ ended
  covered_over whole next rest slots ended over before =
      let none : length (misses job next before.contents rest) ≡ 0 = ap length (misses_over job next before.contents rest over) in
      omega (arith, before.all, before.count 0 (omega arith), useful_none before.contents rest)

  module _ (whole next x : ℕ) (rest slots : List ℕ) (ended : ℕ) (before : Covered whole next (x ∷ rest) slots ended)
      (drawable : stands free (x ∷ rest) ≡ false) (held : stands x slots ≡ true) (row : length slots ≡ job.slots) where
    symbol : x ≡ free → ⊥
    symbol = drawn_symbol (x ∷ rest) x drawable (rw (place_cons_here x x rest refl) (omega arith))

    some_hold : 0 < holders x slots
    some_hold = holders_found x slots held

    -- A draw that opt hits too.
    covered_hit : stands x before.contents ≡ true → Covered whole (next + 1) rest slots ended
    covered_hit hit =
        record {
          contents = before.contents;
          made = before.made;
          size = before.size;
          once = before.once;
          all = rw (misses_hit job next before.contents x rest hit) at before.all;
          count = λ j few.
              omega (
                arith,
                before.count (suc j) (omega arith),
                drawn_held x rest j slots some_hold,
                drawn_once x rest j before.contents (before.once x symbol),
              );
        }

    module _ (missing : stands x before.contents ≡ false) where
      abbrev slot : ℕ
      slot = choice job next (x ∷ rest) before.contents

      some_slot : 0 < length before.contents
      some_slot = omega (arith, before.size, ltb-true (place x slots) (length slots) held)

      unheld : (j : ℕ) → useful before.contents (x ∷ rest) (suc j) ≡ useful before.contents rest j
      unheld j = drawn_unheld x rest j before.contents (holders_unfound x before.contents missing)

      -- Where the draw is one that opt misses, the other is a load ahead already.
      load_ahead : before.made + 1 ≤ ended
      load_ahead =
          omega (
            arith,
            before.count 1 (omega arith),
            drawn_held x rest 0 slots some_hold,
            soon_not rest 0 x (omega arith),
            unheld 0,
            useful_none before.contents rest,
          )

      -- What opt puts into the slot makes up for its load, unless what goes out is drawn soon: then every slot of opt's is useful.
      count_miss : (j : ℕ) → j ≤ length rest → before.made + 1 + useful slots rest j ≤ ended + useful (set before.contents slot x) rest j
      count_miss j few =
          let z : ℕ = get_or before.contents slot 0 in
          let written : useful (set before.contents slot x) rest j + soon rest j z ≡ useful before.contents rest j + soon rest j x =
          total_set (soon rest j) before.contents slot x (choice_below job next (x ∷ rest) before.contents some_slot) in
          let held_now : useful slots rest j + 1 ≤ useful slots (x ∷ rest) (suc j) + soon rest j x = drawn_held x rest j slots some_hold in
          let same_count : useful before.contents (x ∷ rest) (suc j) ≡ useful before.contents rest j = unheld j in
          by_test (ltb 0 (soon rest j z))
          (λ e.
          let near : place z rest < j = soon_place rest j z (ltb-true 0 (soon rest j z) e) in
          let near_too : soon (x ∷ rest) (suc j) z ≡ 1 = soon_yes (x ∷ rest) (suc j) z (omega (arith, place_cons_most z x rest)) in
          let full : useful before.contents (x ∷ rest) (suc j) ≡ length before.contents =
          choice_useful job next (x ∷ rest) before.contents (suc j) (omega (arith, before.size)) drawable (omega arith) (omega arith) in
          let size : length before.contents ≡ length slots = before.size in
          omega (arith, useful_most slots (x ∷ rest) (suc j), load_ahead, soon_most rest j z))
          (λ e. omega (arith, before.count (suc j) (omega arith), ltb-false 0 (soon rest j z) e))

      covered_miss : Covered whole (next + 1) rest slots ended
      covered_miss =
          record {
            contents = set before.contents slot x;
            made = before.made + 1;
            size = length-set before.contents slot x ∙ before.size;
            once = once_set before.contents slot x before.once missing;
            all = omega (arith, rw (misses_miss job next before.contents x rest missing) at before.all);
            count = count_miss;
          }

  -- A draw, hit or missed by opt.
  pub covered_draws : (whole next : ℕ) (rest slots : List ℕ) (ended : ℕ) → stands free rest ≡ false → 0 < length rest
      → stands (get_or rest 0 0) slots ≡ true → length slots ≡ job.slots → Covered whole next rest slots ended
      → Covered whole (next + 1) (drop 1 rest) slots ended
  covered_draws whole next [] slots ended drawable more held row before = absurd (omega arith)
  covered_draws whole next (x ∷ rest) slots ended drawable more held row before =
      by_test (stands x before.contents)
      (covered_hit whole next x rest slots ended before drawable held row)
      (covered_miss whole next x rest slots ended before drawable held row)
