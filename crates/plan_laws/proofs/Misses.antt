-- The loads of a plan on demand draw by draw, with no clock: from some contents of the slots, the draws that miss, each with the slot it takes.
-- Which slot that is does not matter here; opt's own misses are at the end.
use Prim.Native.Nat.{ℕ, ◌+◌, ◌<◌, ◌≤◌}
use native.Mathlib.Omega.{arith}
use mathlib.Core.Path.{◌≡◌, refl, sym, ◌∙◌}
use mathlib.Core.Bool.{true, false, cond}
use mathlib.Core.List.{List, [], ◌∷◌}
use lib.ListN.{length, get_or, drop, set}
use Rattle.rules.specs.Basics.{place, stands}
use Rattle.rules.specs.Job.{Job}
use Rattle.laws.proofs.Search.{place_cons_here, place_cons_further, place_cons_most}
use Rattle.laws.proofs.Cases.{by_test}
use Rattle.plan_laws.proofs.Search.{stands_new, stands_kept}
use Rattle.plan_laws.proofs.Choice.{choice}

-- A draw that misses: its number, the slot taken for it, and its symbol.
pub data Miss : Type 0 where
  miss : (draw slot symbol : ℕ) → Miss

-- A choice of slots for misses: of the draw number, the draws to come and the contents of the slots.
abbrev pub Choosing : Type 0
Choosing = ℕ → List ℕ → List ℕ → ℕ

-- It chooses one of the slots.
abbrev pub Below : Choosing → Type 0
Below pick = (d : ℕ) (rest slots : List ℕ) → 0 < length slots → pick d rest slots < length slots

module _ (pick : Choosing) where
  -- The misses from draw number d on. A miss puts the draw's symbol into the slot that is chosen.
  unfoldable pub misses_by : ℕ → List ℕ → List ℕ → List Miss
  misses_by d slots [] = []
  misses_by d slots (x ∷ rest) =
      let drawn : List Miss = misses_by (d + 1) slots rest in
      let q : ℕ = pick d (x ∷ rest) slots in
      let missed : List Miss = miss d q x ∷ misses_by (d + 1) (set slots q x) rest in
      cond (stands x slots) drawn missed

  -- A draw that some slot holds is no miss.
  pub by_hit : (d : ℕ) (slots : List ℕ) (x : ℕ) (rest : List ℕ) → stands x slots ≡ true
      → misses_by d slots (x ∷ rest) ≡ misses_by (d + 1) slots rest
  unfolding misses_by
  by_hit d slots x rest h = rw h

  -- A draw that no slot holds is one.
  pub by_miss : (d : ℕ) (slots : List ℕ) (x : ℕ) (rest : List ℕ) → stands x slots ≡ false
      → misses_by d slots (x ∷ rest)
      ≡ miss d (pick d (x ∷ rest) slots) x ∷ misses_by (d + 1) (set slots (pick d (x ∷ rest) slots) x) rest
  unfolding misses_by
  by_miss d slots x rest h = rw h

  -- With no draws to come there are none.
  pub by_over : (d : ℕ) (slots rest : List ℕ) → rest ≡ [] → misses_by d slots rest ≡ []
  unfolding misses_by
  by_over d slots rest over = rw over

  -- A next draw that some slot holds is no miss.
  pub by_drawn : (d : ℕ) (slots rest : List ℕ) → 0 < length rest → stands (get_or rest 0 0) slots ≡ true
      → misses_by d slots rest ≡ misses_by (d + 1) slots (drop 1 rest)
  by_drawn d slots [] more held = absurd (omega arith)
  by_drawn d slots (x ∷ rest) more held = by_hit d slots x rest held

  -- At most one miss to each draw.
  pub by_most : (d : ℕ) (slots rest : List ℕ) → length (misses_by d slots rest) ≤ length rest
  by_most d slots [] = unfold misses_by in omega arith
  by_most d slots (x ∷ rest) =
      by_test (stands x slots)
      (λ e. rw (by_hit d slots x rest e) (omega (arith, by_most (d + 1) slots rest)))
      (λ e. rw (by_miss d slots x rest e) (omega (arith, by_most (d + 1) (set slots (pick d (x ∷ rest) slots) x) rest)))

  -- The first miss from d on, at m, where its symbol is drawn next. If what its slot holds is not drawn before m, its load may as well be
  -- made at once: the misses after it stay the same.
  pub record First (d : ℕ) (slots rest : List ℕ) (m q x : ℕ) (later : List Miss) : Type 0 where
    pub at : d + place x rest ≡ m
    pub below : q < length slots
    pub absent : stands x slots ≡ false
    pub drawn : place x rest < length rest
    pub early : m ≤ d + place (get_or slots q 0) rest → misses_by d (set slots q x) rest ≡ later

  no_first : (d : ℕ) (slots : List ℕ) (m : Miss) (later : List Miss) → misses_by d slots [] ≡ m ∷ later → ⊥
  no_first d slots m later e =
      let none : misses_by d slots [] ≡ [] = by_over d slots [] refl in
      let impossible : ◌≡◌ {A = ℕ} 0 1 = cc in omega arith

  module _ (below : Below pick) where
    first_now : (d : ℕ) (slots : List ℕ) (y : ℕ) (rest : List ℕ) → 0 < length slots → stands y slots ≡ false
        → First d slots (y ∷ rest) d (pick d (y ∷ rest) slots) y (misses_by (d + 1) (set slots (pick d (y ∷ rest) slots) y) rest)
    first_now d slots y rest h missing =
        let q : ℕ = pick d (y ∷ rest) slots in
        let less : q < length slots = below d (y ∷ rest) slots h in
        record {
          at = omega (arith, place_cons_here y y rest refl);
          below = less;
          absent = missing;
          drawn = rw (place_cons_here y y rest refl) (omega arith);
          early = λ soon. by_hit d (set slots q y) y rest (stands_new slots q y less);
        }

    first_later : (d : ℕ) (slots : List ℕ) (y : ℕ) (rest : List ℕ) (m q x : ℕ) (later : List Miss) → stands y slots ≡ true
        → First (d + 1) slots rest m q x later → First d slots (y ∷ rest) m q x later
    first_later d slots y rest m q x later hit f =
        let new : x ≡ y → ⊥ =
        λ e. let both : true ≡ false = sym hit ∙ rw (← e) f.absent in let z : ◌≡◌ {A = ℕ} 0 1 = cc in omega arith in
        record {
          at = omega (arith, f.at, place_cons_further x y rest new);
          below = f.below;
          absent = f.absent;
          drawn = omega (arith, place_cons_most x y rest);
          early = λ enough.
              let other : get_or slots q 0 ≡ y → ⊥ = λ e. omega (arith, place_cons_here (get_or slots q 0) y rest e) in
              by_hit d (set slots q x) y rest (stands_kept slots q x y hit other)
              ∙ f.early (omega (arith, place_cons_further (get_or slots q 0) y rest other));
        }

    -- The first of the misses is such a one.
    pub first : (d : ℕ) (slots rest : List ℕ) (m q x : ℕ) (later : List Miss) → 0 < length slots
        → misses_by d slots rest ≡ miss m q x ∷ later → First d slots rest m q x later
    first d slots [] m q x later h e = absurd (no_first d slots (miss m q x) later e)
    first d slots (y ∷ rest) m q x later h e =
        by_test (stands y slots)
        (λ hit.
        first_later d slots y rest m q x later hit
        (first (d + 1) slots rest m q x later h (sym (by_hit d slots y rest hit) ∙ e)))
        (λ missing.
        let here = sym (by_miss d slots y rest missing) ∙ e in
        let place : d ≡ m = cc in
        let slot : pick d (y ∷ rest) slots ≡ q = cc in
        let symbol : y ≡ x = cc in
        let behind : misses_by (d + 1) (set slots (pick d (y ∷ rest) slots) y) rest ≡ later = cc in
        rw (← place, ← slot, ← symbol, ← behind) (first_now d slots y rest h missing))

    -- A next draw that no slot holds is the first miss, and its load may be made before it is drawn.
    pub by_now : (d : ℕ) (slots rest : List ℕ) → 0 < length slots → 0 < length rest → stands (get_or rest 0 0) slots ≡ false
        → misses_by d slots rest
        ≡ miss d (pick d rest slots) (get_or rest 0 0) ∷ misses_by d (set slots (pick d rest slots) (get_or rest 0 0)) rest
    by_now d slots [] some more missing = absurd (omega arith)
    by_now d slots (x ∷ rest) some more missing =
        rw ((first_now d slots x rest some missing).early (omega arith)) (by_miss d slots x rest missing)

-- Opt's misses.
abbrev pub misses : Job → ℕ → List ℕ → List ℕ → List Miss
misses job = misses_by (choice job)

module _ (job : Job) where
  pub misses_hit : (d : ℕ) (slots : List ℕ) (x : ℕ) (rest : List ℕ) → stands x slots ≡ true
      → misses job d slots (x ∷ rest) ≡ misses job (d + 1) slots rest
  misses_hit = by_hit (choice job)

  pub misses_miss : (d : ℕ) (slots : List ℕ) (x : ℕ) (rest : List ℕ) → stands x slots ≡ false
      → misses job d slots (x ∷ rest)
      ≡ miss d (choice job d (x ∷ rest) slots) x ∷ misses job (d + 1) (set slots (choice job d (x ∷ rest) slots) x) rest
  misses_miss = by_miss (choice job)

  pub misses_over : (d : ℕ) (slots rest : List ℕ) → rest ≡ [] → misses job d slots rest ≡ []
  misses_over = by_over (choice job)
