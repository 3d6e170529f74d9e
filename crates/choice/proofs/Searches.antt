-- The searches along a row: what a search of the library stops at is the first place by the definition.
use Prim.Native.Nat.{ℕ, ◌<◌}
use native.Mathlib.Omega.{arith}
use native.Mathlib.Numerals.{add-one}
use mathlib.Core.Bool.{true, false}
use mathlib.Core.Path.{◌≡◌, refl, sym, ◌∙◌}
use mathlib.Core.List.{List}
use lib.ListN.{length}
use Rattle.std.specs.Prelude.{Option, Some, None, MatchOption, unwrap_or}
use Rattle.std.specs.List.{AllWithin, HoldsAt}
use Rattle.std.proofs.lemmas.Iterator.{index_from_first}
use Rattle.rules.specs.Basics.{place, stands}
use Rattle.rules.specs.Plans.{missing}
use Rattle.laws.proofs.Search.{place_within, place_cons_here, place_cons_further}
use Rattle.display.specs.Search.{Found}
use Rattle.choice.specs.Rows.{Missed}

-- The first of a row at which a search stops, if it stops at all.
abbrev First : (Stops Passes : ℕ → Type 0) → List ℕ → Option ℕ → Type 0
First Stops Passes row r =
    MatchOption r (AllWithin Passes row 0 (length row)) (λ i. (i < length row) × HoldsAt Stops row i × AllWithin Passes row 0 i)

-- A search for x.
pub found_first : (x : ℕ) (row : List ℕ) (r : Option ℕ) (n : ℕ) → First (λ y. y ≡ x) (λ y. y ≡ x → ⊥) row r
    → n ≡ unwrap_or r (length row)
    → Found x row n
unfolding place
found_first x row r n first is =
    let found : place x row ≡ unwrap_or r (length row) =
    index_from_first (place x) (λ y. y ≡ x) (λ y. y ≡ x → ⊥) refl (λ y l e. place_cons_here x y l (sym e))
    (λ y l other. place_cons_further x y l (λ e. other (sym e)) ∙ sym (add-one (place x l))) row r first in
    let within = place_within x row in
    record { first = omega arith; within = omega arith }

-- A search for a draw that no slot serves.
missed_at : (slots rest : List ℕ) (r : Option ℕ) → First (λ y. stands y slots ≡ false) (λ y. stands y slots ≡ true) rest r
    → missing slots rest ≡ unwrap_or r (length rest) → Missed slots rest r
missed_at slots rest None first found = found
missed_at slots rest (Some place) first found = (sym found, first.0)

pub missed_first : (slots rest : List ℕ) (r : Option ℕ) → First (λ y. stands y slots ≡ false) (λ y. stands y slots ≡ true) rest r
    → Missed slots rest r
unfolding missing
missed_first slots rest r first =
    missed_at slots rest r first
    (index_from_first (missing slots) (λ y. stands y slots ≡ false) (λ y. stands y slots ≡ true) refl (λ y l absent. rw absent)
    (λ y l held. rw held (sym (add-one (missing slots l)))) rest r first)
