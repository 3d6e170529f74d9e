-- Numbers in decimal written from their last digit on: the digits still to come and those that are there make up the number.
use Prim.Native.Nat.{ℕ, suc, ◌+◌, ◌/◌, ◌%◌, ◌<◌, ◌≤◌}
use native.Mathlib.Omega.{arith}
use mathlib.Core.Path.{◌≡◌, refl, sym, ap, ◌∙◌}
use mathlib.Core.List.{List, [], ◌∷◌, ◌++◌, append_assoc}
use lib.ListN.{length, take, drop, set, length-append, length-set}
use lib.Seq.{set_split, take-set-le, drop_at, append_snoc, length-take-le}
use mathlib.Core.Logic.{⊎_elim}
use Rattle.std.proofs.lemmas.Bool.{cases_lt}
use Rattle.rules.specs.LoadList.{event}
use Rattle.rules.specs.Text.{decimal, field, line_of}
use Rattle.laws.proofs.Decimals.{decimal_small, decimal_step, decimal_some}

-- The bytes of a line: its digits, two blanks and the line feed.
pub line_length : (t q x : ℕ)
    → length (line_of (event t q x)) ≡ length (decimal t) + length (decimal q) + length (decimal x) + 3
line_length t q x = simp length-append (omega arith)

-- From a place on a store there is the byte, and what came after it.
drop_stored : (text : List ℕ) (i b : ℕ) → i < length text → drop i (set text i b) ≡ b ∷ drop (suc i) text
drop_stored text i b inside =
    ap (drop i) (set_split text i b inside) ∙ drop_at (take i text) (b ∷ drop (suc i) text) i (length-take-le i text (omega arith))

module _ (at number : ℕ) (first : List ℕ) where
  -- The digits of `left` are to come before `place`, and those after it are there.
  pub record FieldPassed (text : List ℕ) (left place : ℕ) : Type 0 where
    pub same_size : length text ≡ length first
    pub inside : place < length first
    pub up_to : at + length (decimal left) ≡ place
    pub front : take at text ≡ take at first
    pub whole : decimal left ++ drop place text ≡ decimal number ++ drop (at + length (decimal number)) first

  pub none_passed : (place : ℕ) → at + length (decimal number) ≡ place → place < length first → FieldPassed first number place
  none_passed place ends inside = record { same_size = refl; inside = inside; up_to = ends; front = refl; whole = rw ends }

  module _ (text : List ℕ) (left place : ℕ) (passed : FieldPassed text left place) where
    -- While more than one digit is to come, the number left has more than one.
    pub more_left : at + 1 < place → 10 ≤ left
    more_left more =
        let ends : at + length (decimal left) ≡ place = passed.up_to in
        ⊎_elim
        (λ low. let single : length (decimal left) ≡ 1 = ap length (decimal_small left low) in absurd (omega arith)) (λ high. high)
        (cases_lt left 10)

    pub one_left : place ≤ at + 1 → left < 10
    one_left over =
        let ends : at + length (decimal left) ≡ place = passed.up_to in
        ⊎_elim (λ low. low)
        (λ high.
        let longer : length (decimal left) ≡ length (decimal (left / 10)) + 1 =
        ap length (decimal_step left high) ∙ length-append (decimal (left / 10)) ((48 + left % 10) ∷ []) in
        absurd (omega (arith, decimal_some (left / 10))))
        (cases_lt left 10)

    pub one_passed : (p : ℕ) → p + 1 ≡ place → 10 ≤ left → FieldPassed (set text p (48 + left % 10)) (left / 10) p
    one_passed p is more =
        let size : length text ≡ length first = passed.same_size in
        let inside : place < length first = passed.inside in
        let ends : at + length (decimal left) ≡ place = passed.up_to in
        let longer : length (decimal left) ≡ length (decimal (left / 10)) + 1 =
        ap length (decimal_step left more) ∙ length-append (decimal (left / 10)) ((48 + left % 10) ∷ []) in
        let some : 1 ≤ length (decimal (left / 10)) = decimal_some (left / 10) in
        let next : suc p ≡ place = omega arith in
        record {
          same_size = length-set text p (48 + left % 10) ∙ size;
          inside = omega arith;
          up_to = omega arith;
          front = take-set-le at text p (48 + left % 10) (omega arith) ∙ passed.front;
          whole =
              ap (λ (r : List ℕ). decimal (left / 10) ++ r) (drop_stored text p (48 + left % 10) (omega arith))
              ∙ sym (append_snoc (decimal (left / 10)) (48 + left % 10) (drop (suc p) text))
              ∙ rw (next, ← decimal_step left more) passed.whole;
        }

    -- The first digit is the last one stored.
    pub all_passed : (p : ℕ) → p + 1 ≡ place → left < 10
        → set text p (48 + left) ≡ take at first ++ (decimal number ++ drop (at + length (decimal number)) first)
    all_passed p is low =
        let size : length text ≡ length first = passed.same_size in
        let inside : place < length first = passed.inside in
        let ends : at + length (decimal left) ≡ place = passed.up_to in
        let one : decimal left ≡ (48 + left) ∷ [] = decimal_small left low in
        let single : length (decimal left) ≡ 1 = ap length one in
        let here : p ≡ at = omega arith in
        let next : suc p ≡ place = omega arith in
        set_split text p (48 + left) (omega arith)
        ∙ rw (next, here, passed.front)
        (ap (λ (r : List ℕ). take at first ++ r) (rw one at passed.whole))

-- With the byte after the number stored first, that is the number and this byte in the text.
pub field_put : (text : List ℕ) (at number stop end : ℕ) → end ≡ at + length (decimal number) → end < length text
    → take at (set text end stop) ++ (decimal number ++ drop (at + length (decimal number)) (set text end stop))
    ≡ take at text ++ field number stop ++ drop (at + length (field number stop)) text
field_put text at number stop end is inside =
    let size : at + length (field number stop) ≡ suc end =
    ap (λ (n : ℕ). at + n) (length-append (decimal number) (stop ∷ [])) ∙ omega arith in
    rw (
      ← is,
      take-set-le at text end stop (omega arith),
      drop_stored text end stop inside,
      size,
      append_assoc (take at text) (field number stop) (drop (suc end) text),
      append_assoc (decimal number) (stop ∷ []) (drop (suc end) text),
    )
