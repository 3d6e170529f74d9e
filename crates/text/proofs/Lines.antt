-- Reading a number with the byte after it, and a line: what each test of the code says of the definitions.
use Prim.Native.Nat.{ℕ, ◌+◌, ◌-◌, ◌<◌, ◌≤◌}
use native.Mathlib.Omega.{arith}
use mathlib.Core.Path.{◌≡◌, refl, sym, ap, ◌∙◌}
use mathlib.Core.Bool.{Bool, true, false, ◌||◌, cond}
use mathlib.Core.List.{List}
use Rattle.std.proofs.Common.{Some, None}
use lib.ListN.{get_or, drop}
use lib.Seq.{get_or-drop, drop-drop}
use lib.Dec.{eqb}
use borrow.Author.Tests.{le-leb, eq-eqb, ne_eqb, eqb-true, eqb-false, lt-ltb, le-ltb}
use mathlib.Core.Logic.{⊎_elim}
use Rattle.std.proofs.Common.{Result, Ok, Err}
use Rattle.std.proofs.lemmas.Bool.{cases_lt}
use Rattle.std.specs.Result.{OkIff, result_ok}
use Rattle.rules.specs.LoadList.{event}
use Rattle.rules.specs.Text.{blank, line_feed, last_slot, last_symbol, is_digit, digit_count, number_from, FieldReading, found, none, read_field}
use Rattle.rules.specs.Text.{with_symbol, with_slot, with_tick, read_line}
use Rattle.laws.proofs.Cases.{by_test}
use Rattle.text.specs.declared.line.Digits.{Digits}
use Rattle.text.specs.declared.line.Field.{Field}
use Rattle.text.specs.declared.line.Line.{Line}
use Rattle.text.specs.Found.{kept, DigitsFound, FirstDigit, NumberFound, Stop, field_found, line_found}
use Rattle.text.proofs.Digits.{counts_some, counts_none, takes_none, first_there, counts_first, takes_first}

abbrev pub ending : (tick slot symbol after : ℕ) → Line
ending tick slot symbol after = record { event = event tick slot symbol; after = after }

-- ---- A number and the byte after it

abbrev pub at_place : (number after : ℕ) → Field
at_place number after = record { number = number; after = after }

or_true : (a : Bool) → (a || true) ≡ true
or_true true = refl
or_true false = refl

module _ (text : List ℕ) (from stop : ℕ) where
  abbrev part : List ℕ
  part = drop from text

  -- No digit is there.
  pub no_digit : is_digit (get_or text from 0) ≡ false → None ≡ field_found from (read_field stop part)
  no_digit other = rw (counts_none text from other)

  module _ (first : ℕ) (begins : FirstDigit text from first) (stops : Stop stop) where
    -- A zero is there: it is the number if the right byte comes after it.
    module _ (zero : first ≡ 48) where
      byte_second : get_or part 1 0 ≡ get_or text (from + 1) 0
      byte_second = get_or-drop from text 1 0

      single : is_digit (get_or text (from + 1) 0) ≡ false → digit_count part ≡ 1
      single other = omega (arith, counts_first text from first begins, counts_none text (from + 1) other)

      zero_ends : get_or text (from + 1) 0 ≡ stop → Some (at_place 0 (from + 1 + 1)) ≡ field_found from (read_field stop part)
      zero_ends ends =
          let other : is_digit (get_or text (from + 1) 0) ≡ false = rw ends stops.no_digit in
          let names : number_from 0 part ≡ 0 =
          takes_first text from first begins ∙ takes_none text (from + 1) other (first - 48) ∙ omega arith in
          let place : from + 1 + 1 ≡ from + 2 = omega arith in
          rw (single other, eq-eqb (get_or part 1 0) stop (byte_second ∙ ends), names, place)

      zero_goes_on : (get_or text (from + 1) 0 ≡ stop → ⊥) → None ≡ field_found from (read_field stop part)
      zero_goes_on differs =
          by_test (is_digit (get_or text (from + 1) 0))
          (λ digit.
          let two : 2 ≤ digit_count part = omega (arith, counts_first text from first begins, counts_some text (from + 1) digit) in
          rw (
            le-leb 1 (digit_count part) (omega arith),
            ne_eqb (digit_count part) 1 (λ one. omega arith),
            eq-eqb (get_or part 0 0) 48 (first_there text from first begins ∙ zero),
          ))
          (λ other. rw (single other, ne_eqb (get_or part 1 0) stop (λ same. differs (sym byte_second ∙ same))))

    -- Another digit is there: the number has all the digits.
    module _ (some : first ≡ 48 → ⊥) where
      byte_after : get_or part (digit_count part) 0 ≡ get_or text (from + digit_count part) 0
      byte_after = get_or-drop from text (digit_count part) 0

      field_is : read_field stop part
          ≡ cond (eqb (get_or text (from + digit_count part) 0) stop) (found (number_from 0 part) (digit_count part + 1)) none
      field_is =
          rw (
            le-leb 1 (digit_count part) (omega (arith, counts_first text from first begins)),
            ne_eqb (get_or part 0 0) 48 (λ zero. some (sym (first_there text from first begins) ∙ zero)),
            or_true (eqb (digit_count part) 1),
            byte_after,
          )

    module _ (r : Digits) (is : NumberFound part from r) where
      zero_is : first ≡ 48 → r ≡ record { end = from + 1; number = 0 }
      zero_is zero = is.zero (first_there text from first begins ∙ zero)

      other_is : (first ≡ 48 → ⊥) → DigitsFound 0 part from r
      other_is some = is.other (λ zero. some (sym (first_there text from first begins) ∙ zero))

      pub other_byte : (get_or text r.end 0 ≡ stop → ⊥) → None ≡ field_found from (read_field stop part)
      other_byte differs =
          by_test (eqb first 48)
          (λ same. let zero = eqb-true first 48 same in zero_goes_on zero (rw (zero_is zero) at differs))
          (λ other.
          let some = eqb-false first 48 other in
          rw (field_is some, ← (other_is some).ends, ne_eqb (get_or text r.end 0) stop differs))

      pub a_number : get_or text r.end 0 ≡ stop → Some (at_place r.number (r.end + 1)) ≡ field_found from (read_field stop part)
      a_number ends =
          by_test (eqb first 48)
          (λ same. let zero = eqb-true first 48 same in rw (zero_is zero) (zero_ends zero (rw (zero_is zero) at ends)))
          (λ other.
          let some = eqb-false first 48 other in
          let all = other_is some in
          let place : from + (digit_count part + 1) ≡ r.end + 1 = omega (arith, all.ends) in
          rw (field_is some, ← all.ends, eq-eqb (get_or text r.end 0) stop ends, all.names, place))

-- ---- A line

-- A number that was tried as a narrower one: it is too great, or it is that number.
pub too_great : {E : Type 0} (r : Result ℕ E) (n limit : ℕ) → OkIff r (n < limit) n → None ≡ result_ok r → limit ≤ n
too_great (Ok x) n limit is e = let z : ◌≡◌ {A = ℕ} 0 1 = cc in absurd (omega arith)
too_great (Err why) n limit is e = ⊎_elim (λ low. absurd (is low)) (λ over. over) (cases_lt n limit)

pub narrowed : {E : Type 0} (r : Result ℕ E) (n limit x : ℕ) → OkIff r (n < limit) n → Some x ≡ result_ok r → (n < limit) × (x ≡ n)
narrowed (Ok y) n limit x is e = (is.0, (let same : x ≡ y = cc in same) ∙ is.1)
narrowed (Err why) n limit x is e = let z : ◌≡◌ {A = ℕ} 0 1 = cc in absurd (omega arith)

-- What was found at a place is what the definition finds there.
as_none : (from : ℕ) (f : FieldReading) → None ≡ field_found from f → f ≡ none
as_none from none e = refl
as_none from (found n size) e = let z : ◌≡◌ {A = ℕ} 0 1 = cc in absurd (omega arith)

pub data FoundAs (from number after : ℕ) : FieldReading → Type 0 where
  found_as : {n size : ℕ} → number ≡ kept n → after ≡ from + size → FoundAs from number after (found n size)

as_found : (from number after : ℕ) (f : FieldReading) → Some (at_place number after) ≡ field_found from f → FoundAs from number after f
as_found from number after none e = let z : ◌≡◌ {A = ℕ} 0 1 = cc in absurd (omega arith)
as_found from number after (found n size) e =
    let same : at_place number after ≡ record { number = kept n; after = from + size } = cc in
    found_as {n = n} {size = size} (ap (λ (f : Field). f.number) same) (ap (λ (f : Field). f.after) same)

module _ (text : List ℕ) (from : ℕ) where
  abbrev part_of_line : List ℕ
  part_of_line = drop from text

  pub no_tick : None ≡ field_found from (read_field blank part_of_line) → None ≡ line_found from (read_line part_of_line)
  unfolding read_line
  no_tick e = rw (as_none from (read_field blank part_of_line) e)

  -- The tick was read up to a place, and the rest of the line comes from there.
  pub record TickRead (tick after : ℕ) : Type 0 where
    pub number : ℕ
    pub size : ℕ
    pub keeps : tick ≡ kept number
    pub ends : after ≡ from + size
    pub line_is : read_line part_of_line ≡ with_slot part_of_line number size (read_field blank (drop after text))

  pub tick_read : (tick after : ℕ) → Some (at_place tick after) ≡ field_found from (read_field blank part_of_line) → TickRead tick after
  unfolding read_line
  tick_read tick after e = by_reading (read_field blank part_of_line) refl (as_found from tick after (read_field blank part_of_line) e)
    where
      by_reading : (f : FieldReading) → read_field blank part_of_line ≡ f → FoundAs from tick after f → TickRead tick after
      by_reading f is (found_as {n} {size} keeps ends) =
          record {
            number = n;
            size = size;
            keeps = keeps;
            ends = ends;
            line_is =
                ap (with_tick part_of_line) is
                ∙ ap (λ (l : List ℕ). with_slot part_of_line n size (read_field blank l))
                (drop-drop size from text ∙ ap (λ (m : ℕ). drop m text) (sym ends));
          }

  module _ (tick slot_at : ℕ) (before : TickRead tick slot_at) where
    pub no_slot : None ≡ field_found slot_at (read_field blank (drop slot_at text)) → None ≡ line_found from (read_line part_of_line)
    no_slot e = rw (before.line_is, as_none slot_at (read_field blank (drop slot_at text)) e)

    pub slot_over : (slot after : ℕ) → Some (at_place slot after) ≡ field_found slot_at (read_field blank (drop slot_at text)) → last_slot < slot
        → None ≡ line_found from (read_line part_of_line)
    slot_over slot after e over = by_reading (read_field blank (drop slot_at text)) refl (as_found slot_at slot after (read_field blank (drop slot_at text)) e)
      where
        by_reading : (f : FieldReading) → read_field blank (drop slot_at text) ≡ f → FoundAs slot_at slot after f
            → None ≡ line_found from (read_line part_of_line)
        by_reading f is (found_as {n} {size} keeps ends) = rw (before.line_is, is, lt-ltb last_slot n (omega arith))

    -- Tick and slot were read up to a place.
    pub record SlotRead (slot after : ℕ) : Type 0 where
      pub size : ℕ
      pub ends : after ≡ from + size
      pub line_is : read_line part_of_line ≡ with_symbol before.number slot size (read_field line_feed (drop after text))

    pub slot_read : (slot after : ℕ) → Some (at_place slot after) ≡ field_found slot_at (read_field blank (drop slot_at text)) → slot ≤ last_slot
        → SlotRead slot after
    slot_read slot after e low = by_reading (read_field blank (drop slot_at text)) refl (as_found slot_at slot after (read_field blank (drop slot_at text)) e)
      where
        by_reading : (f : FieldReading) → read_field blank (drop slot_at text) ≡ f → FoundAs slot_at slot after f → SlotRead slot after
        by_reading f is (found_as {n} {size} keeps ends) =
            let same : n ≡ slot = omega arith in
            let here : after ≡ from + (before.size + size) = omega (arith, before.ends) in
            record {
              size = before.size + size;
              ends = here;
              line_is =
                  before.line_is
                  ∙ ap (with_slot part_of_line before.number before.size) is
                  ∙ rw (le-ltb last_slot n (omega arith), drop-drop (before.size + size) from text, ← here, same);
            }

    module _ (slot symbol_at : ℕ) (rest : SlotRead slot symbol_at) where
      pub no_symbol : None ≡ field_found symbol_at (read_field line_feed (drop symbol_at text)) → None ≡ line_found from (read_line part_of_line)
      no_symbol e = rw (rest.line_is, as_none symbol_at (read_field line_feed (drop symbol_at text)) e)

      module _ (symbol after : ℕ) (e : Some (at_place symbol after) ≡ field_found symbol_at (read_field line_feed (drop symbol_at text))) where
        pub symbol_over : last_symbol < symbol → None ≡ line_found from (read_line part_of_line)
        symbol_over over =
            by_reading (read_field line_feed (drop symbol_at text)) refl (as_found symbol_at symbol after (read_field line_feed (drop symbol_at text)) e)
          where
            by_reading : (f : FieldReading) → read_field line_feed (drop symbol_at text) ≡ f → FoundAs symbol_at symbol after f
                → None ≡ line_found from (read_line part_of_line)
            by_reading f is (found_as {n} {size} keeps ends) = rw (rest.line_is, is, lt-ltb last_symbol n (omega arith))

        pub a_line : symbol ≤ last_symbol → Some (ending tick slot symbol after) ≡ line_found from (read_line part_of_line)
        a_line low =
            by_reading (read_field line_feed (drop symbol_at text)) refl (as_found symbol_at symbol after (read_field line_feed (drop symbol_at text)) e)
          where
            by_reading : (f : FieldReading) → read_field line_feed (drop symbol_at text) ≡ f → FoundAs symbol_at symbol after f
                → Some (ending tick slot symbol after) ≡ line_found from (read_line part_of_line)
            by_reading f is (found_as {n} {size} keeps ends) =
                let same : n ≡ symbol = omega arith in
                let here : after ≡ from + (rest.size + size) = omega (arith, rest.ends) in
                rw (rest.line_is, is, le-ltb last_symbol n (omega arith), same, ← here, before.keeps)
