-- Going along the digits of a text: how many there are, and the number that they name, as the code keeps it.
use Prim.Native.Nat.{ℕ, suc, ◌+◌, ◌*◌, ◌-◌, max, ◌<◌, ◌≤◌}
use native.Mathlib.Omega.{arith}
use native.Mathlib.Numerals.{add-one}
use mathlib.Core.Path.{◌≡◌, refl, sym, ap, ◌∙◌}
use mathlib.Core.Bool.{true, false}
use mathlib.Core.List.{List, [], ◌∷◌}
use lib.ListN.{length, get_or, drop, get_or-eq_default}
use lib.Seq.{drop-cons, get_or-drop}
use lib.Dec.{leb}
use borrow.Author.Tests.{leb-true}
use mathlib.Core.Logic.{⊎_elim}
use Rattle.std.proofs.lemmas.Bool.{cases_lt}
use Rattle.rules.specs.LoadList.{last_tick}
use Rattle.rules.specs.Text.{is_digit, digit_count, number_from}
use Rattle.laws.proofs.Cases.{by_test}
use Rattle.text.specs.declared.line.Digits.{Digits}
use Rattle.text.specs.Found.{kept, WithDigit, DigitsFound, FirstDigit, NumberFound}

-- A digit is a byte from 48 to 57, so it can be added to a number that was kept.
pub may_be_added : (number b : ℕ) → number ≤ last_tick + 1 → is_digit b ≡ true → WithDigit number b
may_be_added number b small digit =
    by_test (leb 48 b)
    (λ low. record { small = small; low = leb-true 48 b low; high = leb-true b 57 (rw low at digit) })
    (λ under. let z : ◌≡◌ {A = ℕ} 0 1 = let never : false ≡ true = rw under at digit in cc in absurd (omega arith))

-- Numbers that are kept alike are kept alike with the same digits after them.
kept_alike : (v w : ℕ) (t : List ℕ) → kept v ≡ kept w → kept (number_from v t) ≡ kept (number_from w t)
unfolding number_from
kept_alike v w [] e = e
kept_alike v w (b ∷ t) e =
    by_test (is_digit b)
    (λ digit. rw digit (kept_alike (10 * v + (b - 48)) (10 * w + (b - 48)) t (omega arith)))
    (λ other. rw other e)

-- ---- At a place of a text

module _ (text : List ℕ) (i : ℕ) where
  pub front_byte : get_or (drop i text) 0 0 ≡ get_or text i 0
  front_byte = get_or-drop i text 0 0 ∙ ap (λ (n : ℕ). get_or text n 0) (omega arith)

  -- A byte there that is a digit is counted, and takes its part in the number.
  module _ (inside : i < length text) (digit : is_digit (get_or text i 0) ≡ true) where
    here : drop i text ≡ get_or text i 0 ∷ drop (i + 1) text
    here = drop-cons text i 0 inside ∙ rw add-one

    pub counts_one : digit_count (drop i text) ≡ suc (digit_count (drop (i + 1) text))
    unfolding digit_count
    counts_one = ap digit_count here ∙ rw digit

    pub takes_one : (sum : ℕ) → number_from sum (drop i text) ≡ number_from (10 * sum + (get_or text i 0 - 48)) (drop (i + 1) text)
    unfolding number_from
    takes_one sum = ap (number_from sum) here ∙ rw digit

  -- A digit is inside of the text, since what is read past the end is none.
  pub counts_some : is_digit (get_or text i 0) ≡ true → 1 ≤ digit_count (drop i text)
  unfolding digit_count
  counts_some digit = by_list (drop i text) (rw front_byte digit)
    where
      by_list : (t : List ℕ) → is_digit (get_or t 0 0) ≡ true → 1 ≤ digit_count t
      by_list [] e = let z : ◌≡◌ {A = ℕ} 0 1 = cc in absurd (omega arith)
      by_list (b ∷ t) e = rw e (omega arith)

  -- Any other byte ends the digits, and so does the end of the text.
  module _ (other : is_digit (get_or text i 0) ≡ false) where
    pub counts_none : digit_count (drop i text) ≡ 0
    unfolding digit_count
    counts_none = by_list (drop i text) (rw front_byte other)
      where
        by_list : (t : List ℕ) → is_digit (get_or t 0 0) ≡ false → digit_count t ≡ 0
        by_list [] e = refl
        by_list (b ∷ t) e = rw e

    pub takes_none : (sum : ℕ) → number_from sum (drop i text) ≡ sum
    unfolding number_from
    takes_none sum = by_list (drop i text) (rw front_byte other)
      where
        by_list : (t : List ℕ) → is_digit (get_or t 0 0) ≡ false → number_from sum t ≡ sum
        by_list [] e = refl
        by_list (b ∷ t) e = rw e

-- ---- Going along

-- The digits before a place were passed, and those from there on are left.
pub record DigitsPassed (sum : ℕ) (text : List ℕ) (from end number : ℕ) : Type 0 where
  pub small : number ≤ last_tick + 1
  pub onward : from ≤ end
  pub counted : from + digit_count (drop from text) ≡ end + digit_count (drop end text)
  pub named : kept (number_from sum (drop from text)) ≡ kept (number_from number (drop end text))

module _ (sum : ℕ) (text : List ℕ) (from : ℕ) where
  pub none_passed : sum ≤ last_tick + 1 → DigitsPassed sum text from from sum
  none_passed small = record { small = small; onward = omega arith; counted = refl; named = refl }

  module _ (end number : ℕ) (passed : DigitsPassed sum text from end number) where
    pub at_another : is_digit (get_or text end 0) ≡ false → DigitsFound sum (drop from text) from (record { end = end; number = number })
    at_another other =
        let small : number ≤ last_tick + 1 = passed.small in
        record {
          ends = omega (arith, passed.counted, counts_none text end other);
          names = sym (passed.named ∙ rw (takes_none text end other number) (omega arith));
        }

    -- Past the end of the text there is no digit.
    none_past : (i : ℕ) → length text ≤ i → is_digit (get_or text i 0) ≡ false
    none_past i over = rw (get_or-eq_default text 0 {n = i} over) refl

    pub at_the_end : length text ≤ end → (from ≤ length text → end ≤ length text)
        → DigitsFound sum (drop from text) from (record { end = max from (length text); number = number })
    at_the_end over within =
        let passed_all : from + digit_count (drop from text) ≡ end =
        passed.counted ∙ omega (arith, counts_none text end (none_past end over)) in
        let here : max from (length text) ≡ end =
        ⊎_elim (λ past. omega (arith, counts_none text from (none_past from (omega arith)))) (λ inside. omega arith)
        (cases_lt (length text) from) in
        rw here (at_another (none_past end over))

    pub one_passed : end < length text → is_digit (get_or text end 0) ≡ true
        → DigitsPassed sum text from (end + 1) (kept (10 * number + (get_or text end 0 - 48)))
    one_passed inside digit =
        let more : ℕ = 10 * number + (get_or text end 0 - 48) in
        let start : from ≤ end = passed.onward in
        record {
          small = omega arith;
          onward = omega arith;
          counted = omega (arith, passed.counted, counts_one text end inside digit);
          named =
              passed.named
              ∙ ap kept (takes_one text end inside digit number)
              ∙ kept_alike more (kept more) (drop (end + 1) text) (omega arith);
        }

-- ---- The number that begins at a place

module _ (text : List ℕ) (from first : ℕ) (begins : FirstDigit text from first) where
  digit_there : is_digit (get_or text from 0) ≡ true
  digit_there = rw (← begins.is) begins.digit

  pub first_there : get_or (drop from text) 0 0 ≡ first
  first_there = front_byte text from ∙ sym begins.is

  pub counts_first : digit_count (drop from text) ≡ suc (digit_count (drop (from + 1) text))
  counts_first = counts_one text from begins.inside digit_there

  pub takes_first : number_from 0 (drop from text) ≡ number_from (first - 48) (drop (from + 1) text)
  takes_first =
      takes_one text from begins.inside digit_there 0
      ∙ ap (λ (n : ℕ). number_from n (drop (from + 1) text)) (rw (← begins.is) (omega arith))

  pub zero_found : first ≡ 48 → NumberFound (drop from text) from (record { end = from + 1; number = 0 })
  zero_found zero = record { zero = λ e. refl; other = λ no. absurd (no (first_there ∙ zero)) }

  pub number_found : (r : Digits) → (first ≡ 48 → ⊥) → DigitsFound (first - 48) (drop (from + 1) text) (from + 1) r
      → NumberFound (drop from text) from r
  number_found r some found =
      record {
        zero = λ e. absurd (some (sym first_there ∙ e));
        other =
            λ no.
            record {
              ends = omega (arith, found.ends, counts_first);
              names = found.names ∙ ap kept (sym takes_first);
            };
      }
