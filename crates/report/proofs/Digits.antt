-- What std's reader of digits gives is what the bytes name one after the other.
use Rattle.std.proofs.Common.{ℕ, ◌+◌, ◌*◌, ◌-◌, ◌^◌, ◌<◌, ◌≤◌, ◌≡◌, Bool, true, false, cond, leb, List, []}
use Rattle.std.proofs.Common.{◌∷◌, length, get_or}
use Rattle.std.proofs.Common.{Option, Some, None}
use Rattle.std.proofs.Common.{Result, Ok, Err, inl, inr, sym, refl, ◌∙◌, rules, arith, leb-true, le-leb, leb-false, ne_eqb}
use borrow.Author.Tests.{lt-leb}
use Rattle.std.specs.Str.{IsUtf8, all_ascii_digits}
use Rattle.std.specs.Str.Parse.{ParsesUnsigned}
use Rattle.std.specs.Result.{OkIff, result_ok}
use Rattle.std.proofs.lemmas.Str.Parse.{IsNumeralModel, numerals_by_fold, tells_all_ascii_digits, parse_plain}
use Rattle.std.proofs.lemmas.Bool.{cases_Bool, cases_eq}
use Rattle.std.proofs.lemmas.List.{nil_from_length}
use Rattle.std.proofs.lemmas.Str.{IsUtf8-from_ascii}
use Rattle.std.proofs.lemmas.Fmt.{IsAscii-from_digits}
use Rattle.report.specs.Rounds.{most_rounds, is_digit, rounds_from, rounds_in}

digit_range : (b : ℕ) → is_digit b ≡ true → (48 ≤ b) × (b ≤ 57)
digit_range b digit = (tells_all_ascii_digits.parts b [] (rw digit)).0

abbrev value : (n : ℕ) → List ℕ → ℕ
value n [] = n
value n (b ∷ word) = value (10 * n + (b - 48)) word

numerals : IsNumeralModel (λ ds. all_ascii_digits ds ≡ true) (value 0)
numerals = numerals_by_fold _ tells_all_ascii_digits value (search rules)

grows : (n : ℕ) (word : List ℕ) → n ≤ value n word
grows n [] = omega arith
grows n (b ∷ word) = let more : 10 * n + (b - 48) ≤ value (10 * n + (b - 48)) word = grows (10 * n + (b - 48)) word in omega arith

-- A number read so far, with the bytes after it.
abbrev named : (n : ℕ) (word : List ℕ) → Option ℕ
named n word = cond (all_ascii_digits word) (cond (leb (value n word) most_rounds) (Some (value n word)) None) None

not_named : (n : ℕ) (word : List ℕ) → most_rounds < n → named n word ≡ None
not_named n word over = by_test (all_ascii_digits word)
  where
    small : leb (value n word) most_rounds ≡ false
    small = let most : n ≤ value n word = grows n word in lt-leb (value n word) most_rounds (omega arith)

    by_test : (t : Bool) → cond t (cond (leb (value n word) most_rounds) (Some (value n word)) None) None ≡ None
    by_test true = rw small
    by_test false = refl

-- The bytes after a number that is not 0.
module _ (n b : ℕ) (word : List ℕ) (some : n ≡ 0 → ⊥) where
  with_other : is_digit b ≡ false → rounds_from n (b ∷ word) ≡ named n (b ∷ word)
  unfolding rounds_from
  with_other other = rw (ne_eqb n 0 some, other)

  module _ (digit : is_digit b ≡ true) where
    with_too_many : most_rounds < 10 * n + (b - 48) → rounds_from n (b ∷ word) ≡ named n (b ∷ word)
    unfolding rounds_from
    with_too_many over = rw (ne_eqb n 0 some, digit, lt-leb (10 * n + (b - 48)) most_rounds over, not_named (10 * n + (b - 48)) word over)

    with_digit : rounds_from (10 * n + (b - 48)) word ≡ named (10 * n + (b - 48)) word → 10 * n + (b - 48) ≤ most_rounds
        → rounds_from n (b ∷ word) ≡ named n (b ∷ word)
    unfolding rounds_from
    with_digit rest small = rw (ne_eqb n 0 some, digit, le-leb (10 * n + (b - 48)) most_rounds small, rest)

after : (n : ℕ) (word : List ℕ) → (n ≡ 0 → ⊥) → n ≤ most_rounds → rounds_from n word ≡ named n word
unfolding rounds_from
after n [] some small = rw (le-leb n most_rounds small)
after n (b ∷ word) some small = elim (cases_Bool (is_digit b)) [
  | inl digit ↦ elim (cases_Bool (leb (10 * n + (b - 48)) most_rounds)) [
    | inl fits ↦ with_digit n b word some digit (after (10 * n + (b - 48)) word (λ z. omega arith) (leb-true _ _ fits)) (leb-true _ _ fits)
    | inr over ↦ with_too_many n b word some digit (leb-false _ _ over)
  ]
  | inr other ↦ with_other n b word some other
]

after_zero : (word : List ℕ) → (length word ≡ 0 → ⊥) → rounds_from 0 word ≡ None
unfolding rounds_from
after_zero [] some = absurd (some refl)
after_zero (b ∷ word) some = refl

module _ (b : ℕ) (rest : List ℕ) (digit : is_digit b ≡ true) where
  from_zero : b ≡ 48 → length rest ≡ 0 → rounds_in (b ∷ rest) ≡ named 0 (b ∷ rest)
  unfolding rounds_in rounds_from
  from_zero zero none = rw (zero, nil_from_length rest none)

  from_other : (b ≡ 48 → ⊥) → rounds_in (b ∷ rest) ≡ named 0 (b ∷ rest)
  unfolding rounds_in
  from_other some =
      let within : (48 ≤ b) × (b ≤ 57) = digit_range b digit in
      let begins : rounds_from (b - 48) rest ≡ named (b - 48) rest = after (b - 48) rest (λ z. omega arith) (omega arith) in
      let same : 10 * 0 + (b - 48) ≡ b - 48 = omega arith in
      rw (digit, begins, same)

  whole : (b ≡ 48 → length rest ≡ 0) → rounds_in (b ∷ rest) ≡ named 0 (b ∷ rest)
  whole single = elim (cases_eq b 48) [ inl zero ↦ from_zero zero (single zero) | inr other ↦ from_other other ]

tells : {E : Type 0} (word : List ℕ) (r : Result ℕ E)
    → OkIff r ((all_ascii_digits word ≡ true) × (0 < length word) × (value 0 word < 2 ^ 32)) (value 0 word)
    → 0 < length word → result_ok r ≡ named 0 word
tells word (Ok x) ((digits, some, small), e) more = rw (digits, le-leb (value 0 word) most_rounds (omega arith), e)
tells word (Err e) never more = elim (cases_Bool (all_ascii_digits word)) [
  | inl digits ↦ elim (cases_Bool (leb (value 0 word) most_rounds)) [
    | inl fits ↦ absurd (never (digits, more, let most : value 0 word ≤ most_rounds = leb-true (value 0 word) most_rounds fits in omega arith))
    | inr over ↦ rw (digits, over)
  ]
  | inr other ↦ rw other
]

-- What is known of a word: its first byte is a digit, and a zero stands alone.
module _ (word rest : List ℕ) (b : ℕ) (begins : word ≡ b ∷ rest) where
  module _ (digit : is_digit b ≡ true) (single : b ≡ 48 → length rest ≡ 0) where
    names : rounds_in word ≡ named 0 word
    names = rw (begins, whole b rest digit single)

    pub reads : {E : Type 0} (r : Result ℕ E) → ParsesUnsigned 32 10 word r → result_ok r ≡ rounds_in word
    reads r parses =
        let within : (48 ≤ b) × (b ≤ 57) = digit_range b digit in
        let here : get_or word 0 0 ≡ b = rw begins in
        let some : 0 < length word = rw begins (omega arith) in
        tells word r (parse_plain numerals 32 word r parses (λ plus. omega arith)) some ∙ sym names

    pub no_text : (IsUtf8 word → ⊥) → rounds_in word ≡ None
    no_text bad = names ∙ (elim (cases_Bool (all_ascii_digits word)) [
      | inl digits ↦ absurd (bad (IsUtf8-from_ascii word (IsAscii-from_digits word (numerals.to word digits))))
      | inr other ↦ rw other
    ])

  pub no_digit : (r : Bool) → r ≡ is_digit b → r ≡ false → rounds_in word ≡ None
  unfolding rounds_in
  no_digit r told other = rw (begins, sym told ∙ other)

  pub zero_first : b ≡ 48 → (length rest ≡ 0 → ⊥) → rounds_in word ≡ None
  unfolding rounds_in
  zero_first zero more = rw (begins, zero, after_zero rest more)

pub no_bytes : (word : List ℕ) → length word ≡ 0 → rounds_in word ≡ None
unfolding rounds_in
no_bytes word none = rw (nil_from_length word none)

-- All that reading a word goes through.
pub ruleset by_first_byte = (reads, no_text, zero_first, no_bytes)
