-- A line of a text: what the writer makes of an event reads back as that event, and each line that is read is what the writer makes.
use Prim.Native.Nat.{ℕ, suc, ◌+◌, ◌*◌, ◌-◌, ◌/◌, ◌%◌, ◌<◌, ◌≤◌}
use native.Mathlib.Omega.{arith}
use native.Mathlib.Numerals.{add-one}
use mathlib.Core.Path.{◌≡◌, refl, sym, ap, ◌∙◌}
use mathlib.Core.Bool.{true, false, not, ◌&&◌, ◌||◌}
use mathlib.Core.List.{List, [], ◌∷◌, ◌++◌, append-nil, append_assoc}
use lib.ListN.{length, get_or, take, drop, length-append, take-append-drop, get_or-eq_default}
use lib.Seq.{append_snoc, drop-append_seam, drop-append-add, drop-drop, drop-cons, get_or-append_seam, length-take-le}
use lib.Dec.{eqb, ltb, leb}
use borrow.Author.Tests.{ltb-true, ltb-false, le-leb, leb-true, eqb-true, eq-eqb, ne_eqb, le-ltb}
use Rattle.rules.specs.declared.Event.{Event}
use Rattle.rules.specs.LoadList.{event}
use Rattle.rules.specs.Text.{blank, line_feed, last_slot, last_symbol, decimal, field, line_of, is_digit, digit_count, number_from, FieldReading, found, none}
use Rattle.rules.specs.Text.{well_written, read_field, line, bad, with_symbol, with_slot, with_tick, read_line}
use Rattle.laws.proofs.Cases.{by_test}
use Rattle.laws.proofs.Decimals.{by_tenth, decimal_small, decimal_step, decimal_some}
use Rattle.plan_laws.proofs.Asking.{both_true}
use Rattle.demands.specs.TextWords.{Fitting}
use Rattle.demands.proofs.Stops.{held_and_failed}
use Rattle.demands.proofs.Words.{either, second_of, unlike}

-- ---- Digits

-- The byte of a digit is one,
digit_is : (n : ℕ) → n < 10 → is_digit (48 + n) ≡ true
digit_is n low = let top : 48 + n ≤ 57 = omega arith in rw (le-leb 48 (48 + n) (omega arith), le-leb (48 + n) 57 top)

-- and a byte that is one is 48 or more, and below 58.
digit_range : (b : ℕ) → is_digit b ≡ true → (48 ≤ b) × (b < 58)
digit_range b is =
    let (low, high) = both_true (leb 48 b) (leb b 57) is in
    let top : b ≤ 57 = leb-true b 57 high in
    (leb-true 48 b low, omega arith)

-- The digits in front of a text, and their number, where its first byte is a digit
digit_counted : (b : ℕ) (t : List ℕ) → is_digit b ≡ true → digit_count (b ∷ t) ≡ suc (digit_count t)
unfolding digit_count
digit_counted b t is = rw is

digit_read : (sum b : ℕ) (t : List ℕ) → is_digit b ≡ true → number_from sum (b ∷ t) ≡ number_from (10 * sum + (b - 48)) t
unfolding number_from
digit_read sum b t is = rw is

-- and where it is none.
none_counted : (b : ℕ) (t : List ℕ) → is_digit b ≡ false → digit_count (b ∷ t) ≡ 0
unfolding digit_count
none_counted b t not_one = rw not_one

none_read : (sum b : ℕ) (t : List ℕ) → is_digit b ≡ false → number_from sum (b ∷ t) ≡ sum
unfolding number_from
none_read sum b t not_one = rw not_one

-- ---- A number in decimal is read

-- In front of a text all its digits are counted,
decimal_counted : (n : ℕ) (t : List ℕ) → digit_count (decimal n ++ t) ≡ length (decimal n) + digit_count t
decimal_counted = by_tenth (λ n. (t : List ℕ) → digit_count (decimal n ++ t) ≡ length (decimal n) + digit_count t) small step
  where
    small : (n : ℕ) → n < 10 → (t : List ℕ) → digit_count (decimal n ++ t) ≡ length (decimal n) + digit_count t
    small n low t = rw (decimal_small n low) (digit_counted (48 + n) t (digit_is n low) ∙ omega arith)

    step : (n : ℕ) → 10 ≤ n → ((t : List ℕ) → digit_count (decimal (n / 10) ++ t) ≡ length (decimal (n / 10)) + digit_count t)
        → (t : List ℕ) → digit_count (decimal n ++ t) ≡ length (decimal n) + digit_count t
    step n high tenth t =
        let last : is_digit (48 + n % 10) ≡ true = digit_is (n % 10) (omega arith) in
        rw (decimal_step n high, append_snoc (decimal (n / 10)) (48 + n % 10) t, tenth, digit_counted (48 + n % 10) t last, length-append)
        (omega arith)

-- they name the number,
decimal_read : (n : ℕ) (t : List ℕ) → number_from 0 (decimal n ++ t) ≡ number_from n t
decimal_read = by_tenth (λ n. (t : List ℕ) → number_from 0 (decimal n ++ t) ≡ number_from n t) small step
  where
    small : (n : ℕ) → n < 10 → (t : List ℕ) → number_from 0 (decimal n ++ t) ≡ number_from n t
    small n low t =
        let same : 10 * 0 + (48 + n - 48) ≡ n = omega arith in
        rw (decimal_small n low) (digit_read 0 (48 + n) t (digit_is n low) ∙ ap (λ (m : ℕ). number_from m t) same)

    step : (n : ℕ) → 10 ≤ n → ((t : List ℕ) → number_from 0 (decimal (n / 10) ++ t) ≡ number_from (n / 10) t)
        → (t : List ℕ) → number_from 0 (decimal n ++ t) ≡ number_from n t
    step n high tenth t =
        let last : is_digit (48 + n % 10) ≡ true = digit_is (n % 10) (omega arith) in
        let same : 10 * (n / 10) + (48 + n % 10 - 48) ≡ n = omega arith in
        rw (decimal_step n high, append_snoc (decimal (n / 10)) (48 + n % 10) t)
        (tenth ((48 + n % 10) ∷ t) ∙ digit_read (n / 10) (48 + n % 10) t last ∙ ap (λ (m : ℕ). number_from m t) same)

-- and the first of them is 0 only where the number is.
decimal_first : (n : ℕ) (t : List ℕ) → 1 ≤ n → get_or (decimal n ++ t) 0 0 ≡ 48 → ⊥
decimal_first = by_tenth (λ n. (t : List ℕ) → 1 ≤ n → get_or (decimal n ++ t) 0 0 ≡ 48 → ⊥) small step
  where
    small : (n : ℕ) → n < 10 → (t : List ℕ) → 1 ≤ n → get_or (decimal n ++ t) 0 0 ≡ 48 → ⊥
    small n low t some e = let first : 48 + n ≡ 48 = rw (decimal_small n low) at e in omega arith

    step : (n : ℕ) → 10 ≤ n → ((t : List ℕ) → 1 ≤ n / 10 → get_or (decimal (n / 10) ++ t) 0 0 ≡ 48 → ⊥)
        → (t : List ℕ) → 1 ≤ n → get_or (decimal n ++ t) 0 0 ≡ 48 → ⊥
    step n high tenth t some e =
        tenth ((48 + n % 10) ∷ t) (omega arith) (rw (decimal_step n high, append_snoc (decimal (n / 10)) (48 + n % 10) t) at e)

-- A number with the byte after it is read where its digits are in the shape,
field_is : (stop k n : ℕ) (text : List ℕ) → digit_count text ≡ k → number_from 0 text ≡ n → well_written k text ≡ true → get_or text k 0 ≡ stop
    → read_field stop text ≡ found n (k + 1)
field_is stop k n text counted names well ends = rw (counted, names, well, ends, eq-eqb stop stop refl)

-- so where it is what the writer makes, with a byte after it that is no digit.
field_read : (n stop : ℕ) (rest : List ℕ) → is_digit stop ≡ false → read_field stop (field n stop ++ rest) ≡ found n (length (field n stop))
field_read n stop rest ends =
    rw (append_snoc (decimal n) stop rest, length-append)
    (field_is stop (length (decimal n)) n (decimal n ++ stop ∷ rest) counted names well (get_or-append_seam (decimal n) stop rest 0))
  where
    counted : digit_count (decimal n ++ stop ∷ rest) ≡ length (decimal n)
    counted = decimal_counted n (stop ∷ rest) ∙ rw (none_counted stop rest ends) (omega arith)

    names : number_from 0 (decimal n ++ stop ∷ rest) ≡ n
    names = decimal_read n (stop ∷ rest) ∙ none_read n stop rest ends

    zero_alone : (eqb (length (decimal n)) 1 || not (eqb (get_or (decimal n ++ stop ∷ rest) 0 0) 48)) ≡ true
    zero_alone =
        by_test (ltb n 10)
        (λ t. rw (decimal_small n (ltb-true n 10 t)))
        (λ t.
        let high : 10 ≤ n = ltb-false n 10 t in
        let other : eqb (get_or (decimal n ++ stop ∷ rest) 0 0) 48 ≡ false = ne_eqb _ _ (decimal_first n (stop ∷ rest) (omega arith)) in
        second_of (eqb (length (decimal n)) 1) _ (rw other))

    well : well_written (length (decimal n)) (decimal n ++ stop ∷ rest) ≡ true
    well = rw (le-leb 1 (length (decimal n)) (decimal_some n)) zero_alone

-- ---- A line that the writer makes is read

-- Three numbers that are read one after the other are a line.
line_is : (text : List ℕ) (t q x a b c : ℕ)
    → read_field blank text ≡ found t a
    → read_field blank (drop a text) ≡ found q b
    → read_field line_feed (drop (a + b) text) ≡ found x c
    → q ≤ last_slot
    → x ≤ last_symbol
    → read_line text ≡ line (event t q x) (a + b + c)
unfolding read_line
line_is text t q x a b c tick slot symbol low_slot low_symbol =
    ap (with_tick text) tick
    ∙ ap (with_slot text t a) slot
    ∙ rw (le-ltb last_slot q low_slot) (ap (with_symbol t q (a + b)) symbol ∙ rw (le-ltb last_symbol x low_symbol))

length_three : (a b c : List ℕ) → length a + length b + length c ≡ length (a ++ b ++ c)
length_three a b c = simp length-append

-- The line of an event that fits, in front of a text, is read as that event.
pub line_read : (e : Event) (rest : List ℕ) → Fitting e → read_line (line_of e ++ rest) ≡ line e (length (line_of e))
line_read this rest fits =
    let tick : List ℕ = field this.tick blank in
    let slot : List ℕ = field this.slot blank in
    let symbol : List ℕ = field this.symbol line_feed in
    let shape : line_of this ++ rest ≡ tick ++ (slot ++ (symbol ++ rest)) =
    append_assoc (tick ++ slot) symbol rest ∙ append_assoc tick slot (symbol ++ rest) in
    let second : drop (length tick) (tick ++ (slot ++ (symbol ++ rest))) ≡ slot ++ (symbol ++ rest) =
    drop-append_seam tick (slot ++ (symbol ++ rest)) in
    let third : drop (length tick + length slot) (tick ++ (slot ++ (symbol ++ rest))) ≡ symbol ++ rest =
    drop-append-add tick (slot ++ (symbol ++ rest)) (length slot) ∙ drop-append_seam slot (symbol ++ rest) in
    ap read_line shape
    ∙ line_is (tick ++ (slot ++ (symbol ++ rest))) this.tick this.slot this.symbol (length tick) (length slot) (length symbol)
    (field_read this.tick blank (slot ++ (symbol ++ rest)) refl)
    (ap (read_field blank) second ∙ field_read this.slot blank (symbol ++ rest) refl)
    (ap (read_field line_feed) third ∙ field_read this.symbol line_feed rest refl)
    fits.slot
    fits.symbol
    ∙ ap (line this) (length_three tick slot symbol)

-- ---- What is read is what the writer makes

-- One more digit after a number that is not 0.
one_more : (sum b : ℕ) → 1 ≤ sum → is_digit b ≡ true → decimal (10 * sum + (b - 48)) ≡ decimal sum ++ (b ∷ [])
one_more sum b some is =
    let (low, high) = digit_range b is in
    let front : (10 * sum + (b - 48)) / 10 ≡ sum = omega arith in
    let last : 48 + (10 * sum + (b - 48)) % 10 ≡ b = omega arith in
    decimal_step (10 * sum + (b - 48)) (omega arith) ∙ rw (front, last)

-- Digits that go on after such a number make the number whose decimal they are.
digits_after : (sum : ℕ) (t : List ℕ) → 1 ≤ sum → decimal (number_from sum t) ≡ decimal sum ++ take (digit_count t) t
unfolding digit_count number_from
digits_after sum [] some = rw append-nil
digits_after sum (b ∷ t) some =
    by_test (is_digit b)
    (λ is.
    rw (digit_read sum b t is, digit_counted b t is)
    (digits_after (10 * sum + (b - 48)) t (omega arith) ∙ rw (one_more sum b some is, append_snoc (decimal sum) b (take (digit_count t) t))))
    (λ ends. rw (none_read sum b t ends, none_counted b t ends, append-nil))

-- Where no digit goes on, the number stays.
no_more : (sum : ℕ) (t : List ℕ) → digit_count t ≡ 0 → number_from sum t ≡ sum
unfolding number_from
no_more sum [] e = refl
no_more sum (b ∷ t) e =
    by_test (is_digit b)
    (λ is. let more : suc (digit_count t) ≡ 0 = sym (digit_counted b t is) ∙ e in absurd (omega arith))
    (none_read sum b t)

-- Digits in the shape are the decimal of the number that they name.
digits_back : (text : List ℕ) → well_written (digit_count text) text ≡ true → decimal (number_from 0 text) ≡ take (digit_count text) text
unfolding digit_count
digits_back [] well = held_and_failed false well refl
digits_back (b ∷ t) well =
    by_test (is_digit b)
    (λ is.
    let more : digit_count (b ∷ t) ≡ suc (digit_count t) = digit_counted b t is in
    let shape : well_written (suc (digit_count t)) (b ∷ t) ≡ true = rw more at well in
    rw more (begun is (both_true (leb 1 (suc (digit_count t))) _ shape).1))
    (λ ends. let none_at_all : well_written 0 (b ∷ t) ≡ true = rw (none_counted b t ends) at well in held_and_failed false none_at_all refl)
  where
    alone : is_digit b ≡ true → decimal (b - 48) ≡ b ∷ []
    alone is =
        let (low, high) = digit_range b is in
        let same : 48 + (b - 48) ≡ b = omega arith in
        decimal_small (b - 48) (omega arith) ∙ rw same

    begun : is_digit b ≡ true → (eqb (suc (digit_count t)) 1 || not (eqb b 48)) ≡ true → decimal (number_from 0 (b ∷ t)) ≡ b ∷ take (digit_count t) t
    begun is shape =
        let (low, high) = digit_range b is in
        let first : 10 * 0 + (b - 48) ≡ b - 48 = omega arith in
        let names : number_from 0 (b ∷ t) ≡ number_from (b - 48) t = digit_read 0 b t is ∙ ap (λ (n : ℕ). number_from n t) first in
        either (eqb (suc (digit_count t)) 1) (not (eqb b 48)) shape
        (λ one.
        let none_left : digit_count t ≡ 0 = let single : suc (digit_count t) ≡ 1 = eqb-true _ _ one in omega arith in
        rw (names, no_more (b - 48) t none_left, none_left) (alone is))
        (λ other.
        let some : 1 ≤ b - 48 = let no_zero : (b ≡ 48 → ⊥) = unlike b 48 other in omega arith in
        rw names (digits_after (b - 48) t some ∙ rw (alone is)))

-- A number that was read is in decimal in front of the text, with the right byte after it.
field_back : (stop : ℕ) (text : List ℕ) (n size : ℕ) → (stop ≡ 0 → ⊥) → read_field stop text ≡ found n size
    → (text ≡ field n stop ++ drop size text) × (size ≡ length (field n stop))
field_back stop text n size some e =
    by_test (well_written (digit_count text) text && eqb (get_or text (digit_count text) 0) stop)
    (λ t.
    let both = both_true (well_written (digit_count text) text) (eqb (get_or text (digit_count text) 0) stop) t in
    let g : found (number_from 0 text) (digit_count text + 1) ≡ found n size = rw t at e in
    let number : number_from 0 text ≡ n = cc in
    let taken : digit_count text + 1 ≡ size = cc in
    rw (← number, ← taken) (whole (digits_back text both.0) (eqb-true _ _ both.1)))
    (λ t. let g : none ≡ found n size = rw t at e in let z : ◌≡◌ {A = ℕ} 0 1 = cc in absurd (omega arith))
  where
    inside : get_or text (digit_count text) 0 ≡ stop → digit_count text < length text
    inside ends =
        by_test (ltb (digit_count text) (length text))
        (ltb-true _ _)
        (λ t. absurd (some (sym ends ∙ get_or-eq_default text 0 (ltb-false _ _ t))))

    whole : decimal (number_from 0 text) ≡ take (digit_count text) text → get_or text (digit_count text) 0 ≡ stop
        → (text ≡ field (number_from 0 text) stop ++ drop (digit_count text + 1) text) × (digit_count text + 1 ≡ length (field (number_from 0 text) stop))
    whole digits ends =
        let there : digit_count text < length text = inside ends in
        let rest : drop (digit_count text) text ≡ stop ∷ drop (digit_count text + 1) text =
        drop-cons text (digit_count text) 0 there ∙ rw (ends, add-one) in (
          sym (take-append-drop (digit_count text) text)
              ∙ rw (← digits, rest, append_snoc (decimal (number_from 0 text)) stop (drop (digit_count text + 1) text)),
          rw (length-append, digits, length-take-le (digit_count text) text (omega arith)),
        )

-- Three parts, each in front of what is left after those before it.
three_parts : (text u v w : List ℕ) (a b c : ℕ)
    → text ≡ u ++ drop a text
    → drop a text ≡ v ++ drop b (drop a text)
    → drop (a + b) text ≡ w ++ drop c (drop (a + b) text)
    → text ≡ u ++ v ++ w ++ drop (a + b + c) text
three_parts text u v w a b c first second third =
    first
    ∙ ap (λ (l : List ℕ). u ++ l)
    (second ∙ ap (λ (l : List ℕ). v ++ l) (drop-drop b a text ∙ third ∙ ap (λ (l : List ℕ). w ++ l) (drop-drop c (a + b) text)))
    ∙ sym (append_assoc u v (w ++ drop (a + b + c) text))
    ∙ sym (append_assoc (u ++ v) w (drop (a + b + c) text))

-- A line that was read is in front of the text as the writer makes it, and its event may be in a line.
pub record Made (text : List ℕ) (e : Event) (taken : ℕ) : Type 0 where
  pub front : text ≡ line_of e ++ drop taken text
  pub size : taken ≡ length (line_of e)
  pub fits : Fitting e

pub line_back : (text : List ℕ) (e : Event) (taken : ℕ) → read_line text ≡ line e taken → Made text e taken
unfolding read_line
line_back text e taken is = by_tick (read_field blank text) refl is
  where
    bad_is_none : bad ≡ line e taken → Made text e taken
    bad_is_none e = let z : ◌≡◌ {A = ℕ} 0 1 = cc in absurd (omega arith)

    made : (t q x a b c : ℕ) → read_field blank text ≡ found t a → read_field blank (drop a text) ≡ found q b
        → read_field line_feed (drop (a + b) text) ≡ found x c → q ≤ last_slot → x ≤ last_symbol → Made text (event t q x) (a + b + c)
    made t q x a b c tick slot symbol low_slot low_symbol =
        let (tick_front, tick_size) = field_back blank text t a (λ z. omega arith) tick in
        let (slot_front, slot_size) = field_back blank (drop a text) q b (λ z. omega arith) slot in
        let (symbol_front, symbol_size) = field_back line_feed (drop (a + b) text) x c (λ z. omega arith) symbol in
        record {
          front = three_parts text (field t blank) (field q blank) (field x line_feed) a b c tick_front slot_front symbol_front;
          size = omega (arith, length_three (field t blank) (field q blank) (field x line_feed));
          fits = record { slot = low_slot; symbol = low_symbol };
        }

    by_symbol : (t q a b : ℕ) → read_field blank text ≡ found t a → read_field blank (drop a text) ≡ found q b → q ≤ last_slot
        → (r : FieldReading) → read_field line_feed (drop (a + b) text) ≡ r → with_symbol t q (a + b) r ≡ line e taken → Made text e taken
    by_symbol t q a b tick slot low_slot none symbol is = bad_is_none is
    by_symbol t q a b tick slot low_slot (found x c) symbol is =
        by_test (ltb last_symbol x)
        (λ over. bad_is_none (rw over at is))
        (λ low.
        let g : line (event t q x) (a + b + c) ≡ line e taken = rw low at is in
        let same : event t q x ≡ e = cc in
        let size : a + b + c ≡ taken = cc in
        rw (← same, ← size) (made t q x a b c tick slot symbol low_slot (ltb-false _ _ low)))

    by_slot : (t a : ℕ) → read_field blank text ≡ found t a
        → (r : FieldReading) → read_field blank (drop a text) ≡ r → with_slot text t a r ≡ line e taken → Made text e taken
    by_slot t a tick none slot is = bad_is_none is
    by_slot t a tick (found q b) slot is =
        by_test (ltb last_slot q)
        (λ over. bad_is_none (rw over at is))
        (λ low. by_symbol t q a b tick slot (ltb-false _ _ low) (read_field line_feed (drop (a + b) text)) refl (rw low at is))

    by_tick : (r : FieldReading) → read_field blank text ≡ r → with_tick text r ≡ line e taken → Made text e taken
    by_tick none tick is = bad_is_none is
    by_tick (found t a) tick is = by_slot t a tick (read_field blank (drop a text)) refl is
