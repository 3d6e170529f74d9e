-- A load list as text that people can read, one event a line: what the writer makes of a list, and what the reader makes of any bytes.
-- (Document 02, "Three. A load sheet people can read")
use Rattle.std.specs.Prelude.{ℕ, zero, suc, ◌+◌, ◌*◌, ◌-◌, ◌/◌, ◌%◌, Bool, true, false, cond, not, ◌&&◌, ◌||◌, List}
use Rattle.std.specs.Prelude.{[], ◌∷◌, ◌++◌, length, get_or}
use Rattle.std.specs.Prelude.{drop, eqb, ltb, leb}
use Rattle.rules.specs.declared.Written.{Written}
use Rattle.rules.specs.Order.{Test, test, Verdict, clear, met, first_of}
use Rattle.rules.specs.declared.Event.{Event}
use Rattle.rules.specs.LoadList.{event, most_events, head_size, event_size, events_of, list_bytes}
use Rattle.rules.specs.Refusals.{bad_list, tick_test}

-- The bytes that stand between numbers: a blank, and a line feed at the end of a line.
abbrev pub blank : ℕ
blank = 32

abbrev pub line_feed : ℕ
line_feed = 10

-- The greatest slot and the greatest symbol that an event's bytes can name.
abbrev pub last_slot : ℕ
last_slot = 255

abbrev pub last_symbol : ℕ
last_symbol = 65535

-- ---- The text of a list

-- A number in decimal. The digit 0 is byte 48. A number below ten is one digit; any other is its tenth part in decimal and then its last
-- digit, so no zero comes first. Each step takes a digit off, so as many steps as the number itself are enough.
unfoldable pub digits_of : (steps number : ℕ) → List ℕ
digits_of zero n = (48 + n) ∷ []
digits_of (suc steps) n =
    let longer : List ℕ = digits_of steps (n / 10) ++ ((48 + n % 10) ∷ []) in
    cond (ltb n 10) ((48 + n) ∷ []) longer

abbrev pub decimal : ℕ → List ℕ
decimal n = digits_of n n

-- A number with the byte after it: a blank after the tick and after the slot, a line feed after the symbol.
abbrev pub field : (number stop : ℕ) → List ℕ
field n stop = decimal n ++ (stop ∷ [])

abbrev pub line_of : Event → List ℕ
line_of e = field e.tick blank ++ field e.slot blank ++ field e.symbol line_feed

-- One line to each event, and no line for no event.
unfoldable pub text_of : List Event → List ℕ
text_of [] = []
text_of (e ∷ l) = line_of e ++ text_of l

-- ---- Reading a text

-- How many digits are at the front of a text, and the number that they name after the digits that made `sum`.
abbrev pub is_digit : ℕ → Bool
is_digit b = leb 48 b && leb b 57

unfoldable pub digit_count : List ℕ → ℕ
digit_count [] = 0
digit_count (b ∷ t) = cond (is_digit b) (suc (digit_count t)) 0

unfoldable pub number_from : (sum : ℕ) → List ℕ → ℕ
number_from sum [] = sum
number_from sum (b ∷ t) = cond (is_digit b) (number_from (10 * sum + (b - 48)) t) sum

-- A number at the front of a text, and the bytes that it takes with the byte after it; or none in the shape.
pub data FieldReading : Type 0 where
  found : (number size : ℕ) → FieldReading
  none : FieldReading

-- It is in the shape with at least one digit, no zero before other digits, and the right byte after them. There is no sign, since
-- a sign is no digit.
abbrev pub well_written : (digits : ℕ) (text : List ℕ) → Bool
well_written digits text = leb 1 digits && (eqb digits 1 || not (eqb (get_or text 0 0) 48))

abbrev pub read_field : (stop : ℕ) (text : List ℕ) → FieldReading
read_field stop text =
    cond (well_written (digit_count text) text && eqb (get_or text (digit_count text) 0) stop)
    (found (number_from 0 text) (digit_count text + 1))
    none

-- A line at the front of a text: its event and the bytes that it takes with its line feed; or a bad line.
pub data LineReading : Type 0 where
  line : (e : Event) (size : ℕ) → LineReading
  bad : LineReading

-- It is tick, slot and symbol, the slot at most 255 and the symbol at most 65535. The tick may be any number: one over the limit is
-- refused with 9.
abbrev pub with_symbol : (tick slot size : ℕ) → FieldReading → LineReading
with_symbol t q size none = bad
with_symbol t q size (found x more) = cond (ltb last_symbol x) bad (line (event t q x) (size + more))

abbrev pub with_slot : (text : List ℕ) (tick size : ℕ) → FieldReading → LineReading
with_slot text t size none = bad
with_slot text t size (found q more) =
    cond (ltb last_slot q) bad (with_symbol t q (size + more) (read_field line_feed (drop (size + more) text)))

abbrev pub with_tick : (text : List ℕ) → FieldReading → LineReading
with_tick text none = bad
with_tick text (found t size) = with_slot text t size (read_field blank (drop size text))

unfoldable pub read_line : List ℕ → LineReading
read_line text = with_tick text (read_field blank text)

-- A text: the events of its lines, or the number of its first bad line, counted from 0.
pub data TextReading : Type 0 where
  lines : List Event → TextReading
  bad_line : ℕ → TextReading

abbrev pub add_line : Event → TextReading → TextReading
add_line e (lines l) = lines (e ∷ l)
add_line e (bad_line d) = bad_line (suc d)

abbrev pub first_line : LineReading → (List ℕ → TextReading) → List ℕ → TextReading
first_line bad later text = bad_line 0
first_line (line e size) later text = add_line e (later (drop size text))

-- `left` is how many lines may still come; one more is bad whatever is in it.
unfoldable pub read_lines : (left : ℕ) (text : List ℕ) → TextReading
read_lines zero [] = lines []
read_lines zero (b ∷ t) = bad_line 0
read_lines (suc left) [] = lines []
read_lines (suc left) (b ∷ t) = first_line (read_line (b ∷ t)) (λ later. read_lines left later) (b ∷ t)

abbrev pub lines_of : List ℕ → TextReading
lines_of text = read_lines most_events text

-- ---- The refusals, and what is written

-- 16. A line outside the shape, with a slot over 255 or a symbol over 65535, or one line too many; the detail is the first such line.
abbrev pub line_test : TextReading → Test
line_test (lines l) = test 16 0 false
line_test (bad_line d) = test 16 d true

-- The events of a text; of one that has a bad line there are none.
abbrev pub events_read : List ℕ → List Event
events_read text = events_in (lines_of text)
  where
    events_in : TextReading → List Event
    events_in (lines l) = l
    events_in (bad_line d) = []

-- 7, last of all: the lent room is shorter than the result.
abbrev pub room_test : (result room : ℕ) → Test
room_test result room = test 7 0 (ltb room result)

-- The order for the writer: 8, then 9 over the whole list, then 7. For the reader: 16 over the whole text, then 9, then 7.
unfoldable pub write_tests : (list : List ℕ) (room : ℕ) → List Test
write_tests list room =
    test 8 0 (bad_list list)
    ∷ tick_test (events_of list)
    ∷ room_test (length (text_of (events_of list))) room
    ∷ []

unfoldable pub read_tests : (text : List ℕ) (room : ℕ) → List Test
read_tests text room =
    line_test (lines_of text)
    ∷ tick_test (events_read text)
    ∷ room_test (head_size + event_size * length (events_read text)) room
    ∷ []

-- What comes of a call that writes: the bytes that it wrote at the front of the lent room, or a refusal, and then it wrote nothing.
pub data Writing : Type 0 where
  wrote : List ℕ → Writing
  refused_with : (number detail : ℕ) → Writing

abbrev pub writing : Verdict → List ℕ → Writing
writing clear bytes = wrote bytes
writing (met number detail) bytes = refused_with number detail

-- The writer makes the text of a list, the reader the bytes of the list of a text.
abbrev pub write_text : (list : List ℕ) (room : ℕ) → Writing
write_text list room = writing (first_of (write_tests list room)) (text_of (events_of list))

abbrev pub read_text : (text : List ℕ) (room : ℕ) → Writing
read_text text room = writing (first_of (read_tests text room)) (list_bytes (events_read text))

-- The answer is number 0, detail 0 and the size of what was written; or the refusal's number and detail, and size 0.
abbrev pub written_of : Writing → Written
written_of (wrote bytes) = record { number = 0; detail = 0; size = length bytes }
written_of (refused_with number detail) = record { number = number; detail = detail; size = 0 }

abbrev pub bytes_of : Writing → List ℕ
bytes_of (wrote bytes) = bytes
bytes_of (refused_with number detail) = []
