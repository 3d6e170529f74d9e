-- What the code finds at a place of a text: the digits, a number with the byte after it, and a line, each with the place after it.
use Rattle.std.specs.Prelude.{ℕ, Option, Some, None, Result, Ok, Err, ◌+◌, ◌<◌, ◌≤◌, min, ◌≡◌, true, false, List, length, get_or}
use Rattle.rules.specs.declared.Written.{Written}
use Rattle.rules.specs.declared.refusal.Refusal.{Refusal}
use Rattle.rules.specs.declared.Event.{Event}
use Rattle.rules.specs.Refusing.{refusal_number, refusal_detail}
use Rattle.rules.specs.LoadList.{event, last_tick}
use Rattle.rules.specs.Text.{FieldReading, found, none, LineReading, line, bad, is_digit, digit_count, number_from, refused_with, written_of}
use Rattle.text.specs.declared.line.Digits.{Digits}
use Rattle.text.specs.declared.line.Field.{Field}
use Rattle.text.specs.declared.line.Line.{Line}

-- A number as the code keeps it: one over the last tick is kept as the first one over it.
abbrev pub kept : ℕ → ℕ
kept n = min n (last_tick + 1)

-- An event with its tick as the code keeps it.
abbrev pub kept_event : Event → Event
kept_event e = event (kept e.tick) e.slot e.symbol

-- A number that was kept, and a byte that is a digit.
pub record WithDigit (number byte : ℕ) : Type 0 where
  pub small : number ≤ last_tick + 1
  pub low : 48 ≤ byte
  pub high : byte ≤ 57

-- The digits at the front of what is left of a text from a place on, after those that made `sum`.
pub record DigitsFound (sum : ℕ) (text : List ℕ) (from : ℕ) (r : Digits) : Type 0 where
  pub ends : r.end ≡ from + digit_count text
  pub names : r.number ≡ kept (number_from sum text)

-- A byte of a text that is a digit.
pub record FirstDigit (text : List ℕ) (from first : ℕ) : Type 0 where
  pub inside : from < length text
  pub is : first ≡ get_or text from 0
  pub digit : is_digit first ≡ true

-- The number that begins with the first byte there: zero is a number of one digit, and any other has all the digits.
pub record NumberFound (text : List ℕ) (from : ℕ) (r : Digits) : Type 0 where
  pub zero : get_or text 0 0 ≡ 48 → r ≡ record { end = from + 1; number = 0 }
  pub other : (get_or text 0 0 ≡ 48 → ⊥) → DigitsFound 0 text from r

-- A byte that ends a number: no digit, and not what is read past the end.
pub record Stop (byte : ℕ) : Type 0 where
  pub some : 0 < byte
  pub no_digit : is_digit byte ≡ false

abbrev pub field_found : ℕ → FieldReading → Option Field
field_found from (found n size) = Some (record { number = kept n; after = from + size })
field_found from none = None

abbrev pub line_found : ℕ → LineReading → Option Line
line_found from (line e size) = Some (record { event = kept_event e; after = from + size })
line_found from bad = None

-- The answer to a call that wrote this many bytes, and to one that wrote or was refused.
abbrev pub wrote_size : ℕ → Written
wrote_size size = record { number = 0; detail = 0; size = size }

abbrev pub told : Result ℕ Refusal → Written
told (Ok size) = wrote_size size
told (Err refusal) = written_of (refused_with (refusal_number refusal) (refusal_detail refusal))
