-- What the parts of the reader ask for and ensure: the lines of a text noted in a row, and the list in that row handed out.
use Rattle.std.specs.Prelude.{ℕ, ◌+◌, ◌*◌, ◌≤◌, ◌≡◌, List, [], ◌∷◌, map, length, take, Result, Ok, Err}
use Rattle.rules.specs.declared.refusal.Refusal.{Refusal}
use Rattle.rules.specs.declared.refusal.Refusal.TheVariants.{LineForm}
use Rattle.rules.specs.Order.{first_of}
use Rattle.rules.specs.declared.Event.{Event}
use Rattle.rules.specs.LoadList.{most_events, head_size, event_size, list_bytes}
use Rattle.rules.specs.Refusals.{tick_test, lent}
use Rattle.rules.specs.Text.{TextReading, lines, bad_line, lines_of, room_test, Writing, writing, written_of, bytes_of}
use Rattle.text.specs.Found.{kept_event, told}

-- The bytes of the longest list.
abbrev pub most_list : ℕ
most_list = head_size + event_size * most_events

abbrev pub lines_found : TextReading → Result ℕ Refusal
lines_found (lines l) = Ok (length l)
lines_found (bad_line d) = Err (LineForm d)

-- What going through a text finds. Where it has no bad line, the row holds the list of its events, each with its tick as it was kept.
pub record NotedLines (text : List ℕ) (r : Result ℕ Refusal) (row row' : List ℕ) : Type 0 where
  pub reads : r ≡ lines_found (lines_of text)
  pub few : (l : List Event) → lines_of text ≡ lines l → length l ≤ most_events
  pub holds : (l : List Event) → lines_of text ≡ lines l → row' ≡ lent (list_bytes (map kept_event l)) row

-- What comes of events that were read, with this much room: 9 and 7 are left to be tested.
abbrev pub handed : List Event → ℕ → Writing
handed events room =
    writing
    (first_of (tick_test events ∷ room_test (head_size + event_size * length events) room ∷ []))
    (list_bytes events)

-- A row that is long enough for a list of this many events.
pub record HasList (count : ℕ) (row : List ℕ) : Type 0 where
  pub few : count ≤ most_events
  pub there : head_size + event_size * count ≤ length row

-- If the row holds the list of some events, each with its tick as it was kept, this is what comes of them.
pub record HandedOut (count : ℕ) (row : List ℕ) (r : Result ℕ Refusal) (room room' : List ℕ) (events : List Event) : Type 0 where
  pub answers : told r ≡ written_of (handed events (length room))
  pub writes : room' ≡ lent (bytes_of (handed events (length room))) room

abbrev pub HandsOut : ℕ → List ℕ → Result ℕ Refusal → List ℕ → List ℕ → Type 0
HandsOut count row r room room' =
    (events : List Event)
    → length events ≡ count
    → take (head_size + event_size * count) row ≡ list_bytes (map kept_event events)
    → HandedOut count row r room room' events
