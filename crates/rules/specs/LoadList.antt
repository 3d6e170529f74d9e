-- The load list as bytes: its head, its events, and the list written out. (Document 01, "The job, byte for byte", second half)
use Rattle.std.specs.Prelude.{ℕ, zero, suc, ◌+◌, ◌*◌, Bool, cond, List, [], ◌∷◌, ◌++◌, length, get_or, take, drop, ltb, Option, Some, None}
use Rattle.rules.specs.declared.Event.{Event}
use Rattle.rules.specs.Basics.{number16, number32, bytes16, bytes32}

-- An event: at this tick this slot begins to load this symbol.
abbrev pub event : ℕ → ℕ → ℕ → Event
event tick slot symbol = record { tick = tick; slot = slot; symbol = symbol }

-- The limits: at most 4,096 events, and no tick above 8,388,607.
abbrev pub most_events : ℕ
most_events = 4096

abbrev pub last_tick : ℕ
last_tick = 8388607

-- The head is the length (4 bytes), the version (1) and the number of events (2); each event takes seven bytes.
abbrev pub head_size : ℕ
head_size = 7

abbrev pub event_size : ℕ
event_size = 7

abbrev pub count_of : List ℕ → ℕ
count_of list = number16 list 5

-- An event's bytes are its tick (4), its slot (1) and its symbol (2), read from the part of the list that begins at it.
abbrev pub tick_in : List ℕ → ℕ
tick_in part = number32 part 0

abbrev pub slot_in : List ℕ → ℕ
slot_in part = get_or part 4 0

abbrev pub symbol_in : List ℕ → ℕ
symbol_in part = number16 part 5

abbrev pub event_in : List ℕ → Event
event_in part = event (tick_in part) (slot_in part) (symbol_in part)

abbrev pub read_event : List ℕ → Option Event
read_event part =
    cond (ltb (length part) event_size) None (Some (event (tick_in part) (slot_in part) (symbol_in part)))

-- The first m events, one after the other, from the part that begins at the first.
unfoldable pub events_in : ℕ → List ℕ → List Event
events_in zero part = []
events_in (suc m) part = event_in part ∷ events_in m (drop event_size part)

abbrev pub events_of : List ℕ → List Event
events_of list = events_in (count_of list) (drop head_size list)

-- The same the other way: the bytes of an event, of a head for m events, and of a whole list.
abbrev pub event_bytes : Event → List ℕ
event_bytes e = bytes32 e.tick ++ (e.slot ∷ bytes16 e.symbol)

abbrev pub head_bytes : ℕ → List ℕ
head_bytes m = bytes32 (3 + event_size * m) ++ (1 ∷ bytes16 m)

unfoldable pub events_bytes : List Event → List ℕ
events_bytes [] = []
events_bytes (e ∷ l) = event_bytes e ++ events_bytes l

abbrev pub list_bytes : List Event → List ℕ
list_bytes l = head_bytes (length l) ++ events_bytes l

-- What lent room holds once bytes were put at a place of it: they are there, and every other byte is as it was. Where they do not
-- fit, nothing is put.
abbrev pub too_short : ℕ → ℕ → List ℕ → Bool
too_short at size room = ltb (length room) (at + size)

abbrev pub put : ℕ → List ℕ → List ℕ → List ℕ
put at new room =
    cond (too_short at (length new) room) room (take at room ++ new ++ drop (at + length new) room)

-- The head is at the front of a list, and event i comes after the head and the i events before it.
abbrev pub event_at : ℕ → ℕ
event_at i = head_size + event_size * i

abbrev pub put_head : ℕ → List ℕ → List ℕ
put_head m room = put 0 (head_bytes m) room

abbrev pub put_event : ℕ → Event → List ℕ → List ℕ
put_event i e room = put (event_at i) (event_bytes e) room

-- The number that answers a put: 0, or 7 where the lent room is too short.
abbrev pub put_number : ℕ → ℕ → List ℕ → ℕ
put_number at size room = cond (too_short at size room) 7 0
