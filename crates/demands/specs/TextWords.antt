-- A load list as text: the tables of refusals in words, for the writer and for the reader. To be held beside "Three" of document 02.
-- A text is spoken of as the writer makes it, as the lines of some events; nothing here reads one.
use Rattle.std.specs.Prelude.{ℕ, ◌+◌, ◌*◌, ◌<◌, ◌≤◌, ◌≡◌, List, [], ◌∷◌, ◌++◌, ◌⊎◌, length}
use Rattle.rules.specs.declared.Event.{Event}
use Rattle.rules.specs.LoadList.{most_events, head_size, event_size, events_of}
use Rattle.rules.specs.Text.{last_slot, last_symbol, line_of, text_of}
use Rattle.demands.specs.Fair.{event_slot, event_symbol, nth_event}
use Rattle.demands.specs.Table.{Row, row, plain, ListWrong, FirstOutOfOrder}

-- An event that a line may have: its slot is at most 255 and its symbol at most 65535. Its tick may be any number.
pub record Fitting (e : Event) : Type 0 where
  pub slot : event_slot e ≤ last_slot
  pub symbol : event_symbol e ≤ last_symbol

-- Each of some events is one.
abbrev pub AllFit : List Event → Type 0
AllFit events = (i : ℕ) → i < length events → Fitting (nth_event events i)

-- A text in the shape is the lines of some events that may be in lines, at most 4,096 of them.
pub record InShape (text : List ℕ) (events : List Event) : Type 0 where
  pub written : text ≡ text_of events
  pub fit : AllFit events
  pub few : length events ≤ most_events

-- A text that does not begin with the line of an event.
abbrev pub NoLine : List ℕ → Type 0
NoLine text = (e : Event) (later : List ℕ) → Fitting e → text ≡ line_of e ++ later → ⊥

-- 16. Line d, counted from 0, is the first bad line of a text.
--     front    the text is the lines of d events, and then a rest
--     fit      these are events that a line may have
--     few      they are not over 4,096
--     more     the rest is not empty
--     wrong    and either 4,096 lines are before it, or it does not begin with the line of an event
pub record FirstBadLine (text : List ℕ) (d : ℕ) : Type 0 where
  pub events : List Event
  pub rest : List ℕ
  pub front : text ≡ text_of events ++ rest
  pub count : length events ≡ d
  pub fit : AllFit events
  pub few : d ≤ most_events
  pub more : rest ≡ [] → ⊥
  pub wrong : (d ≡ most_events) ⊎ NoLine rest

-- 9. The text is in the shape, and of its events this is the first one out of order.
abbrev pub LineOutOfOrder : List ℕ → ℕ → Type 0
LineOutOfOrder text d = (events : List Event) × InShape text events × FirstOutOfOrder events d

-- 7. The text is in the shape, and there is less room than the head and the events of its list take.
abbrev pub RoomShort : List ℕ → ℕ → Type 0
RoomShort text room = (events : List Event) × InShape text events × (room < head_size + event_size * length events)

-- The order for the writer: 8, then 9, then 7, where there is less room than the text of the list takes.
abbrev pub write_rows : (list : List ℕ) (room : ℕ) → List Row
write_rows list room =
    plain 8 (ListWrong list)
    ∷ row 9 (FirstOutOfOrder (events_of list))
    ∷ plain 7 (room < length (text_of (events_of list)))
    ∷ []

-- The order for the reader: 16, then 9, then 7.
abbrev pub read_rows : (text : List ℕ) (room : ℕ) → List Row
read_rows text room =
    row 16 (FirstBadLine text)
    ∷ row 9 (LineOutOfOrder text)
    ∷ plain 7 (RoomShort text room)
    ∷ []
