-- The tables for the writer and the reader of a text say what the tests of the definitions say; and what a call that wrote tells.
use Prim.Native.Nat.{ℕ, ◌+◌, ◌*◌, ◌≤◌}
use native.Mathlib.Omega.{arith}
use mathlib.Core.Path.{◌≡◌, refl, sym, ◌∙◌}
use mathlib.Core.Bool.{true, false}
use mathlib.Core.List.{List, [], ◌∷◌}
use lib.ListN.{length}
use lib.Dec.{ltb}
use borrow.Author.Tests.{ltb-true, ltb-false, lt-ltb, le-ltb}
use Rattle.rules.specs.Order.{Test, test, Verdict, clear, met, first_of}
use Rattle.rules.specs.declared.Event.{Event}
use Rattle.rules.specs.LoadList.{head_size, event_size, events_of, list_bytes}
use Rattle.rules.specs.Refusals.{bad_list, first_bad_tick, tick_test}
use Rattle.rules.specs.Text.{text_of, TextReading, lines, bad_line, lines_of, events_read, line_test, room_test, write_tests, read_tests, wrote}
use Rattle.rules.specs.Text.{refused_with, writing, write_text, read_text}
use Rattle.laws.proofs.Verdicts.{clear_of}
use Rattle.demands.specs.TextWords.{InShape, FirstBadLine, LineOutOfOrder, RoomShort, write_rows, read_rows}
use Rattle.demands.proofs.Stops.{held_and_failed}
use Rattle.demands.proofs.Tables.{Says, Agree, end, more}
use Rattle.demands.proofs.Words.{plainly, list_words, order_words, lower_words}
use Rattle.demands.proofs.TextReads.{shape_read, bad_read, read_shape, read_bad_line}

-- ---- The writer

pub write_words : (list : List ℕ) (room : ℕ) → Agree (write_rows list room) (write_tests list room)
unfolding write_tests
write_words list room =
    more (list_words list)
    (more (order_words (events_of list))
    (more (lower_words room (length (text_of (events_of list)))) end))

-- ---- The reader

-- The tests of the reader by what it found. After a bad line no other test matters; here each fails.
abbrev pub tests_after : TextReading → ℕ → List Test
tests_after (lines l) room = test 16 0 false ∷ tick_test l ∷ room_test (head_size + event_size * length l) room ∷ []
tests_after (bad_line d) room = line_test (bad_line d) ∷ test 9 0 false ∷ test 7 0 false ∷ []

pub tests_after_lem : (text : List ℕ) (room : ℕ) → first_of (read_tests text room) ≡ first_of (tests_after (lines_of text) room)
unfolding first_of read_tests
tests_after_lem text room = by_reading (lines_of text) refl
  where
    by_reading : (r : TextReading) → lines_of text ≡ r → first_of (read_tests text room) ≡ first_of (tests_after (lines_of text) room)
    by_reading (lines l) is = rw is
    by_reading (bad_line d) is = rw is

-- A test that fails says what a row says that never holds.
never : {holds : ℕ → Type 0} (c : ℕ) → ((d : ℕ) → holds d → ⊥) → Says holds c false
never c fails = record { found = λ d h. absurd (fails d h); so = λ e. held_and_failed false e refl }

module _ (text : List ℕ) where
  -- Of a text that reads as some events: it has no bad line,
  module _ (l : List Event) (is : lines_of text ≡ lines l) where
    no_bad_line : Says (FirstBadLine text) 0 false
    no_bad_line =
        never 0
        (λ d b.
        let read : bad_line d ≡ lines l = sym (bad_read text d b) ∙ is in let z : ◌≡◌ {A = ℕ} 0 1 = cc in omega arith)

    -- these are its events,
    its_events : (events : List Event) → InShape text events → events ≡ l
    its_events events shape = let read : lines events ≡ lines l = sym (shape_read text events shape) ∙ is in cc

    -- and the tests of rows 9 and 7 speak of them.
    order_after : Says (LineOutOfOrder text) (first_bad_tick 0 l) (ltb (first_bad_tick 0 l) (length l))
    order_after =
        record {
          found = λ d h. let (events, shape, first) = h in (order_words l).found d (rw (its_events events shape) at first);
          so = λ e. (l, read_shape text l is, (order_words l).so e);
        }

    room_after : (room : ℕ) → Says (λ d. (d ≡ 0) × RoomShort text room) 0 (ltb room (head_size + event_size * length l))
    room_after room =
        plainly (ltb room (head_size + event_size * length l))
        (λ h.
        let (events, shape, short) = h in held_and_failed _ (lt-ltb room _ (rw (its_events events shape) at short)))
        (λ e. (l, read_shape text l is, ltb-true room _ e))

  -- A text with a bad line has that one,
  module _ (d : ℕ) (is : lines_of text ≡ bad_line d) where
    bad_line_lem : Says (FirstBadLine text) d true
    bad_line_lem =
        record {
          found = λ c b. let read : bad_line c ≡ bad_line d = sym (bad_read text c b) ∙ is in (refl, cc);
          so = λ e. read_bad_line text d is;
        }

    -- and no events.
    no_events : (events : List Event) → InShape text events → ⊥
    no_events events shape =
        let read : lines events ≡ bad_line d = sym (shape_read text events shape) ∙ is in let z : ◌≡◌ {A = ℕ} 0 1 = cc in omega arith

    no_order : Says (LineOutOfOrder text) 0 false
    no_order = never 0 (λ c h. no_events h.0 h.1)

    no_room : (room : ℕ) → Says (λ c. (c ≡ 0) × RoomShort text room) 0 false
    no_room room = never 0 (λ c h. no_events h.1.0 h.1.1)

  pub read_words : (room : ℕ) → Agree (read_rows text room) (tests_after (lines_of text) room)
  read_words room = by_reading (lines_of text) refl
    where
      by_reading : (r : TextReading) → lines_of text ≡ r → Agree (read_rows text room) (tests_after r room)
      by_reading (lines l) is = more (no_bad_line l is) (more (order_after l is) (more (room_after l is room) end))
      by_reading (bad_line d) is = more (bad_line_lem d is) (more (no_order d is) (more (no_room d is room) end))

-- ---- What was written

-- A call that wrote met no test, and wrote what it makes;
pub wrote_so : (v : Verdict) (bytes out : List ℕ) → writing v bytes ≡ wrote out → (v ≡ clear) × (bytes ≡ out)
wrote_so clear bytes out e = (refl, cc)
wrote_so (met n d) bytes out e = let z : ◌≡◌ {A = ℕ} 0 1 = cc in absurd (omega arith)

-- one that is refused met a test.
pub refused_so : (v : Verdict) (bytes : List ℕ) (n d : ℕ) → writing v bytes ≡ refused_with n d → v ≡ met n d
refused_so clear bytes n d e = let z : ◌≡◌ {A = ℕ} 0 1 = cc in absurd (omega arith)
refused_so (met m c) bytes n d e = cc

-- What is known of a list that was written as a text.
pub record WroteText (list : List ℕ) (room : ℕ) (text : List ℕ) : Type 0 where
  pub listed : bad_list list ≡ false
  pub ordered : ltb (first_bad_tick 0 (events_of list)) (length (events_of list)) ≡ false
  pub enough : length (text_of (events_of list)) ≤ room
  pub made : text_of (events_of list) ≡ text

pub wrote_text : (list : List ℕ) (room : ℕ) (text : List ℕ) → write_text list room ≡ wrote text → WroteText list room text
unfolding write_tests
wrote_text list room text e =
    let (past, made) = wrote_so (first_of (write_tests list room)) (text_of (events_of list)) text e in
    let fails = clear_of (write_tests list room) past in
    record { listed = fails 8; ordered = fails 9; enough = ltb-false _ _ (fails 7); made = made }

-- The other way round: such a list is written.
pub text_wrote : (list : List ℕ) (l : List Event) (room : ℕ) → bad_list list ≡ false → events_of list ≡ l
    → ltb (first_bad_tick 0 l) (length l) ≡ false → length (text_of l) ≤ room → write_text list room ≡ wrote (text_of l)
unfolding first_of write_tests
text_wrote list l room listed is ordered enough = rw (listed, is, ordered, le-ltb room (length (text_of l)) enough)

-- What is known of a text that was read, and that such a text is read.
pub record ReadList (text : List ℕ) (room : ℕ) (list : List ℕ) : Type 0 where
  pub events : List Event
  pub found : lines_of text ≡ lines events
  pub ordered : ltb (first_bad_tick 0 events) (length events) ≡ false
  pub enough : head_size + event_size * length events ≤ room
  pub made : list_bytes events ≡ list

pub read_list_lem : (text : List ℕ) (room : ℕ) (list : List ℕ) → read_text text room ≡ wrote list → ReadList text room list
read_list_lem text room list e =
    let (past, made) = wrote_so (first_of (read_tests text room)) (list_bytes (events_read text)) list e in
    by_reading (lines_of text) refl (sym (tests_after_lem text room) ∙ past) made
  where
    by_reading : (r : TextReading) → lines_of text ≡ r → first_of (tests_after (lines_of text) room) ≡ clear → list_bytes (events_read text) ≡ list
        → ReadList text room list
    by_reading (lines l) is past made =
        let past' : first_of (tests_after (lines l) room) ≡ clear = rw is at past in
        let fails = clear_of (tests_after (lines l) room) past' in
        record { events = l; found = is; ordered = fails 9; enough = ltb-false _ _ (fails 7); made = rw is at made }
    by_reading (bad_line d) is past made =
        let past' : first_of (tests_after (bad_line d) room) ≡ clear = rw is at past in
        held_and_failed true refl (clear_of (tests_after (bad_line d) room) past' 16)

pub list_read : (text : List ℕ) (l : List Event) (room : ℕ) → lines_of text ≡ lines l
    → ltb (first_bad_tick 0 l) (length l) ≡ false → head_size + event_size * length l ≤ room → read_text text room ≡ wrote (list_bytes l)
unfolding first_of read_tests
list_read text l room is ordered enough = rw (is, ordered, le-ltb room (head_size + event_size * length l) enough)
