-- The orders of the writer and of the reader as the code meets them, and what comes of each.
use Prim.Native.Nat.{ℕ, suc, ◌+◌, ◌*◌, ◌<◌, ◌≤◌}
use native.Mathlib.Omega.{arith}
use mathlib.Core.Path.{◌≡◌, refl, sym, ap, ◌∙◌}
use mathlib.Core.Bool.{true, false}
use mathlib.Core.List.{List, [], ◌∷◌, ◌++◌, map, append-nil}
use lib.ListN.{length, take, drop, length-map}
use lib.Seq.{length-take-le}
use lib.Dec.{ltb}
use borrow.Author.Tests.{lt-ltb, le-ltb, ltb-true, ltb-false}
use Rattle.std.specs.Prelude.{Option, Some, None, Result, Ok, Err}
use Rattle.rules.specs.declared.Written.{Written}
use Rattle.rules.specs.Order.{Test, Verdict, clear, met, first_of}
use Rattle.rules.specs.declared.Event.{Event}
use Rattle.rules.specs.LoadList.{last_tick, head_size, event_size, events_in, events_bytes, events_of, list_bytes}
use Rattle.rules.specs.Refusals.{read_list, first_bad_tick, tick_test, lent}
use Rattle.rules.specs.Text.{TextReading, lines, bad_line, lines_of, text_of, room_test, write_tests, read_tests, Writing, refused_with}
use Rattle.rules.specs.Text.{writing, read_text, write_text, written_of, bytes_of}
use Rattle.laws.proofs.Cases.{by_test}
use Rattle.laws.proofs.Verdicts.{Gives, stop, step, end, gives}
use Rattle.laws.proofs.RoundTrip.{events_back}
use Rattle.laws.proofs.Copies.{copied_lent}
use Rattle.sheet.specs.Ticks.{in_order}
use Rattle.sheet.proofs.Lists.{same_events, at_list, past_list, at_order, past_order, ticks_hold, ticks_broken}
use Rattle.rules.specs.declared.refusal.Refusal.{Refusal}
use Rattle.rules.specs.declared.refusal.Refusal.TheVariants.{LineForm, ShortRoom}
use Rattle.text.specs.Found.{kept, kept_event, wrote_size, told}
use Rattle.text.specs.Lists.{lines_found, NotedLines, handed, HandedOut}

-- What a call that writes promises of its answer and of the room.
abbrev Promised : Writing → Written → List ℕ → List ℕ → Type 0
Promised w r room room' = (r ≡ written_of w) × (room' ≡ lent (bytes_of w) room)

module _ (r : Written) (room : List ℕ) (tests : List Test) (bytes : List ℕ) where
  -- One that is refused writes nothing.
  pub refuses : (n d : ℕ) → r ≡ written_of (refused_with n d) → Gives tests (met n d) → Promised (writing (first_of tests) bytes) r room room
  refuses n d answers g = rw (gives tests (met n d) g) (answers, refl)

  -- Past all tests it writes its bytes.
  pub writes : (room' : List ℕ) (size : ℕ) → r ≡ wrote_size size → size ≡ length bytes → room' ≡ lent bytes room → Gives tests clear
      → Promised (writing (first_of tests) bytes) r room room'
  writes room' size answers is left g = rw (gives tests clear g) (answers ∙ ap wrote_size is, left)

-- ---- The writer

module _ (list : List ℕ) (head : Option ℕ) (room : ℕ) where
  pub no_list : head ≡ read_list list → head ≡ None → Gives (write_tests list room) (met 8 0)
  unfolding write_tests
  no_list is none = at_list list head is none

  module _ (count first : ℕ) (is : head ≡ read_list list) (read : head ≡ Some count)
      (found : first ≡ first_bad_tick 0 (events_in count (drop head_size list))) where
    pub ticks_wrong : first < count → Gives (write_tests list room) (met 9 first)
    unfolding write_tests
    ticks_wrong inside = past_list list head count is read (at_order list head count first is read found inside)

    module _ (right : count ≤ first) (size : ℕ) (counted : size ≡ length (text_of (events_in count (drop head_size list)))) where
      pub same_size : size ≡ length (text_of (events_of list))
      same_size = counted ∙ ap (λ (l : List Event). length (text_of l)) (sym (same_events list head count is read))

      pub text_long : room < size → Gives (write_tests list room) (met 7 0)
      unfolding write_tests
      text_long short =
          past_list list head count is read
          (past_order list head count first is read found right (stop true (sym (lt-ltb room _ (rw (← same_size) short))) refl))

      pub text_fits : size ≤ room → Gives (write_tests list room) clear
      unfolding write_tests
      text_fits fits =
          past_list list head count is read
          (past_order list head count first is read found right (step false (sym (le-ltb room _ (rw (← same_size) fits))) refl end))

-- What comes of a list that was read, as the code answers it.
module _ (list bytes : List ℕ) (count : ℕ) (room : List ℕ) (is : read_list list ≡ Some count) (same : bytes ≡ list) where
  abbrev events : List Event
  events = events_in count (drop head_size list)

  pub writer_out_of_order : (why : Refusal) → Err why ≡ in_order count bytes → Promised (write_text list (length room)) (told (Err why)) room room
  writer_out_of_order why e =
      let broken = ticks_broken count list why (rw same at e) in
      refuses (told (Err why)) room (write_tests list (length room)) (text_of (events_of list)) 9 (first_bad_tick 0 events)
      (ap (λ (r : Refusal). told (Err r)) broken.1)
      (ticks_wrong list (Some count) (length room) count (first_bad_tick 0 events) (sym is) refl refl broken.0)

  module _ (done : Unit {0}) (right : Ok done ≡ in_order count bytes) (size : ℕ)
      (counted : size ≡ length (text_of (events_in count (drop head_size bytes)))) where
    holds : count ≤ first_bad_tick 0 events
    holds = ticks_hold count list done (rw same at right)

    counts : size ≡ length (text_of events)
    counts = rw same at counted

    pub writer_short : length room < size → Promised (write_text list (length room)) (told (Err ShortRoom)) room room
    writer_short short =
        refuses (told (Err ShortRoom)) room (write_tests list (length room)) (text_of (events_of list)) 7 0 refl
        (text_long list (Some count) (length room) count (first_bad_tick 0 events) (sym is) refl refl holds size counts short)

    pub writer_done : (room' : List ℕ) → size ≤ length room → room' ≡ lent (text_of (events_in count (drop head_size bytes))) room
        → Promised (write_text list (length room)) (told (Ok size)) room room'
    writer_done room' fits put =
        writes (told (Ok size)) room (write_tests list (length room)) (text_of (events_of list)) room' size refl
        (same_size list (Some count) (length room) count (first_bad_tick 0 events) (sym is) refl refl holds size counts)
        ((rw same at put) ∙ ap (λ (l : List Event). lent (text_of l) room) (sym (same_events list (Some count) count (sym is) refl)))
        (text_fits list (Some count) (length room) count (first_bad_tick 0 events) (sym is) refl refl holds size counts fits)

-- ---- The reader

-- A tick over the limit stays over it, so the ticks as they are kept are out of order where those of the text are.
kept_order : (least : ℕ) (l : List Event) → first_bad_tick least (map kept_event l) ≡ first_bad_tick least l
unfolding first_bad_tick
kept_order least [] = refl
kept_order least (this ∷ l) =
    by_test (ltb last_tick this.tick)
    (λ over. let past : last_tick < this.tick = ltb-true last_tick this.tick over in rw (over, lt-ltb last_tick (kept this.tick) (omega arith)))
    (λ within.
    let low : this.tick ≤ last_tick = ltb-false last_tick this.tick within in
    let same : kept this.tick ≡ this.tick = omega arith in
    rw (same, kept_order (this.tick + 1) l))

-- Where they are in order every tick is kept as it is.
all_kept : (least : ℕ) (l : List Event) → length l ≤ first_bad_tick least l → map kept_event l ≡ l
unfolding first_bad_tick
all_kept least [] e = refl
all_kept least (this ∷ l) e =
    by_test (ltb last_tick this.tick)
    (λ over. let none : suc (length l) ≤ 0 = rw over at e in absurd (omega arith))
    (λ within.
    let low : this.tick ≤ last_tick = ltb-false last_tick this.tick within in
    let same : kept this.tick ≡ this.tick = omega arith in
    by_test (ltb this.tick least)
    (λ under. let none : suc (length l) ≤ 0 = rw (within, under) at e in absurd (omega arith))
    (λ above.
    let more : suc (length l) ≤ suc (first_bad_tick (this.tick + 1) l) = rw (within, above) at e in
    rw (same, all_kept (this.tick + 1) l (omega arith))))

-- The list in a row has these events.
module _ (events : List Event) (count : ℕ) (row : List ℕ) (many : length events ≡ count)
    (holds : take (head_size + event_size * count) row ≡ list_bytes (map kept_event events)) where
  pub first_is : (first size : ℕ) → size ≡ head_size + event_size * count
      → first ≡ first_bad_tick 0 (events_in count (drop head_size (take size row))) → first ≡ first_bad_tick 0 events
  first_is first size is found =
      let list : take size row ≡ list_bytes (map kept_event events) = rw is holds in
      let as_many : count ≡ length (map kept_event events) = sym many ∙ sym (length-map events kept_event) in
      found
      ∙ ap (λ (b : List ℕ). first_bad_tick 0 (events_in count (drop head_size b))) list
      ∙ ap (λ (n : ℕ). first_bad_tick 0 (events_in n (events_bytes (map kept_event events)))) as_many
      ∙ ap (first_bad_tick 0) (rw append-nil at (events_back (map kept_event events) []))
      ∙ kept_order 0 events

  module _ (first : ℕ) (is : first ≡ first_bad_tick 0 events) (r : Result ℕ Refusal) (room : List ℕ) where
    abbrev tests : List Test
    tests = tick_test events ∷ room_test (head_size + event_size * length events) (length room) ∷ []

    handed_out : (room' : List ℕ) → Promised (handed events (length room)) (told r) room room' → HandedOut count row r room room' events
    handed_out room' (answers, left) = record { answers = answers; writes = left }

    pub out_of_order : first < count → told r ≡ written_of (refused_with 9 first) → HandedOut count row r room room events
    out_of_order inside answers =
        handed_out room
        (refuses (told r) room tests (list_bytes events) 9 first answers
        (rw is (stop true (sym (lt-ltb (first_bad_tick 0 events) (length events) (omega arith))) refl)))

    module _ (right : count ≤ first) where
      past_ticks : {v : Verdict} → Gives (room_test (head_size + event_size * length events) (length room) ∷ []) v → Gives tests v
      past_ticks g = step false (sym (le-ltb (first_bad_tick 0 events) (length events) (omega arith))) refl g

      pub room_short : length room < head_size + event_size * count → told r ≡ written_of (refused_with 7 0) → HandedOut count row r room room events
      room_short short answers =
          handed_out room
          (refuses (told r) room tests (list_bytes events) 7 0 answers (past_ticks (stop true (sym (lt-ltb (length room) _ (rw many short))) refl)))

      pub all_handed : (size : ℕ) (room' : List ℕ) → size ≡ head_size + event_size * count → size ≤ length room → size ≤ length row
          → told r ≡ wrote_size size → room' ≡ take size row ++ drop size room → HandedOut count row r room room' events
      all_handed size room' whole fits there answers left =
          let list : take size row ≡ list_bytes events =
          rw whole (holds ∙ ap list_bytes (all_kept 0 events (omega arith))) in
          handed_out room'
          (writes (told r) room tests (list_bytes events) room' size answers (sym (length-take-le size row there) ∙ ap length list)
          (left ∙ copied_lent row room (list_bytes events) size there list)
          (past_ticks (step false (sym (le-ltb (length room) _ (rw many (rw whole at fits)))) refl end)))

-- What was noted is what the definition reads.
module _ (text row row' : List ℕ) (r : Result ℕ Refusal) (noted : NotedLines text r row row') where
  pub bad_line_lem : (why : Refusal) → r ≡ Err why → (d : ℕ) × (lines_of text ≡ bad_line d) × (why ≡ LineForm d)
  bad_line_lem why is = by_reading (lines_of text) (sym is ∙ noted.reads)
    where
      by_reading : (t : TextReading) → Err why ≡ lines_found t → (d : ℕ) × (t ≡ bad_line d) × (why ≡ LineForm d)
      by_reading (bad_line d) e = (d, refl, cc)
      by_reading (lines l) e = let z : ◌≡◌ {A = ℕ} 0 1 = cc in absurd (omega arith)

  pub all_lines : (count : ℕ) → r ≡ Ok count → (l : List Event) × (lines_of text ≡ lines l) × (length l ≡ count)
  all_lines count is = by_reading (lines_of text) (sym is ∙ noted.reads)
    where
      by_reading : (t : TextReading) → Ok count ≡ lines_found t → (l : List Event) × (t ≡ lines l) × (length l ≡ count)
      by_reading (bad_line c) e = let z : ◌≡◌ {A = ℕ} 0 1 = cc in absurd (omega arith)
      by_reading (lines l) e = (l, refl, cc)

pub reader_refuses : (text : List ℕ) (d : ℕ) (answer : Result ℕ Refusal) (room : List ℕ) → lines_of text ≡ bad_line d
    → told answer ≡ written_of (refused_with 16 d)
    → Promised (read_text text (length room)) (told answer) room room
unfolding first_of read_tests
reader_refuses text d answer room is answers = rw is (answers, refl)

pub reader_hands_out : (text : List ℕ) (l : List Event) (count : ℕ) (row : List ℕ) (answer : Result ℕ Refusal) (room room' : List ℕ)
    → lines_of text ≡ lines l → HandedOut count row answer room room' l → Promised (read_text text (length room)) (told answer) room room'
unfolding first_of read_tests
reader_hands_out text l count row answer room room' is out = rw is (out.answers, out.writes)
