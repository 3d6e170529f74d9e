-- What holds of a load list as text, for all bytes and lengths: both round trips, and a full answer or the one refusal that the table gives.
-- To be held beside specs/TextWords.antt and "Three" of document 02.
use Prim.Native.Nat.{ℕ, ◌+◌, ◌*◌, ◌≤◌}
use native.Mathlib.Omega.{arith}
use mathlib.Core.Path.{◌≡◌, refl, sym, ap, ◌∙◌}
use mathlib.Core.Bool.{false}
use mathlib.Core.List.{List, []}
use mathlib.Core.Logic.{◌↔◌}
use lib.ListN.{length}
use borrow.Author.Tests.{le-ltb}
use Rattle.rules.specs.Order.{Verdict, clear, met, first_of}
use Rattle.rules.specs.declared.Event.{Event}
use Rattle.rules.specs.LoadList.{head_size, event_size, events_in, events_of, events_bytes, list_bytes}
use Rattle.rules.specs.Refusals.{bad_list, first_bad_tick, lent}
use Rattle.rules.specs.Text.{text_of, TextReading, lines, bad_line, read_lines, lines_of, events_read, write_tests, read_tests, Writing, wrote}
use Rattle.rules.specs.Text.{refused_with, writing}
use Rattle.rules.specs.Text.{write_text, read_text, written_of, bytes_of}
use Rattle.laws.proofs.Verdicts.{has, never_met}
use Rattle.laws.proofs.RoundTrip.{length-list, read_back}
use Rattle.plan_laws.proofs.Plans.{written_read}
use Rattle.demands.specs.Table.{Gives, Quiet}
use Rattle.demands.specs.TextWords.{InShape, write_rows, read_rows}
use Rattle.demands.proofs.Tables.{gives_met, met_gives, quiet_clear, clear_quiet}
use Rattle.demands.proofs.WrittenAgain.{Bytes, written_again}
use Rattle.demands.proofs.TextReads.{shape_read, read_shape}
use Rattle.demands.proofs.TextRows.{write_words, tests_after, tests_after_lem, read_words, wrote_so, refused_so, WroteText, wrote_text, text_wrote}
use Rattle.demands.proofs.TextRows.{ReadList, read_list_lem, list_read}
use Rattle.demands.proofs.TextFits.{text_in_shape, lines_size}

-- ---- The round trips

-- A list that meets neither 8 nor 9 is written, where the room has a byte for each byte of its text.
pub well_formed_is_written : (list : List ℕ) (room : ℕ)
    → bad_list list ≡ false
    → first_bad_tick 0 (events_of list) ≡ length (events_of list)
    → length (text_of (events_of list)) ≤ room
    → write_text list room ≡ wrote (text_of (events_of list))
well_formed_is_written list room listed ordered enough =
    text_wrote list (events_of list) room listed refl (le-ltb (first_bad_tick 0 (events_of list)) (length (events_of list)) (omega arith)) enough

-- What the writer made of a list of bytes reads back as the same bytes, where the room has a place for each of them.
pub written_reads_back : (list text : List ℕ) (room room' : ℕ)
    → Bytes list
    → write_text list room ≡ wrote text
    → length list ≤ room'
    → read_text text room' ≡ wrote list
written_reads_back list text room room' bytes e enough =
    let w : WroteText list room text = wrote_text list room text e in
    let same : list_bytes (events_of list) ≡ list = written_again list w.listed bytes in
    let size : length list ≡ head_size + event_size * length (events_of list) = sym (ap length same) ∙ length-list (events_of list) in
    let read : lines_of text ≡ lines (events_of list) =
    ap lines_of (sym w.made) ∙ shape_read (text_of (events_of list)) (events_of list) (text_in_shape list w.listed bytes) in
    list_read text (events_of list) room' read w.ordered (omega arith) ∙ ap wrote same

-- Each text that is read, whatever its bytes, writes back as that text, where the room has a place for each of them.
pub read_writes_back : (text list : List ℕ) (room room' : ℕ)
    → read_text text room ≡ wrote list
    → length text ≤ room'
    → write_text list room' ≡ wrote text
read_writes_back text list room room' e enough =
    let r : ReadList text room list = read_list_lem text room list e in
    let shape : InShape text r.events = read_shape text r.events r.found in
    let size : length (text_of r.events) ≤ room' = rw (← shape.written) enough in
    ap (λ (bytes : List ℕ). write_text bytes room') (sym r.made)
    ∙ text_wrote (list_bytes r.events) r.events room' (written_read r.events shape.few) (read_back r.events shape.few).1 r.ordered size
    ∙ ap wrote (sym shape.written)

-- The empty list is the empty text, both ways.
pub the_empty_text : (room : ℕ)
    → (write_text (list_bytes []) room ≡ wrote []) × (head_size ≤ room → read_text [] room ≡ wrote (list_bytes []))
unfolding events_in events_bytes first_bad_tick text_of read_lines
the_empty_text room = (text_wrote (list_bytes []) [] room refl refl refl (omega arith), λ enough. list_read [] [] room refl refl enough)

-- ---- The table, exactly

-- The writer is refused with a number and a detail exactly when that row of its table holds and no row above it does.
pub write_refusals : (list : List ℕ) (room n d : ℕ) → (write_text list room ≡ refused_with n d) ↔ Gives (write_rows list room) n d
write_refusals list room n d = (
  λ e. met_gives _ _ n d (write_words list room) (refused_so (first_of (write_tests list room)) _ n d e),
  λ g. ap (λ (v : Verdict). writing v (text_of (events_of list))) (gives_met _ _ n d (write_words list room) g),
)

-- So it is with the reader and its table.
pub read_refusals : (text : List ℕ) (room n d : ℕ) → (read_text text room ≡ refused_with n d) ↔ Gives (read_rows text room) n d
read_refusals text room n d = (
  λ e. met_gives _ _ n d (read_words text room) (sym (tests_after_lem text room) ∙ refused_so (first_of (read_tests text room)) _ n d e),
  λ g. ap (λ (v : Verdict). writing v (list_bytes (events_read text))) (tests_after_lem text room ∙ gives_met _ _ n d (read_words text room) g),
)

-- Where no row of its table holds, and only there, the writer writes; and that is the text of the list's events.
pub write_accepts : (list text : List ℕ) (room : ℕ)
    → (write_text list room ≡ wrote text) ↔ (Quiet (write_rows list room) × (text ≡ text_of (events_of list)))
write_accepts list text room = (
  λ e.
      let (past, made) = wrote_so (first_of (write_tests list room)) (text_of (events_of list)) text e in
      (clear_quiet _ _ (write_words list room) past, sym made),
  λ h.
      ap (λ (v : Verdict). writing v (text_of (events_of list))) (quiet_clear _ _ (write_words list room) h.0) ∙ ap wrote (sym h.1),
)

-- So it is with the reader: the text is in the shape, and what is written is the list of its events.
pub read_accepts : (text list : List ℕ) (room : ℕ)
    → (read_text text room ≡ wrote list)
    ↔ (Quiet (read_rows text room) × ((events : List Event) × InShape text events × (list ≡ list_bytes events)))
read_accepts text list room = (
  λ e.
      let r : ReadList text room list = read_list_lem text room list e in
      let past = (wrote_so (first_of (read_tests text room)) (list_bytes (events_read text)) list e).0 in (
        clear_quiet _ _ (read_words text room) (sym (tests_after_lem text room) ∙ past),
        (r.events, read_shape text r.events r.found, sym r.made),
      ),
  λ h.
      let (quiet, told) = h in
      let (events, shape, made) = told in
      let read : events_read text ≡ events = rw (shape_read text events shape) in
      ap (λ (v : Verdict). writing v (list_bytes (events_read text))) (tests_after_lem text room ∙ quiet_clear _ _ (read_words text room) quiet)
      ∙ ap (λ (l : List Event). wrote (list_bytes l)) read
      ∙ ap wrote (sym made),
)

-- ---- A full answer, or a refusal and nothing else

-- What a call answers, and what it leaves in lent room.
--     full       number 0, detail 0, and the size of what it wrote
--     refused    another number and size 0, and the room is as it was
pub data FullOrRefused (w : Writing) : Type 0 where
  full : (written_of w).number ≡ 0 → (written_of w).detail ≡ 0 → (written_of w).size ≡ length (bytes_of w) → FullOrRefused w
  refused : ((written_of w).number ≡ 0 → ⊥) → (written_of w).size ≡ 0 → ((room : List ℕ) → lent (bytes_of w) room ≡ room) → FullOrRefused w

-- So it is where no test that is met has number 0.
whole : (v : Verdict) (bytes : List ℕ) → ((d : ℕ) → v ≡ met 0 d → ⊥) → FullOrRefused (writing v bytes)
whole clear bytes some = full refl refl refl
whole (met n d) bytes some = refused (λ e. some d (rw e)) refl (λ room. refl)

-- And there number 0 says that the bytes were written.
wrote_then : (v : Verdict) (bytes : List ℕ) → ((d : ℕ) → v ≡ met 0 d → ⊥) → (written_of (writing v bytes)).number ≡ 0
    → writing v bytes ≡ wrote bytes
wrote_then clear bytes some e = refl
wrote_then (met n d) bytes some e = absurd (some d (ap (λ (m : ℕ). met m d) e))

-- No test of the writer has number 0, and none of the reader.
write_never_0 : (list : List ℕ) (room d : ℕ) → first_of (write_tests list room) ≡ met 0 d → ⊥
unfolding write_tests
write_never_0 list room d = never_met (write_tests list room) 0 d refl

read_never_0 : (text : List ℕ) (room d : ℕ) → first_of (read_tests text room) ≡ met 0 d → ⊥
read_never_0 text room d e = never_met (tests_after (lines_of text) room) 0 d (no_zero (lines_of text)) (sym (tests_after_lem text room) ∙ e)
  where
    no_zero : (r : TextReading) → has 0 (tests_after r room) ≡ false
    no_zero (lines l) = refl
    no_zero (bad_line d) = refl

-- Of every row of bytes and every room, the writer answers in full or is refused and leaves the room as it was.
pub write_full_or_refused : (list : List ℕ) (room : ℕ) → FullOrRefused (write_text list room)
write_full_or_refused list room = whole (first_of (write_tests list room)) (text_of (events_of list)) (write_never_0 list room)

-- So does the reader.
pub read_full_or_refused : (text : List ℕ) (room : ℕ) → FullOrRefused (read_text text room)
read_full_or_refused text room = whole (first_of (read_tests text room)) (list_bytes (events_read text)) (read_never_0 text room)

-- Where the writer answers number 0 it wrote the text of the list's events, and the reader the list of the text's events.
pub accepted_is_written : (list : List ℕ) (room : ℕ) → (written_of (write_text list room)).number ≡ 0
    → write_text list room ≡ wrote (text_of (events_of list))
accepted_is_written list room = wrote_then (first_of (write_tests list room)) (text_of (events_of list)) (write_never_0 list room)

pub accepted_is_read : (text : List ℕ) (room : ℕ) → (written_of (read_text text room)).number ≡ 0
    → read_text text room ≡ wrote (list_bytes (events_read text))
accepted_is_read text room = wrote_then (first_of (read_tests text room)) (list_bytes (events_read text)) (read_never_0 text room)

-- ---- Room

-- An accepted call writes no more bytes than the room has: the writer
pub written_fits : (list text : List ℕ) (room : ℕ) → write_text list room ≡ wrote text → length text ≤ room
written_fits list text room e = let w : WroteText list room text = wrote_text list room text e in rw (← w.made) w.enough

-- and the reader.
pub read_fits : (text list : List ℕ) (room : ℕ) → read_text text room ≡ wrote list → length list ≤ room
read_fits text list room e =
    let r : ReadList text room list = read_list_lem text room list e in
    let size : length list ≡ head_size + event_size * length r.events = sym (ap length r.made) ∙ length-list r.events in
    omega (arith, r.enough)

-- 18 bytes to each event are room enough for the text of a list of bytes that meets neither 8 nor 9.
pub text_room_enough : (list : List ℕ)
    → Bytes list
    → bad_list list ≡ false
    → first_bad_tick 0 (events_of list) ≡ length (events_of list)
    → length (text_of (events_of list)) ≤ 18 * length (events_of list)
text_room_enough list bytes listed ordered =
    lines_size 0 (events_of list) (text_in_shape list listed bytes).fit (omega arith)
