-- A list as text, over every outcome of `govahrin_write_text` and `govahrin_read_text`. What it speaks of: crates/demands/specs/TextWords.
use Prim.Native.Nat.{ℕ, ◌≤◌}
use mathlib.Core.Path.{◌≡◌, refl, sym, ap, ◌∙◌}
use mathlib.Core.List.{List}
use lib.ListN.{length, take}
use lib.Seq.{take_at}
use Rattle.rules.specs.declared.Written.{Written}
use Rattle.rules.specs.Refusals.{lent}
use Rattle.rules.specs.LoadList.{events_of, list_bytes}
use Rattle.rules.specs.Text.{text_of, events_read, Writing, wrote, refused_with, write_text, read_text, written_of, bytes_of}
use Rattle.demands.specs.Table.{Row, Gives}
use Rattle.demands.specs.TextWords.{write_rows, read_rows}
use Rattle.demands.proofs.WrittenAgain.{Bytes}
use Rattle.demands.proofs.TextDemands.{written_reads_back, read_writes_back, write_refusals, read_refusals, written_fits, read_fits}
use Rattle.demands.proofs.TextDemands.{accepted_is_written, accepted_is_read}
use Rattle.guarantees.specs.Outcomes.{WriteOutcome, ReadOutcome}
use Rattle.guarantees.specs.Answers.{Wrote, WriteAnswers}

-- ---- What the outcomes are by the rules

module _ {list text : List ℕ} {answer : Written} {text' : List ℕ} (o : WriteOutcome list text answer text') where
  write_answer : answer ≡ written_of (write_text list (length text))
  write_answer = rw (← o.with_list, ← o.with_text) o.learnt.0

  write_room : text' ≡ lent (bytes_of (write_text list (length text))) text
  write_room = rw (← o.with_list, ← o.with_text, ← o.left_text) o.learnt.1

module _ {text list : List ℕ} {answer : Written} {list' : List ℕ} (o : ReadOutcome text list answer list') where
  read_answer : answer ≡ written_of (read_text text (length list))
  read_answer = rw (← o.with_text, ← o.with_list) o.learnt.0

  read_room : list' ≡ lent (bytes_of (read_text text (length list))) list
  read_room = rw (← o.with_text, ← o.with_list, ← o.left_list) o.learnt.1

-- ---- A full answer, or the one refusal that the table gives

module _ (rows : List Row) (room : List ℕ) (answer : Written) (room' : List ℕ) where
  -- So it is with whatever comes of a call that answers by it.
  answers_by : (w : Writing) → answer ≡ written_of w → room' ≡ lent (bytes_of w) room
      → ((n d : ℕ) → w ≡ refused_with n d → Gives rows n d) → ((bytes : List ℕ) → w ≡ wrote bytes → length bytes ≤ length room)
      → WriteAnswers rows room answer room'
  answers_by (wrote bytes) is left gives fits =
      WriteAnswers.accepted bytes
      (record {
        number = ap (λ (a : Written). a.number) is;
        detail = ap (λ (a : Written). a.detail) is;
        size = ap (λ (a : Written). a.size) is;
        fits = fits bytes refl;
        holds = left;
      })
  answers_by (refused_with n d) is left gives fits = WriteAnswers.refused (rw is (gives n d refl)) (ap (λ (a : Written). a.size) is) left

-- Of any bytes and any room, the writer answers in full or with the one refusal of its table.
pub writer_always_answers : {list text : List ℕ} {answer : Written} {text' : List ℕ} → WriteOutcome list text answer text'
    → WriteAnswers (write_rows list (length text)) text answer text'
writer_always_answers {list} {text} o =
    answers_by (write_rows list (length text)) text _ _ (write_text list (length text)) (write_answer o) (write_room o)
    (λ n d e. (write_refusals list (length text) n d).0 e) (λ bytes e. written_fits list bytes (length text) e)

-- So does the reader.
pub reader_always_answers : {text list : List ℕ} {answer : Written} {list' : List ℕ} → ReadOutcome text list answer list'
    → WriteAnswers (read_rows text (length list)) list answer list'
reader_always_answers {text} {list} o =
    answers_by (read_rows text (length list)) list _ _ (read_text text (length list)) (read_answer o) (read_room o)
    (λ n d e. (read_refusals text (length list) n d).0 e) (λ bytes e. read_fits text bytes (length list) e)

-- ---- There and back

module _ (room : List ℕ) {answer : Written} {room' : List ℕ} (w : Writing) (bytes : List ℕ) (is : answer ≡ written_of w)
    (left : room' ≡ lent (bytes_of w) room) (e : w ≡ wrote bytes) where
  -- What a call wrote is at the front of the room, as long as its answer says.
  front : take answer.size room' ≡ bytes
  front = rw (is, left, e) (take_at bytes _ (length bytes) refl)

  wrote_them : length bytes ≤ length room → Wrote bytes room answer room'
  wrote_them fits = rw (is, left, e) (record { number = refl; detail = refl; size = refl; fits = fits; holds = refl })

-- What the writer made of a list of bytes, handed to the reader with room enough, comes back as the same bytes.
pub written_list_reads_back : {list text : List ℕ} {answer : Written} {text' : List ℕ} → WriteOutcome list text answer text' → answer.number ≡ 0
    → Bytes list
    → {room : List ℕ} {again : Written} {room' : List ℕ} → ReadOutcome (take answer.size text') room again room'
    → length list ≤ length room
    → Wrote list room again room'
written_list_reads_back {list} {text} {answer} {text'} o done bytes {room} r enough =
    let made : write_text list (length text) ≡ wrote (text_of (events_of list)) =
    accepted_is_written list (length text) (ap (λ (a : Written). a.number) (sym (write_answer o)) ∙ done) in
    let given : take answer.size text' ≡ text_of (events_of list) =
    front text (write_text list (length text)) (text_of (events_of list)) (write_answer o) (write_room o) made in
    wrote_them room (read_text (take answer.size text') (length room)) list (read_answer r) (read_room r)
    (rw given (written_reads_back list (text_of (events_of list)) (length text) (length room) bytes made enough)) enough

-- A text that was read, written again with room enough, comes back as that text.
pub read_text_writes_back : {text list : List ℕ} {answer : Written} {list' : List ℕ} → ReadOutcome text list answer list' → answer.number ≡ 0
    → {room : List ℕ} {again : Written} {room' : List ℕ} → WriteOutcome (take answer.size list') room again room'
    → length text ≤ length room
    → Wrote text room again room'
read_text_writes_back {text} {list} {answer} {list'} o done {room} w enough =
    let made : read_text text (length list) ≡ wrote (list_bytes (events_read text)) =
    accepted_is_read text (length list) (ap (λ (a : Written). a.number) (sym (read_answer o)) ∙ done) in
    let given : take answer.size list' ≡ list_bytes (events_read text) =
    front list (read_text text (length list)) (list_bytes (events_read text)) (read_answer o) (read_room o) made in
    wrote_them room (write_text (take answer.size list') (length room)) text (write_answer w) (write_room w)
    (rw given (read_writes_back text (list_bytes (events_read text)) (length list) (length room) made enough)) enough
