-- Heads and events put into lent room: what it holds then, and that it is as long as before.
use Prim.Native.Nat.{ℕ, ◌+◌, ◌≤◌}
use native.Mathlib.Omega.{arith}
use mathlib.Core.Path.{◌≡◌, sym, ap, ◌∙◌}
use mathlib.Core.List.{List, [], ◌∷◌, ◌++◌, append-nil, append_assoc}
use lib.ListN.{length, take, drop, length-append, length-drop}
use lib.Seq.{take_at, drop_at, drop-drop, drop-append-add, length-take-le}
use borrow.Author.Tests.{le-ltb, ltb-false}
use Rattle.rules.specs.declared.Event.{Event}
use Rattle.rules.specs.LoadList.{event_bytes, head_bytes, events_bytes, put, too_short, put_head}
use Rattle.rules.specs.Refusals.{lent}
use Rattle.laws.proofs.Cases.{by_test}

-- Seven bytes put after what was written so far.
pub put_after : (front new : List ℕ) (at : ℕ) (before : List ℕ) → length front ≡ at → length new ≡ 7 → at + 7 ≤ length before
    → put at new (front ++ drop at before) ≡ (front ++ new) ++ drop (at + 7) before
put_after front new at before written seven fits =
    let size : length (front ++ drop at before) ≡ length before =
    length-append front (drop at before) ∙ rw (written, length-drop at before) (omega arith) in
    let after : drop (at + 7) (front ++ drop at before) ≡ drop (at + 7) before =
    sym (drop-drop 7 at (front ++ drop at before)) ∙ ap (λ (l : List ℕ). drop 7 l) (drop_at front (drop at before) at written) ∙ drop-drop 7 at before in
    rw (seven, size, le-ltb (length before) (at + 7) fits, take_at front (drop at before) at written, after)

-- A head put at the front of the room.
pub put_front : (count : ℕ) (before : List ℕ) → 7 ≤ length before → put_head count before ≡ head_bytes count ++ drop 7 before
put_front count before fits = rw (le-ltb (length before) 7 fits)

-- The room stays as long as it is.
pub length_over : (at : ℕ) (new room : List ℕ) → at + length new ≤ length room
    → length (take at room ++ new ++ drop (at + length new) room) ≡ length room
length_over at new room fits =
    length-append (take at room ++ new) (drop (at + length new) room)
    ∙ rw (length-append (take at room) new, length-take-le at room (omega arith), length-drop (at + length new) room) (omega arith)

pub length-put : (at : ℕ) (new room : List ℕ) → length (put at new room) ≡ length room
length-put at new room =
    by_test (too_short at (length new) room)
    (λ t. rw t)
    (λ t. rw t (length_over at new room (ltb-false (length room) (at + length new) t)))

-- One event more.
pub events_snoc : (l : List Event) (e : Event) → events_bytes (l ++ (e ∷ [])) ≡ events_bytes l ++ event_bytes e
unfolding events_bytes
events_snoc [] e = append-nil (event_bytes e)
events_snoc (x ∷ l) e = rw (events_snoc l e) (sym (append_assoc (event_bytes x) (events_bytes l) (event_bytes e)))

-- What is put after what was put is put with it.
pub put_longer : (at : ℕ) (a b room : List ℕ) (n : ℕ) → at ≤ length room → n ≡ at + length a
    → take n (take at room ++ a ++ drop (at + length a) room) ++ b ++ drop (n + length b) (take at room ++ a ++ drop (at + length a) room)
    ≡ take at room ++ (a ++ b) ++ drop (at + length (a ++ b)) room
put_longer at a b room n fits is =
    let front : length (take at room ++ a) ≡ n = length-append (take at room) a ∙ rw (length-take-le at room fits) (sym is) in
    let size : at + length a + length b ≡ at + length (a ++ b) = rw (length-append a b) (omega arith) in
    let after : drop (n + length b) ((take at room ++ a) ++ drop (at + length a) room) ≡ drop (at + length (a ++ b)) room =
    sym (drop-drop (length b) n ((take at room ++ a) ++ drop (at + length a) room))
    ∙ ap (drop (length b)) (drop_at (take at room ++ a) (drop (at + length a) room) n front)
    ∙ drop-drop (length b) (at + length a) room
    ∙ ap (λ (m : ℕ). drop m room) size in
    rw (take_at (take at room ++ a) (drop (at + length a) room) n front, after, append_assoc (take at room) a b)

-- The same at the front of lent memory.
pub lent_longer : (a b room : List ℕ) (n : ℕ) → n ≡ length a
    → take n (lent a room) ++ b ++ drop (n + length b) (lent a room) ≡ lent (a ++ b) room
lent_longer a b room n is =
    rw (
      take_at a (drop (length a) room) n (sym is),
      is,
      drop-append-add a (drop (length a) room) (length b),
      drop-drop (length b) (length a) room,
      length-append a b,
    )
