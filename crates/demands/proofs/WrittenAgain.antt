-- A list of bytes that can be read is what is written for its events: no two lists of bytes have the same events.
use Prim.Native.Nat.{ℕ, zero, suc, ◌+◌, ◌*◌, ◌-◌, ◌/◌, ◌%◌, ◌<◌, ◌≤◌}
use native.Mathlib.Omega.{arith}
use mathlib.Core.Path.{◌≡◌, refl, sym, ap, ◌∙◌}
use mathlib.Core.Bool.{false}
use mathlib.Core.List.{List, [], ◌∷◌, ◌++◌}
use lib.ListN.{length, get_or, drop, length-drop}
use lib.Seq.{drop-cons, get_or-drop}
use borrow.Author.Tests.{ltb-false, eqb-true, not-false}
use Rattle.rules.specs.Basics.{number16, number32, bytes16, bytes32}
use Rattle.rules.specs.LoadList.{head_size, event_size, count_of, events_in, events_of, events_bytes, list_bytes}
use Rattle.rules.specs.Refusals.{bad_list}
use Rattle.laws.proofs.Cases.{neither}
use Rattle.laws.proofs.Rows.{Each}
use Rattle.laws.proofs.Events.{length-events_in}

-- Each number of a list is a byte.
abbrev pub Bytes : List ℕ → Type 0
Bytes list = Each (λ b. b < 256) list

-- Seven bytes read as a number of four bytes, a byte and a number of two, and written again.
seven : (l : List ℕ) → event_size ≤ length l → Bytes l
    → bytes32 (number32 l 0) ++ (get_or l 4 0 ∷ bytes16 (number16 l 5)) ++ drop event_size l ≡ l
seven l long bytes =
    let b0 : get_or l 0 0 < 256 = bytes 0 (omega arith) in
    let b1 : get_or l 1 0 < 256 = bytes 1 (omega arith) in
    let b2 : get_or l 2 0 < 256 = bytes 2 (omega arith) in
    let b3 : get_or l 3 0 < 256 = bytes 3 (omega arith) in
    let b5 : get_or l 5 0 < 256 = bytes 5 (omega arith) in
    let b6 : get_or l 6 0 < 256 = bytes 6 (omega arith) in
    let e0 : number32 l 0 / 16777216 ≡ get_or l 0 0 = omega arith in
    let e1 : number32 l 0 / 65536 % 256 ≡ get_or l 1 0 = omega arith in
    let e2 : number32 l 0 / 256 % 256 ≡ get_or l 2 0 = omega arith in
    let e3 : number32 l 0 % 256 ≡ get_or l 3 0 = omega arith in
    let e5 : number16 l 5 / 256 ≡ get_or l 5 0 = omega arith in
    let e6 : number16 l 5 % 256 ≡ get_or l 6 0 = omega arith in
    rw (e0, e1, e2, e3, e5, e6)
    (sym
    (drop-cons l 0 0 (omega arith)
    ∙ ap (λ (r : List ℕ). get_or l 0 0 ∷ r) (drop-cons l 1 0 (omega arith))
    ∙ ap (λ (r : List ℕ). get_or l 0 0 ∷ get_or l 1 0 ∷ r) (drop-cons l 2 0 (omega arith))
    ∙ ap (λ (r : List ℕ). get_or l 0 0 ∷ get_or l 1 0 ∷ get_or l 2 0 ∷ r) (drop-cons l 3 0 (omega arith))
    ∙ ap (λ (r : List ℕ). get_or l 0 0 ∷ get_or l 1 0 ∷ get_or l 2 0 ∷ get_or l 3 0 ∷ r) (drop-cons l 4 0 (omega arith))
    ∙ ap (λ (r : List ℕ). get_or l 0 0 ∷ get_or l 1 0 ∷ get_or l 2 0 ∷ get_or l 3 0 ∷ get_or l 4 0 ∷ r) (drop-cons l 5 0 (omega arith))
    ∙ ap (λ (r : List ℕ). get_or l 0 0 ∷ get_or l 1 0 ∷ get_or l 2 0 ∷ get_or l 3 0 ∷ get_or l 4 0 ∷ get_or l 5 0 ∷ r) (drop-cons l 6 0 (omega arith))))

-- What comes after some bytes are bytes.
pub bytes_after : (n : ℕ) (l : List ℕ) → Bytes l → Bytes (drop n l)
bytes_after n l bytes i h =
    let size : length (drop n l) ≡ length l - n = length-drop n l in rw (get_or-drop n l i 0) (bytes (n + i) (omega arith))

-- The bytes of some events, read and written again.
events_again : (m : ℕ) (part : List ℕ) → length part ≡ event_size * m → Bytes part → events_bytes (events_in m part) ≡ part
unfolding events_in events_bytes
events_again zero [] size bytes = refl
events_again zero (x ∷ part) size bytes = absurd (omega arith)
events_again (suc m) part size bytes =
    let left : length (drop event_size part) ≡ event_size * m = omega (arith, length-drop event_size part) in
    rw (events_again m (drop event_size part) left (bytes_after event_size part bytes)) (seven part (omega arith) bytes)

-- A whole list.
pub written_again : (list : List ℕ) → bad_list list ≡ false → Bytes list → list_bytes (events_of list) ≡ list
written_again list read bytes =
    let (rest, ends) = neither _ _ read in
    let (rest', few) = neither _ _ rest in
    let (rest'', version) = neither _ _ rest' in
    let (short, stated) = neither _ _ rest'' in
    let long : head_size ≤ length list = ltb-false _ _ short in
    let one : get_or list 4 0 ≡ 1 = eqb-true _ _ (not-false _ version) in
    let size : number32 list 0 ≡ length list - 4 = eqb-true _ _ (not-false _ stated) in
    let needed : number32 list 0 ≡ 3 + event_size * count_of list = eqb-true _ _ (not-false _ ends) in
    let left : length (drop head_size list) ≡ event_size * count_of list = omega (arith, length-drop head_size list) in
    let events : events_bytes (events_of list) ≡ drop head_size list =
    events_again (count_of list) (drop head_size list) left (bytes_after head_size list bytes) in
    rw (length-events_in (count_of list) (drop head_size list), events, ← needed)
    (ap (λ (v : ℕ). bytes32 (number32 list 0) ++ (v ∷ bytes16 (count_of list)) ++ drop head_size list) (sym one) ∙ seven list long bytes)
