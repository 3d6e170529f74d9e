-- The list of loads written into lent room, head first and then event by event.
use Prim.Native.Nat.{ℕ, ◌+◌, ◌*◌, ◌<◌, ◌≤◌}
use native.Mathlib.Omega.{arith}
use native.Mathlib.Numerals.{add-one}
use mathlib.Core.Path.{◌≡◌, refl, sym, ap, ◌∙◌}
use mathlib.Core.List.{List, [], ◌∷◌, ◌++◌, map, append-nil, append_assoc}
use lib.ListN.{length, get_or, take, drop, length-append, length-map, take-append-drop, get_or-map}
use lib.Seq.{take_at, drop_at, drop-drop, take-suc, take_all, length-take-le}
use Rattle.rules.specs.declared.Event.{Event}
use Rattle.rules.specs.LoadList.{event, event_at, event_bytes, head_bytes, events_bytes, list_bytes, put_head, put_event}
use Rattle.rules.specs.Display.{loaded}
use Rattle.rules.specs.Refusals.{event_of, lent}
use Rattle.laws.proofs.Writing.{put_after, put_front, length-put, events_snoc}
use Rattle.laws.proofs.RoundTrip.{length-events, length-list}
use Rattle.planner.specs.Loads.{load_of, first_loads}
use Rattle.planner.proofs.LoadRow.{load_first, length-first}

pieces : (x x' y y' z z' : List ℕ) → x ≡ x' → y ≡ y' → z ≡ z' → (x ++ y) ++ z ≡ (x' ++ y') ++ z'
pieces x x' y y' z z' p q r = rw (p, q, r)

-- The events that are written are those of the first loads of a row.
abbrev events_of : ℕ → List ℕ → List Event
events_of count row = map event_of (first_loads count row)

-- The room holds its head and the first events over the former content `before`, and is as long as it was.
pub record SoFar (count : ℕ) (row before room : List ℕ) (index : ℕ) : Type 0 where
  pub in_list : index ≤ count
  pub enough : 7 + 7 * count ≤ length before
  pub same_size : length room ≡ length before
  pub holds : room ≡ (take 7 before ++ events_bytes (take index (events_of count row))) ++ drop (event_at index) before

module _ (count : ℕ) (row : List ℕ) (there : count ≤ length row) where
  abbrev events : List Event
  events = events_of count row

  many : length events ≡ count
  many = length-map (first_loads count row) event_of ∙ length-first count row there

  event_there : (i t d q x : ℕ) → i < count → loaded t d q x ≡ load_of (get_or row i 0) → event t q x ≡ get_or events i (event_of (load_of 0))
  event_there i t d q x within is =
      ap event_of (is ∙ sym (load_first count i row within)) ∙ sym (get_or-map event_of (first_loads count row) i (load_of 0))

  module _ (before : List ℕ) (enough : 7 + 7 * count ≤ length before) where
    so_far : (i : ℕ) → i ≤ count → length (take 7 before ++ events_bytes (take i events)) ≡ event_at i
    so_far i within =
        let all : length events ≡ count = many in
        let first : length (take 7 before) ≡ 7 = length-take-le 7 before (omega arith) in
        let some : length (take i events) ≡ i = length-take-le i events (omega arith) in
        length-append (take 7 before) (events_bytes (take i events)) ∙ rw (first, length-events (take i events), some)

    pub so_far_none : SoFar count row before before 0
    unfolding events_bytes
    so_far_none =
        record {
          in_list = omega arith;
          enough = enough;
          same_size = refl;
          holds = rw (append-nil (take 7 before)) (sym (take-append-drop 7 before));
        }

  pub so_far_more : (before room : List ℕ) (i t d q x : ℕ) → i < count → loaded t d q x ≡ load_of (get_or row i 0) → SoFar count row before room i
      → SoFar count row before (put_event i (event t q x) room) (i + 1)
  so_far_more before room i t d q x within is far =
      let all : length events ≡ count = many in
      let enough : 7 + 7 * count ≤ length before = far.enough in
      let longer : take (i + 1) events ≡ take i events ++ (event t q x ∷ []) =
      rw (add-one, take-suc events i (event_of (load_of 0)) (omega arith), event_there i t d q x within is) in
      let next : event_at i + 7 ≡ event_at (i + 1) = omega arith in
      record {
        in_list = omega arith;
        enough = enough;
        same_size = length-put (event_at i) (event_bytes (event t q x)) room ∙ far.same_size;
        holds =
            ap (put_event i (event t q x)) far.holds
            ∙ put_after (take 7 before ++ events_bytes (take i events)) (event_bytes (event t q x)) (event_at i) before
            (so_far before enough i (omega arith)) refl (omega arith)
            ∙ rw (next, longer, events_snoc, append_assoc (take 7 before) (events_bytes (take i events)) (event_bytes (event t q x)));
      }

  -- In the end the room holds the whole list over its former content.
  pub so_far_all : (first room : List ℕ) → 7 + 7 * count ≤ length first → SoFar count row (put_head count first) room count
      → room ≡ lent (list_bytes events) first
  so_far_all first room enough far =
      let all : length events ≡ count = many in
      let headed : put_head count first ≡ head_bytes count ++ drop 7 first = put_front count first (omega arith) in
      let front : take 7 (head_bytes count ++ drop 7 first) ≡ head_bytes count = take_at (head_bytes count) (drop 7 first) 7 refl in
      let after : drop (event_at count) (head_bytes count ++ drop 7 first) ≡ drop (event_at count) first =
      sym (drop-drop (7 * count) 7 (head_bytes count ++ drop 7 first))
      ∙ ap (λ (r : List ℕ). drop (7 * count) r) (drop_at (head_bytes count) (drop 7 first) 7 refl)
      ∙ drop-drop (7 * count) 7 first in
      let size : length (list_bytes events) ≡ event_at count = length-list events ∙ rw all refl in
      far.holds
      ∙ pieces (take 7 (put_head count first)) (head_bytes (length events)) (events_bytes (take count events)) (events_bytes events)
      (drop (event_at count) (put_head count first)) (drop (length (list_bytes events)) first)
      (ap (λ (r : List ℕ). take 7 r) headed ∙ front ∙ ap head_bytes (sym all))
      (ap events_bytes (take_all count events (omega arith)))
      (ap (λ (r : List ℕ). drop (event_at count) r) headed ∙ after ∙ ap (λ (n : ℕ). drop n first) (sym size))
