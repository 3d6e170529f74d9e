-- The events of a list by their number, and the two walks along them: the test of ticks, and what is due.
use Prim.Native.Nat.{ℕ, zero, suc, ◌+◌, ◌*◌, ◌<◌, ◌≤◌}
use native.Mathlib.Omega.{arith}
use native.Mathlib.Numerals.{add-one}
use mathlib.Core.Path.{◌≡◌, refl, ap, ◌∙◌}
use mathlib.Core.List.{List, ◌∷◌}
use lib.ListN.{length, get_or, drop, length-drop, drop_of_length-le}
use lib.Seq.{drop-cons, drop-drop}
use lib.Dec.{ltb}
use borrow.Author.Tests.{lt-ltb, le-ltb, eq-eqb, ne_eqb}
use Rattle.std.specs.Prelude.{Some, None}
use Rattle.rules.specs.Display.{load}
use Rattle.rules.specs.declared.Event.{Event}
use Rattle.rules.specs.LoadList.{event, head_size, event_size, event_at, last_tick, event_in, read_event, events_in}
use Rattle.rules.specs.Refusals.{first_bad_tick, due}
use Rattle.laws.proofs.Cases.{by_test}

pub length-events_in : (m : ℕ) (b : List ℕ) → length (events_in m b) ≡ m
unfolding events_in
length-events_in zero b = refl
length-events_in (suc m) b = ap suc (length-events_in m (drop 7 b))

event_at_place : (m : ℕ) (b : List ℕ) (i : ℕ) (d : Event) → i < m → get_or (events_in m b) i d ≡ event_in (drop (7 * i) b)
unfolding events_in
event_at_place zero b i d h = absurd (omega arith)
event_at_place (suc m) b zero d h = refl
event_at_place (suc m) b (suc i) d h =
    let e : 7 + 7 * i ≡ 7 * suc i = omega arith in
    event_at_place m (drop 7 b) i d (omega arith) ∙ ap event_in (drop-drop (7 * i) 7 b ∙ ap (λ (n : ℕ). drop n b) e)

-- What reading an event at its place in a list says: which event comes after those before it.
module _ (m i : ℕ) (list : List ℕ) (within : i < m) where
  pub event_read : (t q x : ℕ) → read_event (drop (event_at i) list) ≡ Some (event t q x)
      → drop i (events_in m (drop head_size list)) ≡ event t q x ∷ drop (i + 1) (events_in m (drop head_size list))
  event_read t q x e =
      let none : Event = event 0 0 0 in
      let size : length (events_in m (drop 7 list)) ≡ m = length-events_in m (drop 7 list) in
      let same : event_in (drop (event_at i) list) ≡ event t q x =
      by_test (ltb (length (drop (event_at i) list)) event_size)
      (λ short. let z : ◌≡◌ {A = ℕ} 0 1 = let g : None ≡ Some (event t q x) = rw short at e in cc in absurd (omega arith))
      (λ long. let g : Some (event _ _ _) ≡ Some (event t q x) = rw long at e in cc) in
      drop-cons (events_in m (drop 7 list)) i none (omega arith)
      ∙ rw (event_at_place m (drop 7 list) i none within, drop-drop (7 * i) 7 list, same, add-one)

  -- A list that is long enough has seven bytes for each of its events.
  pub never_short : length list ≡ head_size + event_size * m → read_event (drop (event_at i) list) ≡ None → ⊥
  never_short size e =
      let long : event_size ≤ length (drop (event_at i) list) = simp length-drop (omega arith) in
      let z : ◌≡◌ {A = ℕ} 0 1 = let g : Some (event _ _ _) ≡ None = rw (le-ltb _ _ long) at e in cc in
      omega arith

-- The walk of refusal 9 stops at an event whose tick is over the limit or too low, and goes on after any other.
pub bad_tick_over : (least t q x : ℕ) (l : List Event) → last_tick < t → first_bad_tick least (event t q x ∷ l) ≡ 0
unfolding first_bad_tick
bad_tick_over least t q x l h = rw (lt-ltb last_tick t h)

pub bad_tick_low : (least t q x : ℕ) (l : List Event) → t ≤ last_tick → t < least → first_bad_tick least (event t q x ∷ l) ≡ 0
unfolding first_bad_tick
bad_tick_low least t q x l h low = rw (le-ltb last_tick t h, lt-ltb t least low)

pub bad_tick_further : (least t q x : ℕ) (l : List Event) → t ≤ last_tick → least ≤ t
    → first_bad_tick least (event t q x ∷ l) ≡ suc (first_bad_tick (t + 1) l)
unfolding first_bad_tick
bad_tick_further least t q x l h high = rw (le-ltb last_tick t h, le-ltb t least high)

-- An event is due when its tick has come, and none is where no event is left.
pub due_now : (t q x now : ℕ) (l : List Event) → t ≡ now → due (event t q x ∷ l) now ≡ Some (load q x)
unfolding due
due_now t q x now l e = rw (eq-eqb t now e)

pub due_later : (t q x now : ℕ) (l : List Event) → (t ≡ now → ⊥) → due (event t q x ∷ l) now ≡ None
unfolding due
due_later t q x now l f = rw (ne_eqb t now f)

pub due_none : (l : List Event) (i now : ℕ) → length l ≤ i → due (drop i l) now ≡ None
unfolding due
due_none l i now h = ap (λ (r : List Event). due r now) (drop_of_length-le l h)

pub bad_tick_none : (least i : ℕ) (l : List Event) → length l ≤ i → first_bad_tick least (drop i l) ≡ 0
unfolding first_bad_tick
bad_tick_none least i l h = ap (first_bad_tick least) (drop_of_length-le l h)
