-- The text of events one after the other.
use Prim.Native.Nat.{ℕ, ◌+◌, ◌*◌, ◌≤◌}
use native.Mathlib.Omega.{arith}
use mathlib.Core.Path.{◌≡◌, refl, sym, ap, ◌∙◌}
use mathlib.Core.List.{List, [], ◌∷◌, ◌++◌, append-nil, append_assoc}
use lib.ListN.{length, take, drop, length-append, take-append-drop, drop_of_length-le}
use lib.Seq.{take-add, take_all}
use Rattle.rules.specs.declared.Event.{Event}
use Rattle.rules.specs.Refusals.{lent}
use Rattle.rules.specs.Text.{line_of, text_of}
use Rattle.laws.proofs.Writing.{length_over, lent_longer}

pub text_append : (a b : List Event) → text_of (a ++ b) ≡ text_of a ++ text_of b
unfolding text_of
text_append [] b = refl
text_append (e ∷ a) b = rw (text_append a b) (sym (append_assoc (line_of e) (text_of a) (text_of b)))

one_line : (e : Event) → text_of (e ∷ []) ≡ line_of e
unfolding text_of
one_line e = append-nil (line_of e)

-- The lines up to an event, that event's line, and those after it.
module _ (events : List Event) (i : ℕ) (e : Event) (here : drop i events ≡ e ∷ drop (i + 1) events) where
  pub text_split : length (text_of (drop i events)) ≡ length (line_of e) + length (text_of (drop (i + 1) events))
  unfolding text_of
  text_split = ap (λ (l : List Event). length (text_of l)) here ∙ length-append (line_of e) (text_of (drop (i + 1) events))

  pub text_more : text_of (take (i + 1) events) ≡ text_of (take i events) ++ line_of e
  text_more = ap text_of (grown events i here) ∙ text_append (take i events) (e ∷ []) ∙ ap (λ (r : List ℕ). text_of (take i events) ++ r) (one_line e)
    where
      grown : (l : List Event) (i : ℕ) → drop i l ≡ e ∷ drop (i + 1) l → take (i + 1) l ≡ take i l ++ (e ∷ [])
      grown l i is = take-add i 1 l ∙ ap (λ (r : List Event). take i l ++ take 1 r) is

-- All lines are those up to a place and those from there on.
pub text_whole : (events : List Event) (i : ℕ) → length (text_of events) ≡ length (text_of (take i events)) + length (text_of (drop i events))
text_whole events i =
    ap (λ (l : List Event). length (text_of l)) (sym (take-append-drop i events))
    ∙ ap length (text_append (take i events) (drop i events))
    ∙ length-append (text_of (take i events)) (text_of (drop i events))

pub text_none : (events : List Event) (i : ℕ) → length events ≤ i → length (text_of (drop i events)) ≡ 0
unfolding text_of
text_none events i over = ap (λ (l : List Event). length (text_of l)) (drop_of_length-le events over)

-- The bytes of the lines before an event, and those of the lines from there on.
pub record LinesCounted (events : List Event) (size i : ℕ) : Type 0 where
  pub small : size ≤ 33 * i
  pub whole : length (text_of events) ≡ size + length (text_of (drop i events))

-- ---- Lines put into lent room

module _ (events : List Event) (room : List ℕ) where
  -- The lines before an event are at the front of the room, and the rest is as it was.
  pub record LinesPut (text : List ℕ) (at i : ℕ) : Type 0 where
    pub enough : length (text_of events) ≤ length room
    pub same_size : length text ≡ length room
    pub up_to : at ≡ length (text_of (take i events))
    pub holds : text ≡ lent (text_of (take i events)) room

  pub none_put : length (text_of events) ≤ length room → LinesPut room 0 0
  unfolding text_of
  none_put enough = record { enough = enough; same_size = refl; up_to = refl; holds = refl }

  module _ (text : List ℕ) (at i : ℕ) (e : Event) (here : drop i events ≡ e ∷ drop (i + 1) events) (so_far : LinesPut text at i) where
    pub put_fits : at + length (line_of e) ≤ length text
    put_fits =
        omega (arith, so_far.enough, so_far.same_size, so_far.up_to, text_whole events i, text_split events i e here)

    pub one_put : (text' : List ℕ) (at' : ℕ) → at' ≡ at + length (line_of e)
        → text' ≡ take at text ++ line_of e ++ drop (at + length (line_of e)) text
        → LinesPut text' at' (i + 1)
    one_put text' at' ends put =
        let front : List ℕ = text_of (take i events) in
        let longer : text_of (take (i + 1) events) ≡ front ++ line_of e = text_more events i e here in
        record {
          enough = so_far.enough;
          same_size = ap length put ∙ length_over at (line_of e) text put_fits ∙ so_far.same_size;
          up_to = ends ∙ rw (longer, length-append front (line_of e), so_far.up_to);
          holds =
              put
              ∙ ap (λ (t : List ℕ). take at t ++ line_of e ++ drop (at + length (line_of e)) t) so_far.holds
              ∙ lent_longer front (line_of e) room at so_far.up_to
              ∙ ap (λ (w : List ℕ). lent w room) (sym longer);
        }

  pub all_put : (text : List ℕ) (at i : ℕ) → length events ≤ i → LinesPut text at i → text ≡ lent (text_of events) room
  all_put text at i over so_far = so_far.holds ∙ ap (λ (l : List Event). lent (text_of l) room) (take_all i events over)
