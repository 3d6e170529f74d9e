-- What the writer makes of a list of events reads back as those events, and what it makes are bytes.
use Prim.Native.Nat.{ℕ, suc, ◌+◌, ◌*◌, ◌-◌, ◌/◌, ◌%◌, ◌<◌, ◌≤◌}
use native.Mathlib.Omega.{arith}
use mathlib.Core.Path.{◌≡◌, refl, ◌∙◌}
use mathlib.Core.List.{List, [], ◌∷◌, ◌++◌, append-nil}
use lib.ListN.{length, length-append}
use borrow.Author.Tests.{le-ltb, eq-eqb}
use Rattle.std.specs.Prelude.{Some}
use Rattle.rules.specs.Basics.{number16, number32, bytes16, bytes32}
use Rattle.rules.specs.declared.Event.{Event}
use Rattle.rules.specs.LoadList.{event, most_events, head_size, event_size, events_in, events_of, head_bytes, events_bytes, list_bytes}
use Rattle.rules.specs.Refusals.{read_list}

-- A number taken apart into four bytes, or two, and put together again.
joined32 : (t : ℕ) → number32 (bytes32 t) 0 ≡ t
joined32 t = omega arith

joined16 : (x : ℕ) → number16 (bytes16 x) 0 ≡ x
joined16 x = omega arith

pub events_back : (l : List Event) (rest : List ℕ) → events_in (length l) (events_bytes l ++ rest) ≡ l
unfolding events_in events_bytes
events_back [] rest = refl
events_back (this ∷ l) rest = rw (joined32 this.tick, joined16 this.symbol, events_back l rest)

pub length-events : (l : List Event) → length (events_bytes l) ≡ 7 * length l
unfolding events_bytes
length-events [] = refl
length-events (this ∷ l) = let more : length (events_bytes l) ≡ 7 * length l = length-events l in omega arith

-- A list takes seven bytes for its head and seven for each event.
pub length-list : (l : List Event) → length (list_bytes l) ≡ head_size + event_size * length l
length-list l = length-append (head_bytes (length l)) (events_bytes l) ∙ rw (length-events l)

-- The head reads back as the number of events, and the rest as the events.
pub read_back : (l : List Event) → length l ≤ most_events → (read_list (list_bytes l) ≡ Some (length l)) × (events_of (list_bytes l) ≡ l)
read_back l few =
    let size : length (events_bytes l) ≡ 7 * length l = length-events l in
    let whole : 3 + 7 * length l ≡ suc (suc (suc (suc (suc (suc (suc (7 * length l))))))) - 4 = omega arith in (
      simp (
        joined32 (3 + 7 * length l),
        joined16 (length l),
        size,
        le-ltb (suc (suc (suc (suc (suc (suc (suc (7 * length l)))))))) 7 (omega arith),
        eq-eqb _ _ whole,
        le-ltb most_events (length l) few,
        eq-eqb (3 + 7 * length l) (3 + 7 * length l) refl,
      ),
      rw joined16 (rw append-nil at (events_back l [])),
    )

-- An event whose numbers have room in its seven bytes.
pub data Fits : Event → Type 0 where
  fits : {t q x : ℕ} → t < 4294967296 → q < 256 → x < 65536 → Fits (event t q x)

pub data Every {A : Type 0} (P : A → Type 0) : List A → Type 0 where
  none : Every P []
  one : {a : A} {l : List A} → P a → Every P l → Every P (a ∷ l)

abbrev pub Byte : ℕ → Type 0
Byte b = b < 256

-- A head and an event have the same form: a number of four bytes, a byte, a number of two.
seven_bytes : (t q x : ℕ) → t < 4294967296 → q < 256 → x < 65536 → (l : List ℕ) → Every Byte l
    → Every Byte (bytes32 t ++ (q ∷ bytes16 x) ++ l)
seven_bytes t q x ht hq hx l rest =
    one {a = t / 16777216} (omega arith)
    (one {a = t / 65536 % 256} (omega arith)
    (one {a = t / 256 % 256} (omega arith)
    (one {a = t % 256} (omega arith)
    (one hq
    (one {a = x / 256} (omega arith)
    (one {a = x % 256} (omega arith) rest))))))

events_are_bytes : (l : List Event) → Every Fits l → Every Byte (events_bytes l)
unfolding events_bytes
events_are_bytes l none = none
events_are_bytes l (one {l = later} (fits {t} {q} {x} ht hq hx) rest) =
    seven_bytes t q x ht hq hx (events_bytes later) (events_are_bytes later rest)

-- A list of at most 4,096 such events is written as bytes.
pub list_is_bytes : (l : List Event) → length l ≤ most_events → Every Fits l → Every Byte (list_bytes l)
list_is_bytes l few all =
    seven_bytes (3 + 7 * length l) 1 (length l) (omega arith) (omega arith) (omega arith) (events_bytes l) (events_are_bytes l all)
