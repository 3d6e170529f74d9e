-- No public function of this crate has a second answer, and none but `first_bad_tick` and a list's `event` asks anything of its caller.
use mathlib.Core.Path.{refl}
use Rattle.laws.specs.NoSecond.{NoSecond, Promise}
use Rattle.laws.proofs.Same.{same}
use Rattle.sheet.specs.contracts
use Rattle.std.proofs.Common.{ℕ, List, ◌≡◌, ◌∙◌, sym, ap, subst, Some}
use Rattle.std.proofs.Math.Nat.{ℕ_set}
use denote.Bor.{Bor}
use Rattle.rules.specs.LoadList.{too_short, put_number}
use Rattle.std.specs.Prelude.{None, Result, Ok, Err, IfOk}
use Rattle.std.specs.Result.{IfErr}
use Rattle.rules.specs.declared.refusal.Refusal.{Refusal}
use Rattle.rules.specs.declared.refusal.Refusal.TheVariants.{ListForm}
use Rattle.rules.specs.Refusals.{read_list as read_list_of}
use Rattle.sheet.specs.Size.{Sized}
use Rattle.sheet.specs.declared.load_list.LoadList.{LoadList}
use Rattle.sheet.specs.Put.{put_result, number_of_put}
use Rattle.laws.proofs.Cases.{by_test}
use Rattle.sheet.proofs.job.starting_symbol as starting_symbol
use Rattle.sheet.proofs.job.starting_slots as starting_slots
use Rattle.sheet.proofs.job.read_call as read_call
use Rattle.sheet.proofs.job.call_number as call_number
use Rattle.sheet.proofs.rounds.draw_symbol as draw_symbol
use Rattle.sheet.proofs.list.list_size as list_size
use Rattle.sheet.proofs.list.read_list as read_list
use Rattle.sheet.proofs.list.read_event as read_event
use Rattle.sheet.proofs.list.put_head as put_head
use Rattle.sheet.proofs.list.put_event as put_event
use Rattle.sheet.proofs.number.put_number32 as put_number32
use Rattle.sheet.proofs.ticks.first_bad_tick as first_bad_tick
use Rattle.sheet.proofs.load_list.LoadList.read as list_read
use Rattle.sheet.proofs.load_list.LoadList.check_ticks as check_ticks
use Rattle.sheet.proofs.load_list.LoadList.event as list_event
use Rattle.sheet.proofs.walk.event_of as event_of

pub starting_symbol_promise : Promise contracts.starting_symbol.ended starting_symbol.Reads.Asked starting_symbol.Reads.Learnt
starting_symbol_promise = record { any = λ κs given. tt; one = λ κs given answer answer' left left' asked p q. (same p q, refl) }

pub starting_slots_promise : Promise contracts.starting_slots.ended starting_slots.Reads.Asked starting_slots.Reads.Learnt
starting_slots_promise = record { any = λ κs given. tt; one = λ κs given answer answer' left left' asked p q. (same p q, refl) }

pub read_call_promise : Promise contracts.read_call.ended read_call.Reads.Asked read_call.Reads.Learnt
read_call_promise = record { any = λ κs given. tt; one = λ κs given answer answer' left left' asked p q. (same p q, refl) }

pub call_number_promise : Promise contracts.call_number.ended call_number.Reads.Asked call_number.Reads.Learnt
call_number_promise = record { any = λ κs given. tt; one = λ κs given answer answer' left left' asked p q. (same p q, refl) }

pub draw_symbol_promise : Promise contracts.draw_symbol.ended draw_symbol.Reads.Asked draw_symbol.Reads.Learnt
draw_symbol_promise = record { any = λ κs given. tt; one = λ κs given answer answer' left left' asked p q. (same p q, refl) }

pub list_size_promise : Promise contracts.list_size.ended list_size.Reads.Asked list_size.Reads.Learnt
list_size_promise = record { any = λ κs given. tt; one = λ κs given answer answer' left left' asked p q. (same p q, refl) }

pub read_list_promise : Promise contracts.read_list.ended read_list.Reads.Asked read_list.Reads.Learnt
read_list_promise = record { any = λ κs given. tt; one = λ κs given answer answer' left left' asked p q. (same p q, refl) }

pub read_event_promise : Promise contracts.read_event.ended read_event.Reads.Asked read_event.Reads.Learnt
read_event_promise = record { any = λ κs given. tt; one = λ κs given answer answer' left left' asked p q. (same p q, refl) }

pub event_of_promise : Promise contracts.event_of.ended event_of.Reads.Asked event_of.Reads.Learnt
event_of_promise = record { any = λ κs given. tt; one = λ κs given answer answer' left left' asked p q. (same p q, refl) }

-- It asks for a list of the size that its events need.
pub first_bad_tick_one : NoSecond contracts.first_bad_tick.ended first_bad_tick.Reads.Asked first_bad_tick.Reads.Learnt
first_bad_tick_one κs given answer answer' left left' asked p q = (same p q, refl)

-- Two lists of the same bytes and the same number of events are the same, whatever shows their size.
abbrev listed : (bytes : Bor (List ℕ)) (count : ℕ) → Sized count bytes.now → LoadList
listed bytes count sized = record { bytes = bytes; count = count; sized = sized }

same_list : (bytes bytes' : Bor (List ℕ)) (count count' : ℕ) → bytes ≡ bytes' → count ≡ count' → (s : Sized count bytes.now)
    (s' : Sized count' bytes'.now) → listed bytes count s ≡ listed bytes' count' s'
same_list bytes bytes' count count' e f =
    subst (λ (x : Bor (List ℕ)). (s : Sized count bytes.now) (s' : Sized count' x.now) → listed bytes count s ≡ listed x count' s') e
    (subst (λ (n : ℕ). (s : Sized count bytes.now) (s' : Sized n bytes.now) → listed bytes count s ≡ listed bytes n s') f
    (λ s s'. ap (listed bytes count) (ℕ_set _ _ s s')))

-- What is read from the same bytes is the same list or the same refusal.
abbrev Read : Bor (List ℕ) → Result LoadList Refusal → Type 0
Read bytes r =
    IfOk r (λ l. (read_list_of bytes.now ≡ Some l.count) × (l.bytes ≡ bytes)) × IfErr r (λ e. (read_list_of bytes.now ≡ None) × (e ≡ ListForm))

same_reading : (bytes : Bor (List ℕ)) (r r' : Result LoadList Refusal) → Read bytes r → Read bytes r' → r ≡ r'
same_reading bytes (Ok l) (Ok l') p q =
    let counts : Some l.count ≡ Some l'.count = sym p.0.0 ∙ q.0.0 in
    let same_count : l.count ≡ l'.count = cc in
    ap (λ (z : LoadList). Ok z) (same_list l.bytes l'.bytes l.count l'.count (p.0.1 ∙ sym q.0.1) same_count l.sized l'.sized)
same_reading bytes (Ok l) (Err e) p q = let never : Some l.count ≡ None = sym p.0.0 ∙ q.1.0 in cc
same_reading bytes (Err e) (Ok l) p q = let never : Some l.count ≡ None = sym q.0.0 ∙ p.1.0 in cc
same_reading bytes (Err e) (Err e') p q = ap (λ (z : Refusal). Err z) (p.1.1 ∙ sym q.1.1)

pub list_read_promise : Promise contracts.load_list.LoadList.read.ended list_read.Reads.Asked list_read.Reads.Learnt
list_read_promise = record { any = λ κs given. tt; one = λ κs given answer answer' left left' asked p q. (same_reading given.0 answer answer' p q, refl) }

pub check_ticks_promise : Promise contracts.load_list.LoadList.check_ticks.ended check_ticks.Reads.Asked check_ticks.Reads.Learnt
check_ticks_promise = record { any = λ κs given. tt; one = λ κs given answer answer' left left' asked p q. (same p q, refl) }

-- It asks for a number of an event.
pub list_event_one : NoSecond contracts.load_list.LoadList.event.ended list_event.Reads.Asked list_event.Reads.Learnt
list_event_one κs given answer answer' left left' asked p q =
    let both : Some answer ≡ Some answer' = same p.0 q.0 in
    (cc, refl)

-- Document 01's number of what a writer answers.
pub put_number_lem : (at size : ℕ) (room : List ℕ) → number_of_put (put_result at size room) ≡ put_number at size room
put_number_lem at size room = by_test (too_short at size room) (λ short. rw short) (λ enough. rw enough)

-- The writers leave one content of the room.
pub put_head_promise : Promise contracts.put_head.ended put_head.Reads.Asked put_head.Reads.Learnt
put_head_promise =
    record {
      any = λ κs given. tt;
      one = λ κs given answer answer' left left' asked p q. (same p.0 q.0, λ i. (same p.1 q.1 i, (tt, tt)));
    }

pub put_event_promise : Promise contracts.put_event.ended put_event.Reads.Asked put_event.Reads.Learnt
put_event_promise =
    record {
      any = λ κs given. tt;
      one = λ κs given answer answer' left left' asked p q.
          (same p.0 q.0, λ i. (same p.1 q.1 i, (tt, (tt, tt))));
    }

pub put_number32_promise : Promise contracts.put_number32.ended put_number32.Reads.Asked put_number32.Reads.Learnt
put_number32_promise =
    record {
      any = λ κs given. tt;
      one = λ κs given answer answer' left left' asked p q. (refl, λ i. (same p q i, (tt, (tt, tt))));
    }
