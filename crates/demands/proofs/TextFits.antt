-- The events that bytes name may be in lines, and how many bytes their lines take.
use Prim.Native.Nat.{ℕ, zero, suc, ◌+◌, ◌*◌, ◌<◌, ◌≤◌}
use native.Mathlib.Omega.{arith}
use mathlib.Core.Path.{◌≡◌, refl}
use mathlib.Core.Bool.{false, ◌||◌}
use mathlib.Core.List.{List, [], ◌∷◌}
use lib.ListN.{length, get_or, drop, length-append, get_or-eq_default}
use lib.Dec.{ltb}
use borrow.Author.Tests.{ltb-true, ltb-false}
use Rattle.rules.specs.declared.Event.{Event}
use Rattle.rules.specs.LoadList.{event, most_events, last_tick, head_size, event_size, count_of, events_in, events_of}
use Rattle.rules.specs.Refusals.{bad_list, first_bad_tick}
use Rattle.rules.specs.Text.{last_slot, last_symbol, decimal, line_of, text_of}
use Rattle.laws.proofs.Cases.{by_test, neither}
use Rattle.laws.proofs.Events.{length-events_in}
use Rattle.laws.proofs.Decimals.{decimal_most}
use Rattle.demands.specs.TextWords.{Fitting, AllFit, InShape}
use Rattle.demands.proofs.Words.{list_fails}
use Rattle.demands.proofs.WrittenAgain.{Bytes, bytes_after}
use Rattle.demands.proofs.TextReads.{none_fit, fit_later, fit_more}

-- Every byte is below 256, also the 0 that is read past the end.
byte_at : (l : List ℕ) (i : ℕ) → Bytes l → get_or l i 0 < 256
byte_at l i bytes =
    by_test (ltb i (length l))
    (λ t. bytes i (ltb-true i (length l) t))
    (λ t. rw (get_or-eq_default l 0 (ltb-false i (length l) t)) (omega arith))

-- So the events that bytes name may be in lines.
bytes_fit : (m : ℕ) (part : List ℕ) → Bytes part → AllFit (events_in m part)
unfolding events_in
bytes_fit zero part bytes = none_fit
bytes_fit (suc m) part bytes =
    let slot : get_or part 4 0 < 256 = byte_at part 4 bytes in
    let high : get_or part 5 0 < 256 = byte_at part 5 bytes in
    let low : get_or part 6 0 < 256 = byte_at part 6 bytes in
    fit_more _ (events_in m (drop event_size part))
    (record { slot = omega arith; symbol = omega arith })
    (bytes_fit m (drop event_size part) (bytes_after event_size part bytes))

-- The text of a list of bytes that can be read is in the shape.
pub text_in_shape : (list : List ℕ) → bad_list list ≡ false → Bytes list → InShape (text_of (events_of list)) (events_of list)
text_in_shape list listed bytes =
    record {
      written = refl;
      fit = bytes_fit (count_of list) (drop head_size list) (bytes_after head_size list bytes);
      few = rw (length-events_in (count_of list) (drop head_size list)) (ltb-false most_events (count_of list) (list_fails list listed).3);
    }

-- A line takes at most 18 bytes: 7 digits of a tick in its limit, 3 of a slot, 5 of a symbol, and the bytes after them.
line_size : (t q x : ℕ) → t ≤ last_tick → q ≤ last_slot → x ≤ last_symbol → length (line_of (event t q x)) ≤ 18
line_size t q x tick slot symbol =
    let ticks : length (decimal t) ≤ 7 = decimal_most 6 t (omega arith) in
    let slots : length (decimal q) ≤ 3 = decimal_most 2 q (omega arith) in
    let symbols : length (decimal x) ≤ 5 = decimal_most 4 x (omega arith) in
    simp length-append (omega arith)

-- So it is with each of some events in order.
pub lines_size : (least : ℕ) (l : List Event) → AllFit l → length l ≤ first_bad_tick least l → length (text_of l) ≤ 18 * length l
unfolding text_of first_bad_tick
lines_size least [] fit ordered = omega arith
lines_size least (this ∷ l) fit ordered =
    by_test (ltb last_tick this.tick || ltb this.tick least)
    (λ e. let none : suc (length l) ≤ 0 = rw e at ordered in absurd (omega arith))
    (λ e.
    let later : suc (length l) ≤ suc (first_bad_tick (this.tick + 1) l) = rw e at ordered in
    let fits : Fitting this = fit 0 (omega arith) in
    let tick : this.tick ≤ last_tick = ltb-false last_tick this.tick (neither (ltb last_tick this.tick) (ltb this.tick least) e).0 in
    let first : length (line_of this) ≤ 18 = line_size this.tick this.slot this.symbol tick fits.slot fits.symbol in
    let rest : length (text_of l) ≤ 18 * length l = lines_size (this.tick + 1) l (fit_later this l fit) (omega arith) in
    omega (arith, length-append (line_of this) (text_of l)))
