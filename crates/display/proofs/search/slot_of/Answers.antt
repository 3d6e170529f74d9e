-- A turn moves the find by the element that it looks at; after the last turn the search has begun at the row's start.
use Rattle.std.proofs.Common.{◌≡◌, ℕ, List, ◌+◌, ◌-◌, ◌<◌, ap, length, drop, arith}
use Rattle.rules.specs.Basics.{place}
use Rattle.display.specs.Search.{Found}
use Rattle.laws.proofs.Search.{place_within}
use Rattle.laws.proofs.Places.{place_here, place_further, place_past}
use Rattle.display.proofs.search.slot_of.Goals as goal

pub loop-slot-init : goal.loop-slot-init
loop-slot-init c =
    let row = c.args.slots.now in
    let past = place_past c.args.symbol row (length row) (omega arith) in
    (omega arith, omega arith, omega arith, omega arith)

pub loop-slot-preserved-then-slots-slot : goal.loop-slot-preserved-then-slots-slot
loop-slot-preserved-then-slots-slot c =
    let within : c.loop-slot.slot - 1 < length c.args.slots.now = omega arith in
    let here = place_here c.args.symbol c.args.slots.now (c.loop-slot.slot - 1) within c.if-slots-slot.true in
    (omega arith, omega arith, omega arith, omega arith)

pub loop-slot-preserved : goal.loop-slot-preserved
loop-slot-preserved c =
    let row = c.args.slots.now in
    let within : c.loop-slot.slot - 1 < length row = omega arith in
    let next : c.loop-slot.slot - 1 + 1 ≡ c.loop-slot.slot = omega arith in
    let more = place_further c.args.symbol row (c.loop-slot.slot - 1) within c.if-slots-slot.false in
    let further = ap (λ i. place c.args.symbol (drop i row)) next in
    (omega arith, omega arith, omega arith, omega arith)

-- Once all slots have been looked at, the lesser find is the one that the contract asks for.
looked_through : (symbol slot found : ℕ) (row : List ℕ) → slot ≡ 0 → found ≡ slot + place symbol (drop slot row) → Found symbol row found
looked_through symbol slot found row none is =
    let all = ap (λ i. place symbol (drop i row)) none in
    let upto = place_within symbol row in
    record { first = omega arith; within = omega arith }

pub returns-then-found-other : goal.returns-then-found-other
returns-then-found-other c = looked_through _ c.loop-slot.slot _ _ (omega arith) (omega arith)

pub returns-else-found-other : goal.returns-else-found-other
returns-else-found-other c = looked_through _ c.loop-slot.slot _ _ (omega arith) (omega arith)
