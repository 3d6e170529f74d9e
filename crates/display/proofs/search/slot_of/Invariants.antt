-- At each turn the lesser of the two finds is the place of the symbol in the slots looked at so far, counted from the row's start.
use Rattle.std.proofs.Common.{◌≡◌, ◌+◌, ◌≤◌, length, drop, min}
use Rattle.rules.specs.Basics.{place}
use Rattle.display.proofs.search.slot_of.Given as goal

abbrev pub invariant-loop-slot : goal.invariant-loop-slot
invariant-loop-slot l =
    (l.slot ≤ length l.slots)
    × (l.slot ≤ l.found)
    × (l.slot ≤ l.other)
    × (min l.found l.other ≡ l.slot + place l.symbol (drop l.slot l.slots))

abbrev pub decreases-loop-slot : goal.decreases-loop-slot
decreases-loop-slot l = l.slot
