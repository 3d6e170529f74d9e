-- Each refusal by its number and its detail. (Document 01, "Refusal numbers"; 16 to 18: document 02, Three, Five and Six)
use Rattle.std.specs.Prelude.{ℕ, cond, eqb}
use Rattle.rules.specs.declared.refusal.Refusal.{Refusal}
use Rattle.rules.specs.declared.refusal.Refusal.TheVariants.{JobLength, JobVersion, JobLimits, JobSize, JobSymbols, PlanNumber, ShortRoom, ListForm}
use Rattle.rules.specs.declared.refusal.Refusal.TheVariants.{EventTick, LoadUnderWay, NoSuchSlot, SymbolHeld, EndlessWait, EventLeft}
use Rattle.rules.specs.declared.refusal.Refusal.TheVariants.{PastTheLastTick, LineForm, Rounds, NoSuchDraw}

abbrev pub refusal_number : Refusal → ℕ
refusal_number JobLength = 1
refusal_number JobVersion = 2
refusal_number JobLimits = 3
refusal_number JobSize = 4
refusal_number JobSymbols = 5
refusal_number PlanNumber = 6
refusal_number ShortRoom = 7
refusal_number ListForm = 8
refusal_number (EventTick event) = 9
refusal_number (LoadUnderWay event) = 10
refusal_number (NoSuchSlot event) = 11
refusal_number (SymbolHeld event) = 12
refusal_number (EndlessWait draw) = 13
refusal_number (EventLeft event) = 14
refusal_number PastTheLastTick = 15
refusal_number (LineForm line) = 16
refusal_number Rounds = 17
refusal_number NoSuchDraw = 18

-- The event, the draw or the line that is refused; 0 where it is none.
abbrev pub refusal_detail : Refusal → ℕ
refusal_detail JobLength = 0
refusal_detail JobVersion = 0
refusal_detail JobLimits = 0
refusal_detail JobSize = 0
refusal_detail JobSymbols = 0
refusal_detail PlanNumber = 0
refusal_detail ShortRoom = 0
refusal_detail ListForm = 0
refusal_detail (EventTick event) = event
refusal_detail (LoadUnderWay event) = event
refusal_detail (NoSuchSlot event) = event
refusal_detail (SymbolHeld event) = event
refusal_detail (EndlessWait draw) = draw
refusal_detail (EventLeft event) = event
refusal_detail PastTheLastTick = 0
refusal_detail (LineForm line) = line
refusal_detail Rounds = 0
refusal_detail NoSuchDraw = 0

-- What is refused before a list or a plan is looked at: the refusal of each number that the order for what a call asks about can give.
abbrev pub call_refusal : ℕ → Refusal
call_refusal number =
    cond (eqb number 1) JobLength
    (cond (eqb number 2) JobVersion
    (cond (eqb number 3) JobLimits
    (cond (eqb number 4) JobSize
    (cond (eqb number 5) JobSymbols Rounds))))
