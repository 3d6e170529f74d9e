-- At each turn the digits passed and those left make up the whole.
use Rattle.text.proofs.Digits.{DigitsPassed}
use Rattle.text.proofs.line.digits_at.Given as goal

abbrev pub invariant-loop-end : goal.invariant-loop-end
invariant-loop-end l = DigitsPassed l.sum l.text l.from l.end l.number
