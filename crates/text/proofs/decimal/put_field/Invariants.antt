-- At each turn the digits to come and those that are there make up the number.
use Rattle.text.proofs.Fields.{FieldPassed}
use Rattle.text.proofs.decimal.put_field.Given as goal

abbrev pub invariant-loop-place : goal.invariant-loop-place
invariant-loop-place l = FieldPassed l.at l.number l.initial.text l.text l.left l.place
