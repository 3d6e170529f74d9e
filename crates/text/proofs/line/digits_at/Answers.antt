-- The text ends, another byte comes, or one digit more is taken along.
use Rattle.std.proofs.Common.{sym, ◌∙◌}
use Rattle.text.proofs.Digits.{at_the_end, at_another, one_passed}
use Rattle.text.proofs.line.digits_at.Goals as goal

pub returns-then-not-is_ascii_digit : goal.returns-then-not-is_ascii_digit
returns-then-not-is_ascii_digit c =
    at_another c.args.sum c.args.text.now c.args.from c.loop-end.end c.loop-end.number c.loop-end.invariant
    (sym c.is_ascii_digit.ensures.value ∙ c.if-not-is_ascii_digit.true)

pub loop-end-preserved : goal.loop-end-preserved
loop-end-preserved c =
    rw c.with_digit-number.ensures
    (one_passed c.args.sum c.args.text.now c.args.from c.loop-end.end c.loop-end.number c.loop-end.invariant c.loop-end-test.true
    (sym c.is_ascii_digit.ensures.value ∙ c.if-not-is_ascii_digit.false))

pub returns : goal.returns
returns c =
    rw c.max.ensures
    (at_the_end c.args.sum c.args.text.now c.args.from c.loop-end.end c.loop-end.number c.loop-end.invariant c.loop-end-test.false
    c.loop-end.auto.end-end)
