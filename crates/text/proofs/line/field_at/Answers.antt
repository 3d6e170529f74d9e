-- The tests are those of the definition.
use Rattle.std.proofs.Common.{sym, ◌∙◌}
use Rattle.text.proofs.Lines.{no_digit, a_number}
use Rattle.text.proofs.line.field_at.Goals as goal

pub returns-then-not-is_ascii_digit : goal.returns-then-not-is_ascii_digit
returns-then-not-is_ascii_digit c =
    let first = c.in_ok-first.ensures.lookup.3 in
    no_digit c.args.text.now c.args.from c.args.stop
    (rw (← first.1 0) (sym c.is_ascii_digit.ensures.value ∙ c.if-not-is_ascii_digit.true))

pub returns : goal.returns
returns c =
    let first = c.in_ok-first.ensures.lookup.3 in
    let last = c.in_ok-get.ensures.lookup.3 in
    a_number c.args.text.now c.args.from c.args.stop c.in_ok-first.field-0.now
    record { inside = first.0; is = first.1 0; digit = sym c.is_ascii_digit.ensures.value ∙ c.if-not-is_ascii_digit.false }
    c.requires c.number_at-end.result c.number_at-end.ensures (sym (last.1 0) ∙ c.if-branch-stop.false)
