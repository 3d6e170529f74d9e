-- A word whose first byte is no digit names no number.
use Rattle.std.proofs.Common.{sym}
use Rattle.report.proofs.Digits.{no_digit}
use Rattle.report.proofs.rounds.rounds_in.Goals as goal

pub returns-then-not-is_ascii_digit : goal.returns-then-not-is_ascii_digit
returns-then-not-is_ascii_digit c = sym (no_digit _ _ _ c.in_ok-first.ensures.cases.0 _ c.is_ascii_digit.ensures.value c.if-not-is_ascii_digit.true)
