-- The symbol that was read is that of the draw.
use Rattle.std.proofs.Common.{sym, ◌∙◌}
use Rattle.laws.proofs.Jobs.{draw_read}
use Rattle.checker.proofs.reason.symbol_of.Goals as goal

pub returns : goal.returns
returns c = λ within. c.draw_symbol.ensures ∙ sym (draw_read c.args.job.limits c.args.draw within)
