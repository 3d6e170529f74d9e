-- A turn fills one place more.
use Rattle.std.proofs.Common.{◌≡◌, ◌<◌, ◌≤◌, length, sym, ◌∙◌, arith}
use Rattle.rules.specs.Job.{Call, call, draws_of, most_draws}
use Rattle.laws.proofs.Jobs.{draw_read}
use Rattle.choice.proofs.Rows.{row_more}
use Rattle.choice.proofs.row.row_of.Goals as goal

pub loop-place-preserved : goal.loop-place-preserved
loop-place-preserved c =
    let l = c.loop-place in
    let asked : Call = call c.args.job.now c.args.shape.rounds in
    let less : l.place < c.args.shape.draws = omega arith in
    let many : length (draws_of asked) ≡ c.args.shape.draws = c.requires.many_draws in
    let few : c.args.shape.draws ≤ most_draws = c.requires.few_draws in
    row_more (draws_of asked) l.row l.place c.draw_symbol.result (omega arith) (omega arith) l.invariant
    (c.draw_symbol.ensures ∙ sym (draw_read c.requires l.place less))
