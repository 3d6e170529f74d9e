-- The row begins with the draws.
use Rattle.std.proofs.Common.{◌≡◌, ℕ, List, take, sym}
use Rattle.rules.specs.Job.{Call, call, draws_of}
use Rattle.laws.proofs.Jobs.{limits}
use Rattle.planner.proofs.Planning.{row_draws, row_size, row_long}
use Rattle.rules.specs.declared.Unrolled.{Unrolled}
use Rattle.choice.specs.Rows.{row_of}
use Rattle.planner.specs.Runs.{HasPlaces}
use Rattle.planner.proofs.answer.run_of.Goals as goal

pub row_of-all-requires : goal.row_of-all-requires
row_of-all-requires c = limits (call c.args.job.now c.args.shape.rounds) c.args.shape c.requires.taken

pub slice_bounds-all-end : goal.slice_bounds-all-end
slice_bounds-all-end c =
    let asked = call c.args.job.now c.args.shape.rounds in
    row_long asked c.args.shape c.row_of-all.result (limits asked c.args.shape c.requires.taken) c.row_of-all.ensures

pub slice_bounds-row-end : goal.slice_bounds-row-end
slice_bounds-row-end c =
    let asked = call c.args.job.now c.args.shape.rounds in
    sym (row_size asked c.args.shape c.row_of-all.result (limits asked c.args.shape c.requires.taken) c.row_of-all.ensures)

-- The draws of the job are the front of the row that was copied.
front : (asked : Call) (shape : Unrolled) (row loads : List ℕ) → HasPlaces asked shape loads → row ≡ row_of asked
    → draws_of asked ≡ take shape.draws row
front asked shape row loads has copied = row_draws asked shape row (limits asked shape has.taken) copied

pub invariant_of-taken : goal.invariant_of-taken
invariant_of-taken c = record { taken = c.requires.taken; drawn = front _ c.args.shape _ _ c.requires c.row_of-all.ensures }
