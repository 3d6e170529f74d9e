-- The slots start with the job's starting symbols, a symbol to each slot of the job.
use Rattle.std.proofs.Common.{length, sym, ap, ◌∙◌, arith}
use Rattle.rules.specs.declared.Unrolled.{Unrolled}
use Rattle.rules.specs.Job.{call, shape_of}
use Rattle.laws.proofs.Jobs.{limits}
use Rattle.laws.proofs.Symbols.{length_symbols}
use Rattle.sheet.proofs.Rows.{length-row, row_starts}
use Rattle.planner.proofs.answer.run_from_start.Goals as goal

pub slice_bounds-held-end : goal.slice_bounds-held-end
slice_bounds-held-end c =
    let a = c.args in
    let few = (limits (call a.job.bytes.now a.job.shape.rounds) a.job.shape a.job.taken).few_slots in
    omega (arith, ap length c.starting_slots-held.ensures ∙ length-row a.job.shape.slots a.job.bytes.now few)

pub slice_bounds-run_plan-end : goal.slice_bounds-run_plan-end
slice_bounds-run_plan-end c =
    let a = c.args in
    let asked = call a.job.bytes.now a.job.shape.rounds in
    let within = limits asked a.job.shape a.job.taken in
    let starts = row_starts asked a.job.shape c.starting_slots-held.result within c.starting_slots-held.ensures in
    sym (ap length starts ∙ length_symbols (shape_of asked.job).slots _ ∙ ap (λ (s : Unrolled). s.slots) (sym within.shaped))

pub run_plan-requires : goal.run_plan-requires
run_plan-requires c =
    let a = c.args in
    let asked = call a.job.bytes.now a.job.shape.rounds in
    let within = limits asked a.job.shape a.job.taken in
    record { prepared = c.requires; starts = row_starts asked a.job.shape c.starting_slots-held.result within c.starting_slots-held.ensures }
