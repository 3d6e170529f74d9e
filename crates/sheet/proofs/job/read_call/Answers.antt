-- The tests are walked in the order of the definition, whatever that order is.
use Rattle.std.proofs.Common.{ap, ◌∙◌}
use Rattle.rules.specs.Job.{call, in_rounds}
use Rattle.rules.specs.Refusals.{job_tests, call_tests}
use Rattle.laws.proofs.Verdicts.{end, stop, step}
use Rattle.laws.proofs.Jobs.{call_refused, call_taken, few_in_rounds}
use Rattle.sheet.proofs.job.read_call.Goals as goal

ruleset walk = (end, stop, step)

pub returns-then-bad_length : goal.returns-then-bad_length
unfolding job_tests call_tests
returns-then-bad_length c = call_refused (call c.args.job.now c.args.rounds) 1 (search walk depth 20 fits 4000)

pub returns-then-bad_version : goal.returns-then-bad_version
unfolding job_tests call_tests
returns-then-bad_version c = call_refused (call c.args.job.now c.args.rounds) 2 (search walk depth 20 fits 4000)

pub returns-then-bad_limits : goal.returns-then-bad_limits
unfolding job_tests call_tests
returns-then-bad_limits c = call_refused (call c.args.job.now c.args.rounds) 3 (search walk depth 20 fits 4000)

pub returns-then-bad_size : goal.returns-then-bad_size
unfolding job_tests call_tests
returns-then-bad_size c = call_refused (call c.args.job.now c.args.rounds) 4 (search walk depth 20 fits 4000)

pub returns-then-bad_symbols : goal.returns-then-bad_symbols
unfolding job_tests call_tests
returns-then-bad_symbols c = call_refused (call c.args.job.now c.args.rounds) 5 (search walk depth 20 fits 4000)

pub returns-then-bad_rounds : goal.returns-then-bad_rounds
unfolding job_tests call_tests
returns-then-bad_rounds c = call_refused (call c.args.job.now c.args.rounds) 17 (search walk depth 20 fits 4000)

pub in_rounds-requires : goal.in_rounds-requires
in_rounds-requires c =
    few_in_rounds c.args.job.now c.args.rounds c.shape_of.result c.bad_rounds.result c.shape_of.ensures c.bad_rounds.ensures c.if-bad_rounds.false

pub returns : goal.returns
unfolding job_tests call_tests
returns c =
    call_taken (call c.args.job.now c.args.rounds) c.in_rounds.result (c.in_rounds.ensures ∙ ap (in_rounds c.args.rounds) c.shape_of.ensures)
    (search walk depth 20 fits 4000)
