use Rattle.bx_check.proofs.Borders.{found_fails, found_pass}
use Rattle.bx_check.proofs.checker.first_failure.Goals as goal

pub returns-clause-fails : goal.returns-clause-fails
returns-clause-fails c = found_fails c.failure_between.result c.args.clauses.now c.args.steps.now.steps c.len.result c.len.ensures.count c.failure_between.ensures

pub returns-clause-pass : goal.returns-clause-pass
returns-clause-pass c = found_pass c.failure_between.result c.args.clauses.now c.args.steps.now.steps c.len.result c.len.ensures.count c.failure_between.ensures
