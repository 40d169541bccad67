use Rattle.std.proofs.Common.{◌-◌, arith}
use Rattle.bx_search.proofs.Numbered.{behind-clauses}
use Rattle.bx_search.proofs.analyze.clause_of.Goals as goal

pub returns-else-id-own : goal.returns-else-id-own
returns-else-id-own c = behind-clauses c.args.clauses.now.clauses c.args.steps.now.steps c.args.id (c.args.id - c.len-own.result - 1) c.literals.result.now (omega arith) c.literals.ensures.value
