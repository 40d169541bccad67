use Rattle.std.proofs.Common.{◌-◌, sym, ◌∙◌, arith}
use Rattle.bx_check.proofs.Clauses.{step_clause, earlier_clause}
use Rattle.bx_check.proofs.checker.clause_of.Goals as goal

pub returns-else-id-len : goal.returns-else-id-len
returns-else-id-len c k near small =
    let clauses = c.args.clauses.now.clauses in
    let steps = c.args.steps.now.steps in
    let at = step_clause clauses steps (c.args.id - 1) (c.args.id - c.first.result) c.literals.result.now (omega (arith, c.len.ensures.count, c.first.ensures, c.requires.numbered)) c.literals.ensures.value in
    sym (earlier_clause clauses steps k (c.args.id - 1) (omega (arith, c.requires.above, near)) small) ∙ at
