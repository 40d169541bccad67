use Rattle.std.proofs.Common.{rules, arith}
use Rattle.bx_cnf.proofs.Formulas.{ascend_more, within_more, clause_all}
use Rattle.bx_cnf.proofs.clauses.is_clause.Goals as goal

pub loop-lit-preserved : goal.loop-lit-preserved
loop-lit-preserved c =
    let more = ascend_more c.loop-lit.last c.var-var.result c.args.literals.now c.loop-lit.lit-index c.lit-item.result (omega arith) c.lit-item.is c.var-var.ensures.var (omega arith) in
    record {
      whole = λ h. c.loop-lit.invariant.whole (more.1 h);
      rest = λ h. more.0 (c.loop-lit.invariant.rest h);
      within = within_more _ _ _ _ _ (omega arith) c.lit-item.is c.var-var.ensures.var (omega arith) c.loop-lit.invariant.within;
    }

pub returns : goal.returns
returns c =
    (λ _. clause_all c.args.vars c.loop-lit.last c.loop-lit.lit-index c.args.literals.now (omega arith) c.loop-lit.invariant.whole c.loop-lit.invariant.within, λ _. search rules)
