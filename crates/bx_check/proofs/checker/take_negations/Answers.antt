use Rattle.std.proofs.Common.{subst, arith}
use Rattle.bx_cnf.specs.Assignments.{IsFalse}
use Rattle.bx_check.proofs.Clauses.{next_is_free}
use Rattle.bx_check.proofs.checker.take_negations.Goals as goal

pub take-requires : goal.take-requires
take-requires c = λ has.
    next_is_free c.args.literals.now c.loop-lit.lit-index c.lit-item.result c.not.result c.requires.ascending (omega arith) c.lit-item.is c.not.ensures (subst (λ ts. IsFalse ts c.not.result) c.loop-lit.invariant has)
