use Rattle.bx_cnf.proofs.Propagation.{negation_true, negated-negated}
use Rattle.bx_cnf.proofs.laws.a_negation_is_true_where_the_literal_is_false.Goals as goal

pub returns-clause-negation : goal.returns-clause-negation
returns-clause-negation c = negation_true

pub returns-clause-twice : goal.returns-clause-twice
returns-clause-twice c = negated-negated
