use Rattle.bx_cnf.proofs.Propagation.{true_or_false, never_both}
use Rattle.bx_cnf.proofs.laws.a_literal_is_true_or_false.Goals as goal

pub returns-clause-some : goal.returns-clause-some
returns-clause-some c = true_or_false

pub returns-clause-one : goal.returns-clause-one
returns-clause-one c = never_both
