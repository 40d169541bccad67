use Rattle.bx_cnf.proofs.Propagation.{clause_pairs}
use Rattle.bx_cnf.proofs.laws.the_variables_of_a_clause_ascend.Goals as goal

pub returns : goal.returns
returns c = clause_pairs
