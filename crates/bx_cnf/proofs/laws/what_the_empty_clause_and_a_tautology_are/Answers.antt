use Rattle.bx_cnf.proofs.Propagation.{empty_never, tautology_always}
use Rattle.bx_cnf.proofs.laws.what_the_empty_clause_and_a_tautology_are.Goals as goal

pub returns-clause-empty : goal.returns-clause-empty
returns-clause-empty c = empty_never

pub returns-clause-tautology : goal.returns-clause-tautology
returns-clause-tautology c = tautology_always
